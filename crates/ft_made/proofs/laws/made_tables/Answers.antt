use Rattle.ft_made.proofs.Counters.{tally-made_table}
use Rattle.ft_made.proofs.MadeTables.{made_change, made_fit, put_changes, take_changes}
use Rattle.ft_made.proofs.laws.made_tables.Goals as goal

pub returns : goal.returns
returns c = record {
  tally = tally-made_table c.one_more_hit.ensures.rows c.one_more_hit.ensures.totals c.one_more_hit.ensures.members;
  fit = made_fit c.fitting_parts.ensures.fits;
  change = made_change;
  put = put_changes;
  take = take_changes;
}
