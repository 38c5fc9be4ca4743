use Rattle.ft_table.specs.Growth.{InGrows, RowsGrow, TotalsGrow}
use Rattle.ft_made.proofs.Counters.{get-made_hits_of, tally-made, tally-made_found, tally-made_kept}
use Rattle.ft_made.proofs.laws.made_tallies.Goals as goal

pub returns : goal.returns
returns c =
    let rows : RowsGrow = c.one_more_hit.ensures.rows in
    let totals : TotalsGrow = c.one_more_hit.ensures.totals in
    let members : InGrows = c.one_more_hit.ensures.members in
    record { tally = tally-made rows totals members; hits = get-made_hits_of; kept = tally-made_kept rows totals members; readings = tally-made_found rows totals members }
