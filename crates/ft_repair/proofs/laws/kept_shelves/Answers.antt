use Rattle.ft_repair.proofs.KeptShelves.{Grounds, tally-on, fit-on, table-of, readings-are, ops-on}
use Rattle.ft_repair.proofs.laws.kept_shelves.Goals as goal

pub returns : goal.returns
returns c =
    let grounds : Grounds = record { rows = c.one_more_hit.ensures.rows; totals = c.one_more_hit.ensures.totals; members = c.one_more_hit.ensures.members; one = c.one_source.ensures } in
    record {
      tally = tally-on grounds;
      fit = λ triggers events shelves kept id hist shelf attached there. fit-on grounds triggers events shelves kept id hist shelf attached there c.fitting_parts.ensures.fits;
      hits = table-of grounds;
      readings = readings-are grounds;
      ops = ops-on grounds;
    }
