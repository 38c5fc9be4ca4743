use Rattle.ft_repair.proofs.KeptShelves.{Grounds, filter_stays, ops_stay, reader_shelf}
use Rattle.ft_repair.proofs.laws.readers_stay.Goals as goal

pub returns : goal.returns
returns c =
    let grounds : Grounds = record { rows = c.one_more_hit.ensures.rows; totals = c.one_more_hit.ensures.totals; members = c.one_more_hit.ensures.members; one = c.one_source.ensures } in
    record { operations = ops_stay grounds; shelves = reader_shelf grounds; filter = filter_stays grounds }
