use Rattle.ft_repair.proofs.KeptShelves.{Grounds, quiet_shelf}
use Rattle.ft_repair.proofs.laws.others_stay.Goals as goal

pub returns : goal.returns
returns c =
    let grounds : Grounds = record { rows = c.one_more_hit.ensures.rows; totals = c.one_more_hit.ensures.totals; members = c.one_more_hit.ensures.members; one = c.one_source.ensures } in
    λ triggers others events old new kept will id hist attached still quiet shelf its there is. (quiet_shelf grounds triggers others events old new kept will id hist attached still quiet shelf its there is).0
