use Rattle.std.proofs.Common.{rules}
use Rattle.ft_session.specs.Calls.{Edits, EditsInPlace}
use Rattle.ft_session.proofs.Numbers.{remove-id}
use Rattle.ft_session.proofs.session.Session.remove.Goals as goal

pub returns-in-Ok : goal.returns-in-Ok
unfolding Edits EditsInPlace
returns-in-Ok c =
    let same = remove-id _ _ _ _ c.in-Ok.ensures.gives.0 in
    search (same, rules)
