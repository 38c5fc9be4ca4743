use Rattle.std.proofs.Common.{rules}
use Rattle.ft_session.specs.Calls.{Edits}
use Rattle.ft_session.proofs.Numbers.{refilter-id}
use Rattle.ft_session.proofs.session.Session.refilter.Goals as goal

pub returns-in-Ok : goal.returns-in-Ok
unfolding Edits
returns-in-Ok c =
    let same = refilter-id _ _ _ _ _ c.in-Ok.ensures.gives.0 in
    search (same, rules)
