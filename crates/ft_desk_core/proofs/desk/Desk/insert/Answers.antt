use Rattle.std.proofs.Common.{refl, inr, rules}
use Rattle.std.proofs.lemmas.Result.{err_from_is_err_and}
use Rattle.ft_desk_core.proofs.Edits.{insert-event, insert-refused}
use Rattle.ft_desk_core.proofs.desk.Desk.insert.Goals as goal

pub returns-clause-gives : goal.returns-clause-gives
returns-clause-gives g c = rw (insert-event c.args.self.now.base c.args.line.now _ c.in_ok-event.ensures) (search rules)

pub returns-in_err-event-clause-gives : goal.returns-in_err-event-clause-gives
returns-in_err-event-clause-gives g c =
    let same = err_from_is_err_and c.from_residual.result c.from_residual.ensures.1 in
    rw (same.1, same.2) (refl, refl, inr (insert-refused c.args.self.now.base c.args.line.now _ c.in_err-event.ensures))
