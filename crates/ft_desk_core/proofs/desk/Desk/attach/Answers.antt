use Rattle.std.proofs.Common.{refl, inl, inr, rules}
use Rattle.std.proofs.lemmas.Result.{err_from_is_err_and}
use Rattle.ft_desk_core.proofs.Edits.{attach-trigger, attach-refused}
use Rattle.ft_desk_core.proofs.desk.Desk.attach.Goals as goal

pub returns-clause-gives : goal.returns-clause-gives
returns-clause-gives g c = rw (attach-trigger c.args.self.now.base c.args.event c.args.text.now _ c.in_ok-trigger.ensures.reads) (search rules)

pub returns-in_err-trigger-clause-gives : goal.returns-in_err-trigger-clause-gives
returns-in_err-trigger-clause-gives g c =
    let same = err_from_is_err_and c.from_residual.result c.from_residual.ensures.1 in
    rw (same.1, same.2) (
      refl,
      refl,
      elim c.in_err-trigger.ensures.reads [
        | inl memory ↦ inl memory
        | inr bad ↦ inr (attach-refused c.args.self.now.base c.args.event c.args.text.now _ bad)
      ],
    )
