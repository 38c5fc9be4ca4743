use Rattle.std.proofs.Common.{refl, inl, inr, rules}
use Rattle.std.proofs.lemmas.Result.{err_from_is_err_and}
use Rattle.ft_desk_core.proofs.Edits.{load-events, load-refused}
use Rattle.ft_desk_core.proofs.Unmade.{text_held}
use Rattle.ft_desk_core.proofs.desk.Desk.load.Goals as goal

pub returns-clause-gives : goal.returns-clause-gives
returns-clause-gives g c = rw (load-events c.args.self.now.base c.args.text.now _ c.in_ok-events.ensures) (search rules)

pub returns-in_err-events-clause-gives : goal.returns-in_err-events-clause-gives
returns-in_err-events-clause-gives g c =
    let same = err_from_is_err_and c.from_residual.result c.from_residual.ensures.1 in
    rw (same.1, same.2) (
      refl,
      refl,
      elim c.in_err-events.ensures [
        | inl memory ↦ inl memory
        | inr bad ↦ inr (load-refused c.args.self.now.base c.args.text.now _ bad)
      ],
    )

pub load_store-requires : goal.load_store-requires
load_store-requires g c = text_held c.no_made_event.ensures c.args.text.now c.in_ok-events.events (search rules)
