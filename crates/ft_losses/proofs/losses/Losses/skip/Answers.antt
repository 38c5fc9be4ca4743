use Rattle.std.proofs.Common.{subst, sym, ◌∷◌}
use Rattle.std.specs.Prelude.{Option}
use Rattle.ft_event.specs.declared.mark.Mark.{Mark}
use Rattle.ft_losses.specs.Notes.{quiet_note}
use Rattle.ft_losses.specs.Telling.{IsKept}
use Rattle.ft_losses.proofs.Noting.{silent-more}
use Rattle.ft_losses.proofs.losses.Losses.skip.Goals as goal

pub returns-in-None : goal.returns-in-None
returns-in-None c = λ notes keeps number.
    let old = c.args.self.now in
    subst (λ (m : Option Mark). IsKept old.lanes.items old.ended.items old.begins (quiet_note m ∷ notes)) (sym c.in-None.is) (silent-more old.lanes.items old.ended.items old.begins notes keeps)
