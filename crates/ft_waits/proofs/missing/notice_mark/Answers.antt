use Rattle.std.specs.Prelude.{◌∷◌, Option}
use Rattle.std.proofs.Common.{sym, ap, subst, ◌∙◌}
use Rattle.ft_event.specs.declared.mark.Mark.{Mark}
use Rattle.ft_losses.specs.Notes.{quiet_note}
use Rattle.ft_waits.specs.Missing.{running, running_after_mark}
use Rattle.ft_waits.specs.inner.Running.{RunsTasks}
use Rattle.ft_waits.proofs.missing.notice_mark.Goals as goal

pub returns-in-Some-clause-running : goal.returns-in-Some-clause-running
unfolding running
returns-in-Some-clause-running c = λ before runs.
    subst (λ (m : Option Mark). RunsTasks c.lose_by.new.running.items (quiet_note m ∷ before)) (sym c.in-Some.is)
    (λ cpu low. c.lose_by.ensures.at cpu low ∙ ap (running_after_mark cpu c.in-Some.mark) (runs cpu low))

pub returns-in-None-clause-running : goal.returns-in-None-clause-running
unfolding running
returns-in-None-clause-running c = λ before runs.
    subst (λ (m : Option Mark). RunsTasks c.args.running.now.items (quiet_note m ∷ before)) (sym c.in-None.is) (λ cpu low. runs cpu low)
