use Rattle.std.proofs.Common.{sym, subst, ◌∙◌, ◌++◌, List, ℕ}
use Rattle.std.specs.Prelude.{IfNone}
use Rattle.ft_dispatch.specs.declared.dispatch.Dispatch.{Dispatch}
use Rattle.ft_waits.specs.Choice.{Choice}
use Rattle.ft_waits.specs.Reading.{history, FailsAt}
use Rattle.ft_waits.specs.declared.fault.WaitsFault.{WaitsFault}
use Rattle.ft_stream.specs.Telling.{Whole, Streams, AreWaits, no_whole_at}
use Rattle.ft_stream.specs.declared.phase.Finished.{Finished}
use Rattle.ft_stream.specs.declared.phase.Phase.{Phase}
use Rattle.ft_stream.proofs.phase.finish_phase.Goals as goal

-- by where the stream stands: what is told at its text's end, and why that is refused
abbrev EndsThere : List Dispatch → Finished → Phase → Type 0
EndsThere told finished phase = IfNone (no_whole_at phase) ((choice : Choice) (text : List ℕ) (before : List Dispatch) → Streams Whole choice phase text before → AreWaits choice text (before ++ told) finished)

abbrev FailsThere : WaitsFault → Phase → Type 0
FailsThere fault phase = IfNone (no_whole_at phase) ((choice : Choice) (text : List ℕ) (before : List Dispatch) → Streams Whole choice phase text before → FailsAt choice.bad_lines (history text) fault)

pub returns-in-Ok-clause-reads : goal.returns-in-Ok-clause-reads
returns-in-Ok-clause-reads c =
    subst (EndsThere c.take_end.new.told.items c.in-Ok.finished) (sym c.in-Running.is ∙ c.replace.ensures.value) (λ choice text before was. c.in-Ok.ensures.reads choice text before was.1)

pub returns-in-Err-clause-reads : goal.returns-in-Err-clause-reads
returns-in-Err-clause-reads c =
    subst (FailsThere c.in-Err.fault) (sym c.in-Running.is ∙ c.replace.ensures.value) (λ choice text before was. c.in-Err.ensures.fails choice text before was.1)
