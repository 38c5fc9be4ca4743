use Rattle.std.proofs.Common.{sym, subst, ◌++◌, List, ℕ}
use Rattle.std.specs.Prelude.{IfNone}
use Rattle.ft_dispatch.specs.declared.dispatch.Dispatch.{Dispatch}
use Rattle.ft_waits.specs.Choice.{Choice}
use Rattle.ft_waits.specs.Reading.{Fails}
use Rattle.ft_waits.specs.declared.fault.WaitsFault.{WaitsFault}
use Rattle.ft_stream.specs.Telling.{Kind, Streams, refused_at}
use Rattle.ft_stream.specs.declared.phase.Phase.{Phase}
use Rattle.ft_stream.proofs.phase.feed_phase.Goals as goal

-- by where the stream stands: why its text fails at a piece
abbrev FailsThere : List ℕ → WaitsFault → Phase → Type 0
FailsThere piece fault phase = IfNone (refused_at phase) ((kind : Kind) (choice : Choice) (text : List ℕ) (before : List Dispatch) → Streams kind choice phase text before → Fails choice.bad_lines (text ++ piece) fault)

pub returns-in-Err-clause-reads : goal.returns-in-Err-clause-reads
returns-in-Err-clause-reads c =
    subst (FailsThere c.args.piece.now c.in-Err.fault) (sym c.in-Running.is) (λ kind choice text before was. c.in-Err.ensures.fails choice text before was.1)

pub returns-in-Err-feed-clause-reads : goal.returns-in-Err-feed-clause-reads
returns-in-Err-feed-clause-reads c =
    subst (FailsThere c.args.piece.now c.in-Err-feed.fault) (sym c.in-Part.is) (λ kind choice text before was. c.in-Err-feed.ensures.fails choice text before was.1)
