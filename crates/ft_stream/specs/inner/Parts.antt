-- A part that takes a piece.
use Rattle.std.specs.Prelude.{◌≡◌, ℕ, List, ◌++◌, None}
use Rattle.ft_dispatch.specs.Holding.{Holds}
use Rattle.ft_dispatch.specs.Joining.{others}
use Rattle.ft_dispatch.specs.declared.dispatch.Dispatch.{Dispatch}
use Rattle.ft_waits.specs.Choice.{Choice}
use Rattle.ft_waits.specs.Reading.{Fails}
use Rattle.ft_waits.specs.Streams.{HasRead}
use Rattle.ft_waits.specs.declared.fault.WaitsFault.{WaitsFault}
use Rattle.ft_stream.specs.declared.apart.Part.{Part}

-- a piece was read, of whatever text: of the dispatches that it told the first one of each task is held back, and the others are given
pub record ReadsApart (choice : Choice) (part : Part) (text : List ℕ) (before given : List Dispatch) : Type 0 where
  pub dispatches : List Dispatch
  pub has_read : HasRead choice part.waits text dispatches
  pub well : part.waits.failed ≡ None
  pub held : Holds part.firsts dispatches
  pub gave : before ++ given ≡ others dispatches

abbrev pub TakesApart : List ℕ → Part → Part → List Dispatch → Type 0
TakesApart piece old new given = (choice : Choice) (text : List ℕ) (told : List Dispatch) → HasRead choice old.waits text told → Holds old.firsts told → ReadsApart choice new (text ++ piece) (others told) given

-- the text is refused at the piece
abbrev pub FailsApart : List ℕ → Part → WaitsFault → Type 0
FailsApart piece old fault = (choice : Choice) (text : List ℕ) (told : List Dispatch) → HasRead choice old.waits text told → Fails choice.bad_lines (text ++ piece) fault
