-- What a stream tells of a text: the dispatches that end a wait.
use Rattle.std.specs.Prelude.{◌≡◌, ℕ, Bool, List, [], filter, Option, Some, None, is_some}
use Rattle.ft_dispatch.specs.Began.{waiting_since}
use Rattle.ft_dispatch.specs.Holding.{Holds}
use Rattle.ft_dispatch.specs.Joining.{others}
use Rattle.ft_dispatch.specs.declared.dispatch.Dispatch.{Dispatch}
use Rattle.ft_waits.specs.Choice.{Choice}
use Rattle.ft_waits.specs.Reading.{history, dispatches_in, Fails, FailsAt}
use Rattle.ft_waits.specs.Streams.{HasRead, AreDispatches, counts_kept, last_kept}
use Rattle.ft_waits.specs.declared.left_out.LeftOut.{LeftOut}
use Rattle.ft_waits.specs.declared.left_out.Without.{Without}
use Rattle.ft_waits.specs.declared.stream.Waits.{Waits}
use Rattle.ft_losses.specs.declared.hole.Hole.{Hole}
use Rattle.ft_stream.specs.declared.apart.Part.{Part}
use Rattle.ft_stream.specs.declared.fault.StreamFault.{StreamFault}
use Rattle.ft_stream.specs.declared.fault.StreamFault.TheVariants.{Text, NoStream}
use Rattle.ft_stream.specs.declared.phase.Finished.{Finished}
use Rattle.ft_stream.specs.declared.phase.Phase.{Phase}
use Rattle.ft_stream.specs.declared.phase.Phase.TheVariants as phases

-- whether a dispatch ends a wait: something made its task runnable
abbrev pub ends_wait : Dispatch → Bool
ends_wait dispatch = is_some (waiting_since dispatch.since)

-- the dispatches that end a wait
abbrev pub waits_of : List Dispatch → List Dispatch
waits_of dispatches = filter ends_wait dispatches

-- the waits of a trace text, without some of its events
abbrev pub waits_in : List Without → List ℕ → List Dispatch
waits_in without text = waits_of (dispatches_in without text)

-- a text was read so far, and these waits were told of it
pub record HasTold (choice : Choice) (waits : Waits) (text : List ℕ) (told : List Dispatch) : Type 0 where
  pub dispatches : List Dispatch
  pub has_read : HasRead choice waits text dispatches
  pub well : waits.failed ≡ None
  pub are_waits : told ≡ waits_of dispatches

-- a part of a longer text was read so far: of each task the first dispatch is held back, and these waits were told of the others, at places counted from the part's own start
pub record HoldsBack (choice : Choice) (part : Part) (text : List ℕ) (told : List Dispatch) : Type 0 where
  pub dispatches : List Dispatch
  pub has_read : HasRead choice part.waits text dispatches
  pub well : part.waits.failed ≡ None
  pub held : Holds part.firsts dispatches
  pub are_waits : told ≡ waits_of (others dispatches)

-- the answer to a whole text: its waits were told, no line of it is refused, and waits are doubted by its holes
pub record AreWaits (choice : Choice) (text : List ℕ) (told : List Dispatch) (finished : Finished) : Type 0 where
  pub are_waits : told ≡ waits_in choice.without text
  pub answer : AreDispatches choice text (dispatches_in choice.without text) finished.read
  pub doubts : finished.doubts ≡ finished.read.losses.holes.items

-- what the text of a stream is: a whole one, or a part of a longer one that is not its beginning
pub data Kind : Type 0 where
  Whole : Kind
  Apart : Kind

-- by where a stream stands: what it has read of a text of this kind, and the waits that it told of it; or the text is refused
abbrev pub Streams : Kind → Choice → Phase → List ℕ → List Dispatch → Type 0
Streams kind choice phases.Idle text told = ⊥
Streams kind choice (phases.Running waits) text told = (kind ≡ Whole) × HasTold choice waits text told
Streams kind choice (phases.Part part) text told = (kind ≡ Apart) × HoldsBack choice part text told
Streams kind choice (phases.Failed fault) text told = Fails choice.bad_lines text fault
Streams kind choice (phases.Finished finished) text told = ⊥

-- the same of a text that has ended
abbrev pub Ends : Choice → Phase → List ℕ → List Dispatch → Type 0
Ends choice phases.Idle text told = ⊥
Ends choice (phases.Running waits) text told = ⊥
Ends choice (phases.Part part) text told = ⊥
Ends choice (phases.Failed fault) text told = FailsAt choice.bad_lines (history text) fault
Ends choice (phases.Finished finished) text told = AreWaits choice text told finished

-- why a stream takes no piece there, if it is so
abbrev pub refused_at : Phase → Option StreamFault
refused_at phases.Idle = Some NoStream
refused_at (phases.Running waits) = None
refused_at (phases.Part part) = None
refused_at (phases.Failed fault) = Some (Text fault)
refused_at (phases.Finished finished) = Some NoStream

-- why no whole text runs there, which could end, be summed up or be joined to, if it is so
abbrev pub no_whole_at : Phase → Option StreamFault
no_whole_at phases.Idle = Some NoStream
no_whole_at (phases.Running waits) = None
no_whole_at (phases.Part part) = Some NoStream
no_whole_at (phases.Failed fault) = Some (Text fault)
no_whole_at (phases.Finished finished) = Some NoStream

-- why a text that has ended was refused, if it was
abbrev pub failed_at : Phase → Option StreamFault
failed_at phases.Idle = None
failed_at (phases.Running waits) = None
failed_at (phases.Part part) = None
failed_at (phases.Failed fault) = Some (Text fault)
failed_at (phases.Finished finished) = None

-- why waits can't be doubted, if the text has not ended
abbrev pub unfinished_at : Phase → Option StreamFault
unfinished_at phases.Idle = Some NoStream
unfinished_at (phases.Running waits) = Some NoStream
unfinished_at (phases.Part part) = Some NoStream
unfinished_at (phases.Failed fault) = Some (Text fault)
unfinished_at (phases.Finished finished) = None

-- the holes of a text that has ended
abbrev pub holes_at : Phase → List Hole
holes_at phases.Idle = []
holes_at (phases.Running waits) = []
holes_at (phases.Part part) = []
holes_at (phases.Failed fault) = []
holes_at (phases.Finished finished) = finished.doubts

-- how many events each CPU had so far, by its number
abbrev pub events_at : Phase → List ℕ
events_at phases.Idle = []
events_at (phases.Running waits) = counts_kept waits
events_at (phases.Part part) = counts_kept part.waits
events_at (phases.Failed fault) = []
events_at (phases.Finished finished) = finished.read.events.items

-- how many events were left out, once the text has ended
abbrev pub left_out_at : Phase → List LeftOut
left_out_at phases.Idle = []
left_out_at (phases.Running waits) = []
left_out_at (phases.Part part) = []
left_out_at (phases.Failed fault) = []
left_out_at (phases.Finished finished) = finished.read.left_out.items

-- the stamp of the last event so far
abbrev pub last_at : Phase → Option ℕ
last_at phases.Idle = None
last_at (phases.Running waits) = last_kept waits
last_at (phases.Part part) = last_kept part.waits
last_at (phases.Failed fault) = None
last_at (phases.Finished finished) = finished.read.last

-- why a stream doesn't tell it, if it is so
abbrev pub untold_at : Phase → Option StreamFault
untold_at phases.Idle = Some NoStream
untold_at (phases.Running waits) = None
untold_at (phases.Part part) = None
untold_at (phases.Failed fault) = Some (Text fault)
untold_at (phases.Finished finished) = None

-- what was read, if the text has ended
abbrev pub finished_at : Phase → Option Finished
finished_at phases.Idle = None
finished_at (phases.Running waits) = None
finished_at (phases.Part part) = None
finished_at (phases.Failed fault) = None
finished_at (phases.Finished finished) = Some finished
