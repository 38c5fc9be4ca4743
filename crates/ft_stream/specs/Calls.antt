-- What each call of a stream does. All of it is our own choice.
use Rattle.std.specs.Prelude.{◌≡◌, ◌⊎◌, ℕ, List, [], ◌++◌, length, map, Option, Some, None, MatchOption, IsSomeAnd, Bool, is_some, unwrap_or}
use Rattle.ft_dispatch.specs.declared.dispatch.Dispatch.{Dispatch}
use Rattle.ft_fields.specs.declared.event.Name.{Name}
use Rattle.ft_held_waits.specs.Held.{dispatches_held}
use Rattle.ft_lanes.specs.Held.{Lanes}
use Rattle.ft_waits.specs.Choice.{Choice, all_events}
use Rattle.ft_waits.specs.declared.fault.BadLines.{BadLines}
use Rattle.ft_waits.specs.declared.fault.WaitsFault.TheVariants.{Memory}
use Rattle.ft_stream.specs.Doubting.{with_doubt}
use Rattle.ft_stream.specs.Faults.{fault_code, code_of}
use Rattle.ft_stream.specs.Joining.{CanBeJoined, IsNotJoined, JoinsTold, RanOut}
use Rattle.ft_stream.specs.Layouts.{read_layout}
use Rattle.ft_stream.specs.Leaving.{LeavesThemOut, IsRefused}
use Rattle.ft_stream.specs.Summing.{SumsThemUp, IsTooLate}
use Rattle.ft_stream.specs.Telling.{Kind, Whole, Apart, Streams, Ends, refused_at, no_whole_at, failed_at, unfinished_at, untold_at, finished_at, holes_at, last_at, waits_of}
use Rattle.ft_stream.specs.declared.fault.StreamFault.{StreamFault}
use Rattle.ft_stream.specs.declared.fault.StreamFault.TheVariants.{Text}
use Rattle.ft_stream.specs.declared.layouts.ReadLayout.{ReadLayout}
use Rattle.ft_stream.specs.declared.layouts.WaitLayout.{WaitLayout}
use Rattle.ft_stream.specs.declared.phase.Phase.TheVariants.{Idle}
use Rattle.ft_stream.specs.declared.stream.Stream.{Stream}

-- no stream has begun, no waits are there, and nothing was refused
abbrev pub IsIdle : Stream → Type 0
IsIdle new = (new.phase ≡ Idle) × (new.waits.items ≡ []) × (new.refused ≡ None)

-- a call is refused for this: the stream is as before, except for the refusal that it holds
abbrev pub Refuses : StreamFault → Stream → ℕ → Stream → Type 0
Refuses why old code new = (code ≡ fault_code why) × (new ≡ record old { refused = Some why })

-- a stream begins of which nothing is read; it is refused only for memory, and then the one that was there stays
unfoldable pub Begins : BadLines → Stream → ℕ → Stream → Type 0
Begins policy old code new =
    MatchOption new.refused
    ((code ≡ 0) × Streams Whole (all_events policy) new.phase [] [] × (refused_at new.phase ≡ None) × (new.waits.items ≡ []) × (new ≡ record old { phase = new.phase; waits = new.waits; refused = None }))
    (λ why. (why ≡ Text Memory) × Refuses why old code new)

-- the same of a stream whose text is a part of a longer one: it takes pieces, and its first dispatches are held back
unfoldable pub BeginsPart : BadLines → Stream → ℕ → Stream → Type 0
BeginsPart policy old code new =
    MatchOption new.refused
    ((code ≡ 0) × Streams Apart (all_events policy) new.phase [] [] × (refused_at new.phase ≡ None) × (new.waits.items ≡ []) × (new ≡ record old { phase = new.phase; waits = new.waits; refused = None }))
    (λ why. (why ≡ Text Memory) × Refuses why old code new)

-- events are left out of a stream that runs and of which nothing is read; if it is refused, the stream goes on as before
unfoldable pub LeavesOutOn : Name → List ℕ → Stream → ℕ → Stream → Type 0
LeavesOutOn name filter old code new =
    MatchOption new.refused
    (LeavesThemOut name filter old.phase new.phase)
    (λ why. IsRefused name filter old.phase new.phase why)
    × (code ≡ code_of new.refused)
    × (new ≡ record old { phase = new.phase; refused = new.refused })

-- the same, by whether a stream runs
unfoldable pub LeavesOut : Name → List ℕ → Stream → ℕ → Stream → Type 0
LeavesOut name filter old code new =
    MatchOption (refused_at old.phase)
    (LeavesOutOn name filter old code new)
    (λ why. Refuses why old code new)

-- tasks and CPUs are summed up as well in a stream that runs and of which nothing is read; if it is refused, the stream is as before
unfoldable pub SumsUpOn : Stream → ℕ → Stream → Type 0
SumsUpOn old code new =
    MatchOption new.refused
    ((code ≡ 0) × SumsThemUp old.phase new.phase × (new ≡ record old { phase = new.phase; refused = None }))
    (λ why. IsTooLate old.phase why × Refuses why old code new)

-- the same, by whether a stream runs whose text is not a part
unfoldable pub SumsUp : Stream → ℕ → Stream → Type 0
SumsUp old code new =
    MatchOption (no_whole_at old.phase)
    (SumsUpOn old code new)
    (λ why. Refuses why old code new)

-- the count is that of the waits that were told; after a refusal there are none, and the count is as before
abbrev pub IsCounted : Option StreamFault → ℕ → List Dispatch → ℕ → Type 0
IsCounted refused before waits count = MatchOption refused (count ≡ length waits) (λ _. (count ≡ before) × (waits ≡ []))

-- a stream that runs takes a piece of whatever text it has read, a whole one or a part: the waits that it tells are there
unfoldable pub FeedsOn : List ℕ → Stream → ℕ → ℕ → ℕ → Stream → Type 0
FeedsOn piece old before code count new =
    ((kind : Kind) (choice : Choice) (text : List ℕ) (told : List Dispatch) → Streams kind choice old.phase text told → Streams kind choice new.phase (text ++ piece) (told ++ new.waits.items))
    × (new.refused ≡ refused_at new.phase)
    × (code ≡ code_of new.refused)
    × IsCounted new.refused before new.waits.items count
    × (new ≡ record old { phase = new.phase; waits = new.waits; refused = new.refused })

-- a feed, by whether a stream runs
unfoldable pub Feeds : List ℕ → Stream → ℕ → ℕ → ℕ → Stream → Type 0
Feeds piece old before code count new =
    MatchOption (refused_at old.phase)
    (FeedsOn piece old before code count new)
    (λ why. Refuses why old code new × (count ≡ before))

-- a stream that runs ends: the waits that are left are there, and what was read is written
unfoldable pub FinishesOn : Stream → ReadLayout → ℕ → ℕ → ReadLayout → ℕ → Stream → Type 0
FinishesOn old read_before before code read count new =
    ((choice : Choice) (text : List ℕ) (told : List Dispatch) → Streams Whole choice old.phase text told → Ends choice new.phase text (told ++ new.waits.items))
    × (new.refused ≡ failed_at new.phase)
    × (code ≡ code_of new.refused)
    × IsCounted new.refused before new.waits.items count
    × MatchOption new.refused (IsSomeAnd (finished_at new.phase) (λ finished. read ≡ read_layout finished)) (λ _. read ≡ read_before)
    × (new ≡ record old { phase = new.phase; waits = new.waits; refused = new.refused })

-- the end of a text, by whether a stream runs whose text is not a part
unfoldable pub Finishes : Stream → ReadLayout → ℕ → ℕ → ReadLayout → ℕ → Stream → Type 0
Finishes old read_before before code read count new =
    MatchOption (no_whole_at old.phase)
    (FinishesOn old read_before before code read count new)
    (λ why. Refuses why old code new × (read ≡ read_before) × (count ≡ before))

-- a part is joined behind the text that a stream has read: the waits that this tells are there, and no stream is left where the part was. If it is refused, both streams are as before, except for the refusal that the first one holds; or memory ran out
unfoldable pub Joins : Stream → Stream → ℕ → ℕ → ℕ → Stream → Stream → Type 0
Joins old part before code count new part_now =
    MatchOption new.refused
    ((code ≡ 0) × CanBeJoined old.phase part.phase × JoinsTold old.phase part.phase new.phase new.waits.items × (refused_at new.phase ≡ None) × (count ≡ length new.waits.items)
    × (new ≡ record old { phase = new.phase; waits = new.waits; refused = None }) × (part_now ≡ record part { phase = Idle }))
    (λ why. ((IsNotJoined old.phase part.phase why × Refuses why old code new × (part_now ≡ part))
    ⊎ (CanBeJoined old.phase part.phase × RanOut why new.phase part_now.phase new.waits.items × (code ≡ fault_code why)
    × (new ≡ record old { phase = new.phase; waits = new.waits; refused = Some why }) × (part_now ≡ record part { phase = Idle })))
    × (count ≡ before))

-- the last stamp so far is written, of a stream that runs or whose text has ended
unfoldable pub TellsLast : Stream → ℕ → Bool → ℕ → ℕ → Bool → Stream → Type 0
TellsLast old stamp_before has_before code stamp has new =
    MatchOption (untold_at old.phase)
    ((code ≡ 0) × (stamp ≡ unwrap_or (last_at old.phase) 0) × (has ≡ is_some (last_at old.phase)) × (new ≡ record old { refused = None }))
    (λ why. Refuses why old code new × (stamp ≡ stamp_before) × (has ≡ has_before))

-- the waits of held events are there now, and the stream stands where it stood; it is refused only for memory, and then the waits stay too
unfoldable pub Holds : Lanes → Stream → ℕ → ℕ → ℕ → Stream → Type 0
Holds lanes old before code count new =
    MatchOption new.refused
    ((code ≡ 0) × (new.waits.items ≡ waits_of (dispatches_held lanes)) × (count ≡ length new.waits.items) × (new ≡ record old { waits = new.waits; refused = None }))
    (λ why. (why ≡ Text Memory) × Refuses why old code new × (count ≡ before))

-- it is written how sure waits are, by the holes of a text that has ended
unfoldable pub DoubtsWaits : List WaitLayout → Stream → ℕ → List WaitLayout → Stream → Type 0
DoubtsWaits before old code waits new =
    MatchOption (unfinished_at old.phase)
    ((code ≡ 0) × (waits ≡ map (with_doubt (holes_at old.phase)) before) × (new ≡ record old { refused = None }))
    (λ why. Refuses why old code new × (waits ≡ before))
