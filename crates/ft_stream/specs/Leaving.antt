-- Which events a stream leaves out.
use Rattle.std.specs.Prelude.{◌≡◌, ◌≢◌, ◌⊎◌, ℕ, List, [], ◌∷◌, Some, None, Result, Ok, Err}
use Rattle.ft_fields.specs.declared.event.Name.{Name}
use Rattle.ft_fields.specs.declared.event.Name.TheVariants as names
use Rattle.ft_filter.specs.Answers.{filter_of}
use Rattle.ft_filter.specs.Tree.{Tree}
use Rattle.ft_filter.specs.declared.fault.FilterFault.{FilterFault}
use Rattle.ft_dispatch.specs.declared.dispatch.Dispatch.{Dispatch}
use Rattle.ft_waits.specs.Choice.{Choice, and_without}
use Rattle.ft_waits.specs.declared.fault.WaitsFault.TheVariants.{Memory}
use Rattle.ft_waits.specs.declared.left_out.Without.{Without}
use Rattle.ft_stream.specs.Telling.{Kind, Streams, refused_at}
use Rattle.ft_stream.specs.declared.fault.StreamFault.{StreamFault}
use Rattle.ft_stream.specs.declared.fault.StreamFault.TheVariants.{Text, NoStream, NoEvent, Filter}
use Rattle.ft_stream.specs.declared.phase.Phase.{Phase}

-- those of a name that pass a filter, if its text can be read
abbrev pub filtered : Name → Result Tree FilterFault → Result Without FilterFault
filtered name (Ok tree) = Ok (record { name = name; filter = Some (record { event = name; tree = tree }) })
filtered name (Err fault) = Err fault

-- those of a name that pass the filter of a text, and all of the name if the text is empty (kernel: events.rst, event filtering)
abbrev pub without_for : Name → List ℕ → Result Without FilterFault
without_for name [] = Ok (record { name = name; filter = None })
without_for name (byte ∷ bytes) = filtered name (filter_of name (byte ∷ bytes))

-- they are left out, of a text that takes pieces and of which nothing was read: it takes pieces still
abbrev pub LeavesThemOut : Name → List ℕ → Phase → Phase → Type 0
LeavesThemOut name filter old new =
    (without : Without) × (name ≢ names.Other) × (without_for name filter ≡ Ok without) × (refused_at new ≡ None)
    × ((kind : Kind) (choice : Choice) (text : List ℕ) (told : List Dispatch) → Streams kind choice old text told → (text ≡ []) × Streams kind (and_without choice without) new text told)

-- the text goes on as before
abbrev pub GoesOn : Phase → Phase → Type 0
GoesOn old new = (kind : Kind) (choice : Choice) (text : List ℕ) (told : List Dispatch) → Streams kind choice old text told → Streams kind choice new text told

-- a stream that runs has read some of its text
abbrev pub HasBegun : Phase → Type 0
HasBegun phase = (kind : Kind) (choice : Choice) (text : List ℕ) (told : List Dispatch) → Streams kind choice phase text told → text ≢ []

-- the text of a filter on events of a name can't be read for this
abbrev pub IsUnread : Name → List ℕ → StreamFault → Type 0
IsUnread name filter why = (fault : FilterFault) × (why ≡ Filter fault) × (without_for name filter ≡ Err fault)

-- why they are not left out of a text that takes pieces, and what is left of it: memory, and it takes pieces as before; or it is the same, and has taken a piece, no event has that name, or the filter can't be read
abbrev pub IsRefused : Name → List ℕ → Phase → Phase → StreamFault → Type 0
IsRefused name filter old new why =
    ((why ≡ Text Memory) × (refused_at new ≡ None) × GoesOn old new)
    ⊎ ((new ≡ old) × (((why ≡ NoStream) × HasBegun old) ⊎ (((why ≡ NoEvent) × (name ≡ names.Other)) ⊎ IsUnread name filter why)))
