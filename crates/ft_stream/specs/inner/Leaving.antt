-- Events that are left out of what is read, of a whole text or of a part.
use Rattle.std.specs.Prelude.{◌≡◌, ◌≢◌, ◌⊎◌, ℕ, List, [], None, Ok}
use Rattle.ft_dispatch.specs.declared.dispatch.Dispatch.{Dispatch}
use Rattle.ft_fields.specs.declared.event.Name.{Name}
use Rattle.ft_fields.specs.declared.event.Name.TheVariants as names
use Rattle.ft_waits.specs.Choice.{Choice, and_without}
use Rattle.ft_waits.specs.Streams.{HasRead}
use Rattle.ft_waits.specs.declared.fault.WaitsFault.TheVariants.{Memory}
use Rattle.ft_waits.specs.declared.left_out.Without.{Without}
use Rattle.ft_waits.specs.declared.stream.Waits.{Waits}
use Rattle.ft_stream.specs.Leaving.{without_for, IsUnread}
use Rattle.ft_stream.specs.declared.fault.StreamFault.{StreamFault}
use Rattle.ft_stream.specs.declared.fault.StreamFault.TheVariants.{Text, NoStream, NoEvent}

-- they are left out, of a text of which nothing was read
abbrev pub AreLeftOut : Name → List ℕ → Waits → Waits → Type 0
AreLeftOut name filter old new =
    (without : Without) × (name ≢ names.Other) × (without_for name filter ≡ Ok without)
    × ((choice : Choice) (text : List ℕ) (told : List Dispatch) → HasRead choice old text told → (text ≡ []) × HasRead (and_without choice without) new text told)

-- the same was read as before
abbrev pub ReadsTheSame : Waits → Waits → Type 0
ReadsTheSame old new = (choice : Choice) (text : List ℕ) (told : List Dispatch) → HasRead choice old text told → HasRead choice new text told

-- some of the text was read
abbrev pub HasReadSome : Waits → Type 0
HasReadSome waits = waits.failed ≡ None → (choice : Choice) (text : List ℕ) (told : List Dispatch) → HasRead choice waits text told → text ≢ []

-- why they are not left out, and what is left
abbrev pub AreNotLeftOut : Name → List ℕ → Waits → Waits → StreamFault → Type 0
AreNotLeftOut name filter old new why =
    ((why ≡ Text Memory) × ReadsTheSame old new)
    ⊎ ((new ≡ old) × (((why ≡ NoStream) × HasReadSome old) ⊎ (((why ≡ NoEvent) × (name ≡ names.Other)) ⊎ IsUnread name filter why)))
