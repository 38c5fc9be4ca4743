-- No text gives an event that triggers make.
use Rattle.std.proofs.Common.{◌≡◌, ℕ, ◌+◌, false, List, [], ◌∷◌, Result, Ok, Err, refl, subst}
use Rattle.std.specs.Prelude.{IfOk}
use Rattle.std.specs.List.{All}
use Rattle.std.proofs.lemmas.List.Elements.{All-nil, All-cons}
use Rattle.ft_fields.specs.Traced.{Traced, is_made}
use Rattle.ft_event.specs.Line.{line_of}
use Rattle.ft_event.specs.declared.fault.Line.{Line}
use Rattle.ft_event.specs.declared.fault.Line.TheVariants as lines
use Rattle.ft_event.specs.declared.fault.LineFault.{LineFault}
use Rattle.ft_base.specs.declared.refused.Refused.{Refused}
use Rattle.ft_text.specs.Lines.{lines_of}
use Rattle.ft_desk_core.specs.Edits.{line_in_front, events_from, events_of, event_or_refused}

-- an event that no trigger made
abbrev IsHeld : Traced → Type 0
IsHeld event = is_made event.body ≡ false

-- a line that was read so gives no made event
abbrev GivesHeld : Result Line LineFault → Type 0
GivesHeld read = (event : Traced) → read ≡ Ok (lines.Event event) → IsHeld event

front_held : (number : ℕ) (read : Result Line LineFault) (rest : Result (List Traced) Refused) → GivesHeld read → IfOk rest (All IsHeld) → IfOk (line_in_front number read rest) (All IsHeld)
front_held number (Err fault) rest gives held = tt
front_held number (Ok lines.Skip) rest gives held = held
front_held number (Ok (lines.Event event)) (Ok events) gives held = All-cons IsHeld event events (gives event refl) held
front_held number (Ok (lines.Event event)) (Err refused) gives held = tt

from_held : ((bytes : List ℕ) → GivesHeld (line_of bytes)) → (number : ℕ) (lines : List (List ℕ)) → IfOk (events_from number lines) (All IsHeld)
unfolding events_from
from_held gives number [] = All-nil IsHeld
from_held gives number (line ∷ lines) = front_held number (line_of line) (events_from (number + 1) lines) (gives line) (from_held gives (number + 1) lines)

-- a trace text gives none
pub text_held : ((bytes : List ℕ) (event : Traced) → line_of bytes ≡ Ok (lines.Event event) → is_made event.body ≡ false) → (text : List ℕ) (events : List Traced) → events_of text ≡ Ok events
    → All (λ event. is_made event.body ≡ false) events
text_held gives text events is = subst (λ r. IfOk r (All IsHeld)) is (from_held gives 1 (lines_of text))

-- one line gives none
pub line_held : (read : Result Line LineFault) (event : Traced) → ((event : Traced) → read ≡ Ok (lines.Event event) → is_made event.body ≡ false) → event_or_refused read ≡ Ok event → is_made event.body ≡ false
line_held (Err fault) event gives is = cc
line_held (Ok lines.Skip) event gives is = cc
line_held (Ok (lines.Event found)) event gives is = subst (λ r. IfOk r IsHeld) is (gives found refl)
