-- What steps of reading a payload give.
use Rattle.std.specs.Prelude.{ℕ, Bool, true, List, Option, Some, None, nat_le, if◌then◌else◌}
use Rattle.std.specs.Option.{is_some}
use Rattle.ft_event.specs.Parts.{signed_of}
use Rattle.ft_event.specs.Turns.{TurnText, turn_text_with}
use Rattle.ft_event.specs.Wakes.{WakeText, wake_text_with}

-- a number, if it is within the limit
abbrev pub up_to : ℕ → ℕ → Option ℕ
up_to limit n = if nat_le n limit then Some n else None

-- whether the number of ` success=N`, if there is one, fits an i32
abbrev pub has_success : Option (List ℕ) → Bool
has_success (Some text) = is_some (signed_of text)
has_success None = true

-- the texts that were cut, if they are of a payload's form
abbrev pub wake_cut_with : Option WakeText → Option WakeText
wake_cut_with None = None
wake_cut_with (Some text) = wake_text_with text

-- the texts that were cut, if they are of a payload's form
abbrev pub turn_cut_with : Option TurnText → Option TurnText
turn_cut_with None = None
turn_cut_with (Some text) = turn_text_with text
