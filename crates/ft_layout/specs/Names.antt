-- Short texts, and the names of events as numbers, as C has them. All of it is our own choice.
use Rattle.std.specs.Prelude.{ℕ, List, length, unwrap_or, slice_get}
use Rattle.ft_fields.specs.Names.{all_names}
use Rattle.ft_fields.specs.Padded.{padded}
use Rattle.ft_fields.specs.declared.event.Name.{Name}
use Rattle.ft_fields.specs.declared.event.Name.TheVariants as names
use Rattle.ft_layout.specs.declared.names.NameLayout.{NameLayout}

-- a text: its bytes, and zeros up to 31
abbrev pub name_layout : List ℕ → NameLayout
name_layout text = record { bytes = padded text; length = length text }

-- the number of an event's name
abbrev pub name_number : Name → ℕ
name_number names.Waking = 0
name_number names.Wakeup = 1
name_number names.WakeupNew = 2
name_number names.Switch = 3
name_number names.WakeupLatency = 4
name_number names.Other = 5

-- the name with a number; any other number is of an event without a name
abbrev pub name_numbered : ℕ → Name
name_numbered number = unwrap_or (slice_get all_names number) names.Other
