-- Notes of a part that was read apart, behind the lines before it.
use Rattle.std.specs.Prelude.{◌≡◌, ◌≤◌, ◌+◌, ℕ, min, Bool, false, List, ◌++◌, length, Option}
use Rattle.std.specs.List.{list_any}
use Rattle.std.specs.Option.{option_or, option_and_then, is_some}
use Rattle.ft_event.specs.Marks.{last_count}
use Rattle.ft_losses.specs.Holes.{cpus_below, lost_since}
use Rattle.ft_losses.specs.Notes.{Note}
use Rattle.ft_losses.specs.Telling.{Keeps}
use Rattle.ft_losses.specs.declared.hole.Header.{Header}
use Rattle.ft_losses.specs.declared.hole.Hole.{Hole}
use Rattle.ft_losses.specs.declared.hole.Loss.{Loss}
use Rattle.ft_losses.specs.declared.losses.Losses.{Losses}

-- whether lines report that a CPU lost events since its last event: a hole has begun, and has not ended
abbrev pub any_lost : List Note → Bool
any_lost notes = list_any (λ cpu. is_some (lost_since cpu notes)) (cpus_below 8192)

-- a line's number behind so many lines, up to the largest number
abbrev pub number_behind : ℕ → ℕ → ℕ
number_behind lines number = min (number + lines) last_count

-- a loss, and the header, behind so many lines
abbrev pub loss_behind : ℕ → Loss → Loss
loss_behind lines loss = record { line = number_behind lines loss.line; count = loss.count }

abbrev pub header_behind : ℕ → Header → Header
header_behind lines header = record { line = number_behind lines header.line; buffers = header.buffers }

-- a hole behind so many lines, and behind the last event of each CPU: one that began with the part begins after that
abbrev pub hole_behind : ℕ → (ℕ → Option ℕ) → Hole → Hole
hole_behind lines last hole = record { cpu = hole.cpu; line = number_behind lines hole.line; after = option_or hole.after (option_and_then last hole.cpu); before = hole.before; count = hole.count }

-- whatever notes are kept, so many, if no hole has begun in them that has not ended, and whatever notes are kept of a part that was read apart: the part's are kept behind those before, if there are no more together than may be counted
abbrev pub Joins : ℕ → Losses → Losses → Losses → Type 0
Joins lines old part new = (before notes : List Note) → Keeps old before → Keeps part notes → length before ≡ lines → length notes + lines ≤ last_count → any_lost before ≡ false → Keeps new (notes ++ before)
