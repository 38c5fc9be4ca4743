-- What is kept of the notes so far, newest first.
use Rattle.std.specs.Prelude.{◌≡◌, ◌≤◌, ⊤, ℕ, Bool, false, List, Option, Some, None, slice_index_or}
use Rattle.std.specs.List.{AllByRecursion}
use Rattle.ft_fields.specs.Traced.{last_cpu}
use Rattle.ft_losses.specs.Notes.{Note, Passed, Marked, Silent}
use Rattle.ft_losses.specs.Holes.{first_stamp, last_stamp, lost_since, overwritten, ended_holes, beginning, holes, buffers}
use Rattle.ft_losses.specs.inner.Lanes.{lane_in}
use Rattle.ft_losses.specs.declared.hole.Beginning.{Beginning}
use Rattle.ft_losses.specs.declared.hole.Hole.{Hole}
use Rattle.ft_losses.specs.declared.lanes.Lane.{Lane}
use Rattle.ft_losses.specs.declared.losses.Losses.{Losses}
use Rattle.ft_losses.specs.declared.losses.LossesRead.{LossesRead}

-- an event is on a CPU that there can be
abbrev pub IsOnCpu : Note → Type 0
IsOnCpu (Passed event) = event.cpu ≤ last_cpu
IsOnCpu (Marked mark) = ⊤
IsOnCpu Silent = ⊤

-- a hole's CPU is known, and one that there can be
abbrev pub IsCpu : Option ℕ → Type 0
IsCpu None = ⊥
IsCpu (Some cpu) = cpu ≤ last_cpu

-- what is kept of each CPU, of the holes that have ended, and of how the buffers begin
pub record IsKept (lanes : List Lane) (holes : List Hole) (begins : Beginning) (notes : List Note) : Type 0 where
  pub first : (cpu : ℕ) → cpu ≤ last_cpu → (lane_in lanes cpu).first ≡ first_stamp cpu notes
  pub last : (cpu : ℕ) → cpu ≤ last_cpu → (lane_in lanes cpu).last ≡ last_stamp cpu notes
  pub lost : (cpu : ℕ) → cpu ≤ last_cpu → (lane_in lanes cpu).lost ≡ lost_since cpu notes
  pub overwritten : (cpu : ℕ) → cpu ≤ last_cpu → (lane_in lanes cpu).overwritten ≡ overwritten cpu notes
  pub ended : holes ≡ ended_holes notes
  pub within : AllByRecursion (λ hole. IsCpu hole.cpu) holes
  pub begun : begins ≡ beginning notes
  pub cpus : AllByRecursion IsOnCpu notes

-- what is kept is what the notes report
abbrev pub Keeps : Losses → List Note → Type 0
Keeps losses notes = IsKept losses.lanes.items losses.ended.items losses.begins notes

-- the answer to all notes
pub record AreLosses (notes : List Note) (read : LossesRead) : Type 0 where
  pub holes : read.holes.items ≡ holes notes
  pub buffers : read.buffers ≡ buffers notes

-- whether a CPU is told, by truth values
abbrev pub told_in : List Bool → ℕ → Bool
told_in told cpu = slice_index_or told cpu false

-- of each CPU that there can be, truth values say whether it is told as this does
abbrev pub Tells : List Bool → (ℕ → Bool) → Type 0
Tells told is_told = (cpu : ℕ) → cpu ≤ last_cpu → told_in told cpu ≡ is_told cpu
