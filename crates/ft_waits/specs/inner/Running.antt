-- What the code keeps of what CPUs run.
use Rattle.std.specs.Prelude.{◌≡◌, ◌≤◌, ℕ, List, Option, None, slice_index_or}
use Rattle.ft_fields.specs.Traced.{last_cpu}
use Rattle.ft_losses.specs.Notes.{Note}
use Rattle.ft_waits.specs.Missing.{running}
use Rattle.ft_waits.specs.declared.ran.Ran.{Ran}

-- each CPU runs this after these notes, newest first
abbrev pub RunsTasks : List (Option Ran) → List Note → Type 0
RunsTasks kept before = (cpu : ℕ) → cpu ≤ last_cpu → slice_index_or kept cpu None ≡ running cpu before
