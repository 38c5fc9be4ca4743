-- What the acts of a text sum up to, if that is wanted. Acts stand newest first.
use Rattle.std.specs.Prelude.{◌≡◌, ℕ, Bool, true, false, List, reverse, Option, None, IfSome, is_some}
use Rattle.ft_dispatch.specs.Acts.{Act}
use Rattle.ft_fields.specs.declared.pos.Pos.{Pos}
use Rattle.ft_summary.specs.Figures.{task_sums, cpu_sums}
use Rattle.ft_summary.specs.declared.sums.Sums.{Sums}
use Rattle.ft_waits.specs.Reading.{acts_of, events_of, history, in_order}
use Rattle.ft_waits.specs.declared.left_out.Without.{Without}

-- the acts of a trace text by stamp, CPU and line, without those of some of its events
abbrev pub acts_in : List Without → List ℕ → List (Pos × Act)
acts_in without text = reverse (in_order (acts_of without (events_of (history text))))

-- what acts sum up to, by task and by CPU
abbrev pub AreSums : List (Pos × Act) → Sums → Type 0
AreSums acts sums = (sums.tasks.items ≡ task_sums acts) × (sums.cpus.items ≡ cpu_sums acts)

-- the same, by whether it is wanted
abbrev pub AreSumsIf : Bool → List (Pos × Act) → Option Sums → Type 0
AreSumsIf false acts sums = sums ≡ None
AreSumsIf true acts sums = (is_some sums ≡ true) × IfSome sums (AreSums acts)
