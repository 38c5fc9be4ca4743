-- Runs of tasks on CPUs, and sums over acts. Acts stand with their places, newest first.
use Rattle.std.specs.Prelude.{ℕ, ◌+◌, ◌-◌, ◌^◌, ℤ, Bool, List, [], ◌∷◌, Option, Some, None, max, min, nat_eq, if◌then◌else◌}
use Rattle.std.specs.Option.{option_or}
use Rattle.std.specs.Ordering.{int_eq}
use Rattle.ft_fields.specs.declared.pos.Pos.{Pos}
use Rattle.ft_dispatch.specs.Acts.{Act, Waking, Creation, Wakeup, Switch, Handover}

-- ---- sums

-- a sum that stops at the greatest number of 64 bits
abbrev pub capped : ℕ → ℕ
capped n = min n (2 ^ 64 - 1)

-- 1 or 0
abbrev pub one_if : Bool → ℕ
one_if b = if b then 1 else 0

-- the sum of what each act adds, by its place and the acts before it
unfoldable pub total : (Pos → Act → List (Pos × Act) → ℕ) → List (Pos × Act) → ℕ
total part [] = 0
total part (entry ∷ before) = total part before + part entry.0 entry.1 before

-- the most that one act adds
unfoldable pub most : (Pos → Act → List (Pos × Act) → ℕ) → List (Pos × Act) → ℕ
most part [] = 0
most part (entry ∷ before) = max (most part before) (part entry.0 entry.1 before)

-- ---- runs

-- a switch at its place, if an act is one and the place is on the CPU
abbrev pub switch_on : ℕ → Pos → Act → Option (Pos × Handover)
switch_on cpu place (Waking by woken) = None
switch_on cpu place (Creation by created) = None
switch_on cpu place (Wakeup by woken) = None
switch_on cpu place (Switch turn) = if nat_eq place.cpu cpu then Some (place, turn) else None

-- the last switch of a CPU
unfoldable pub last_switch : ℕ → List (Pos × Act) → Option (Pos × Handover)
last_switch cpu [] = None
last_switch cpu (entry ∷ before) = option_or (switch_on cpu entry.0 entry.1) (last_switch cpu before)

-- where a run of a task began: at the CPU's last switch, if the CPU went to the task there
abbrev pub run_begun : ℤ → Option (Pos × Handover) → Option Pos
run_begun pid None = None
run_begun pid (Some last) = if int_eq last.1.next_pid pid then Some last.0 else None

-- how long it lasts, up to a place: 0 if it isn't known where it began, since a switch is missing
abbrev pub lasted : Option Pos → Pos → ℕ
lasted None place = 0
lasted (Some begun) place = place.stamp - begun.stamp

-- the length of the run that a switch at a place ends
abbrev pub run_ended : Pos → Handover → List (Pos × Act) → ℕ
run_ended place turn before = lasted (run_begun turn.prev_pid (last_switch place.cpu before)) place

-- how long it isn't known what a CPU ran, up to the switch at a place that leaves a task: since its last switch, if that went to another task, since a switch is missing between them
abbrev pub unknown_since : ℤ → Pos → Option (Pos × Handover) → ℕ
unknown_since pid place None = 0
unknown_since pid place (Some last) = if int_eq last.1.next_pid pid then 0 else place.stamp - last.0.stamp

-- the same of the switch at a place
abbrev pub unknown_ended : Pos → Handover → List (Pos × Act) → ℕ
unknown_ended place turn before = unknown_since turn.prev_pid place (last_switch place.cpu before)
