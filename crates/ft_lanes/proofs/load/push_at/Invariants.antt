use Rattle.std.proofs.Common.{◌≡◌, ℕ, ◌+◌, ◌-◌, ◌≤◌, length}
use Rattle.ft_lanes.specs.inner.Slots.{cpu_limit, slots_at}
use Rattle.ft_lanes.proofs.load.push_at.Given as goal

-- CPUs without slots were added
abbrev pub invariant-loop-alloc : goal.invariant-loop-alloc
invariant-loop-alloc l = ((q : ℕ) → slots_at l.by_cpu.items q ≡ slots_at l.initial.by_cpu.items q) × (length l.by_cpu.items ≤ cpu_limit)

abbrev pub decreases-loop-alloc : goal.decreases-loop-alloc
decreases-loop-alloc l = l.cpu + 1 - length l.by_cpu.items
