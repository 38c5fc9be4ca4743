use Rattle.std.proofs.Common.{◌≡◌, ◌-◌, ◌+◌, ℕ, length}
use Rattle.ft_pids.specs.Numbers.{number_at}
use Rattle.ft_pids.proofs.pages.add_pages.Given as goal

abbrev pub invariant-loop-alloc : goal.invariant-loop-alloc
invariant-loop-alloc l = (place : ℕ) → number_at l.pages.items place ≡ number_at l.fn.pages.items place

abbrev pub decreases-loop-alloc : goal.decreases-loop-alloc
decreases-loop-alloc l = l.index + 1 - length l.pages.items
