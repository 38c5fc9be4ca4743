use Rattle.std.proofs.Common.{◌≡◌, ℕ, ◌-◌, ◌<◌, ◌≤◌, length}
use Rattle.std.specs.Prelude.{slice_get}
use Rattle.std.specs.Map.{keys_of}
use Rattle.ft_table.proofs.order.back.Given as goal

-- the mark stands as many places before the first one as there were turns
abbrev pub invariant-loop : goal.invariant-loop
invariant-loop l = (i : ℕ) → l.places ≤ i → i < length (keys_of l.marks) → l.fn.from ≡ slice_get (keys_of l.marks) i → l.mark ≡ slice_get (keys_of l.marks) (i - l.counter)
