-- How a count is held.
use Rattle.std.specs.Prelude.{ℕ, ◌+◌, Option, Some, None}
use Rattle.std.specs.declared.snapshot.Snapshot.{Snapshot}

-- 0, or one more than the count that was seen
abbrev pub one_above : Option (Snapshot ℕ) → ℕ
one_above None = 0
one_above (Some seen) = seen.value + 1
