-- Counts of calls that a run makes. All of it is our own choice.
use Rattle.std.specs.Prelude.{◌≡◌, ℕ, ◌+◌, Result, Ok, Err}

-- how often a call was made, and how often it failed
pub record Counts : Type 0 where
  pub made : ℕ
  pub failed : ℕ

-- no call was made
pub record NoCalls (counts : Counts) : Type 0 where
  pub made : counts.made ≡ 0
  pub failed : counts.failed ≡ 0

-- how many failures an answer is
abbrev pub failures_of : {T E : Type 0} → Result T E → ℕ
failures_of (Ok done) = 0
failures_of (Err error) = 1

-- one call more was made, which failed exactly if its answer is an error
abbrev pub CountsCall : {T E : Type 0} → Counts → Counts → Result T E → Type 0
CountsCall old new result = (new.made ≡ old.made + 1) × (new.failed ≡ old.failed + failures_of result)
