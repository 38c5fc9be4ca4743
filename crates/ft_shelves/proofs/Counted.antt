-- Steps in which no event is tested, one after the other.
use Rattle.std.proofs.Common.{ℕ, refl, ◌∙◌, arith}
use Rattle.ft_hist.specs.Steps.{Steps}
use Rattle.ft_shelves.specs.Counts.{PutsAtMost, TestsNone}

-- no step
pub tests_none : (work : Steps) → TestsNone work work
tests_none work = record { evals = refl; puts = omega arith }

-- one after the other
pub none_then : (a b c : Steps) → TestsNone a b → TestsNone b c → TestsNone a c
none_then a b c h k = record { evals = k.evals ∙ h.evals; puts = omega (arith, h.puts, k.puts) }

-- few puts are some
pub few_tests_none : {most : ℕ} {a b : Steps} → PutsAtMost most a b → TestsNone a b
few_tests_none few = record { evals = few.evals; puts = few.puts }
