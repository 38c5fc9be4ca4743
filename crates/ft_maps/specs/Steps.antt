-- Counts of steps.
use Rattle.std.specs.Prelude.{ℕ, ◌≤◌}

-- how often events were tested against triggers, and how often something was put into a map
pub record Steps : Type 0 where
  pub evals : ℕ
  pub puts : ℕ

-- no count of steps falls
pub record StepsGrow (old new : Steps) : Type 0 where
  pub evals : old.evals ≤ new.evals
  pub puts : old.puts ≤ new.puts
