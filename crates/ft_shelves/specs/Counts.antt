-- What changes of shelves count: they test no event.
use Rattle.std.specs.Prelude.{◌≡◌, ◌+◌, ◌≤◌, ℕ}
use Rattle.ft_hist.specs.Steps.{Steps}

-- no event is tested, and no count of steps falls
pub record TestsNone (old new : Steps) : Type 0 where
  pub evals : new.evals ≡ old.evals
  pub puts : old.puts ≤ new.puts

-- no event is tested, and at most so many things are put into maps
pub record PutsAtMost (most : ℕ) (old new : Steps) : Type 0 where
  pub evals : new.evals ≡ old.evals
  pub puts : old.puts ≤ new.puts
  pub few : new.puts ≤ old.puts + most

-- no event is tested, and so many things are put into maps
pub record PutsExactly (many : ℕ) (old new : Steps) : Type 0 where
  pub evals : new.evals ≡ old.evals
  pub puts : new.puts ≡ old.puts + many
