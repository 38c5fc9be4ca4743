use Rattle.std.proofs.Common.{◌≡◌, ℕ, ◌+◌, ◌<◌, ◌≤◌, length, take, get_or}
use Rattle.ft_losses.specs.inner.Stretches.{Reaches}
use Rattle.ft_losses.specs.declared.stretches.Stretch.{Stretch}
use Rattle.ft_losses.proofs.stretches.extend.Given as goal

abbrev pub invariant-loop-at : goal.invariant-loop-at
invariant-loop-at l = record {
  size : length l.rows.items ≡ length l.initial.rows.items;
  done : (k : ℕ) (d : Stretch) → k < l.at → k < length l.initial.rows.items → Reaches (take (k + 1) l.initial.rows.items) (get_or l.initial.rows.items k d) (get_or l.rows.items k d);
  rest : (k : ℕ) (d : Stretch) → l.at ≤ k → get_or l.rows.items k d ≡ get_or l.initial.rows.items k d;
}
