use Rattle.std.proofs.Common.{◌≡◌, ◌<◌, ℕ, length, get_or}
use Rattle.std.specs.Prelude.{nat_lt, if◌then◌else◌}
use Rattle.ft_waits.specs.declared.left_out.LeftOut.{LeftOut}
use Rattle.ft_waits.specs.inner.Seams.{left_out_with}
use Rattle.ft_waits.proofs.joining.add_left_out.Given as goal

abbrev pub invariant-loop-number : goal.invariant-loop-number
invariant-loop-number l = (length l.all.items ≡ length l.fn.all.items) × ((i : ℕ) (d : LeftOut) → i < length l.fn.all.items → get_or l.all.items i d
    ≡ if nat_lt i l.number then left_out_with (get_or l.fn.all.items i d) (get_or l.fn.part i d) else get_or l.fn.all.items i d)
