use Rattle.std.proofs.Common.{◌+◌, ◌≤◌, length}
use Rattle.ft_lines.specs.inner.Noted.{HasNoted}
use Rattle.ft_lines.proofs.losses.losses_in.Given as goal

abbrev pub invariant-loop-line : goal.invariant-loop-line
invariant-loop-line l = record {
  noted : HasNoted l.fn.text l.rest l.losses l.number;
  counted : l.number + length l.rest ≤ length l.fn.text + 1;
}

abbrev pub decreases-loop-line : goal.decreases-loop-line
decreases-loop-line l = length l.rest
