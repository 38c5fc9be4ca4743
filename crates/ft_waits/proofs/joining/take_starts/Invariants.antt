use Rattle.std.proofs.Common.{◌≡◌, take, reverse}
use Rattle.std.specs.Prelude.{None, slice_index_or}
use Rattle.ft_dispatch.specs.Joining.{place_behind}
use Rattle.ft_waits.specs.inner.Starts.{Seam, seam}
use Rattle.ft_waits.proofs.joining.take_starts.Given as goal

abbrev pub invariant-loop-number : goal.invariant-loop-number
invariant-loop-number l = ◌≡◌ {A = Seam} (record { missing = l.missing; starts = l.starts.items })
    (seam (λ cpu. slice_index_or l.fn.running cpu None) (place_behind l.fn.counts) (record { missing = l.fn.missing; starts = l.fn.starts.items }) (reverse (take l.number l.fn.part)))
