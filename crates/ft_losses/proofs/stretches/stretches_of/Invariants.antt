use Rattle.std.proofs.Common.{◌≡◌, take}
use Rattle.std.specs.List.{flat_map}
use Rattle.ft_losses.specs.inner.Stretches.{stretches_of}
use Rattle.ft_losses.proofs.stretches.stretches_of.Given as goal

abbrev pub invariant-loop-hole : goal.invariant-loop-hole
invariant-loop-hole l = l.stretches.items ≡ flat_map stretches_of (take l.hole-index l.holes)
