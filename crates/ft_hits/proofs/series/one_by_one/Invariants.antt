-- The hits so far, and after them the first of those left, are the first of the run.
use Rattle.std.proofs.Common.{◌≡◌, drop}
use Rattle.std.specs.Option.{option_or}
use Rattle.std.specs.FinMap as map
use Rattle.std.specs.FinMap.{find}
use Rattle.ft_hits.specs.declared.spot.Spot.{Spot}
use Rattle.ft_hits.specs.Spots.{spot_cmp}
use Rattle.ft_hits.proofs.series.one_by_one.Given as goal

abbrev pub invariant-loop-hit : goal.invariant-loop-hit
invariant-loop-hit l = (q : Spot) → option_or (map.get l.series q) (find spot_cmp q (drop l.hit-index l.run)) ≡ find spot_cmp q l.run
