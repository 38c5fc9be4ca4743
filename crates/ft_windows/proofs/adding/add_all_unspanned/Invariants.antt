use Rattle.std.proofs.Common.{◌≡◌, ◌++◌}
use Rattle.std.specs.FinMap as finite
use Rattle.std.specs.List.{flat_map}
use Rattle.std.specs.Map.{keys_of}
use Rattle.ft_maps.specs.Seen.{seen}
use Rattle.ft_windows.specs.Showings.{span_cmp}
use Rattle.ft_windows.specs.Windows.{unspanned}
use Rattle.ft_windows.proofs.adding.add_all_unspanned.Given as goal

-- with those of the stretches that are left there are all
abbrev pub invariant-loop-span : goal.invariant-loop-span
invariant-loop-span l = l.holes.items ++ flat_map (unspanned l.doubts) (keys_of l.span-iterator) ≡ l.initial.holes.items ++ flat_map (unspanned l.doubts) (finite.keys (seen span_cmp l.spans))
