use Rattle.std.proofs.Common.{◌≡◌, ◌++◌}
use Rattle.std.specs.FinMap as map
use Rattle.std.specs.Map.{keys_of}
use Rattle.ft_repair.proofs.events.cpus_before.Given as goal

-- with those of the lanes that are left they are all
abbrev pub invariant-loop-cpu : goal.invariant-loop-cpu
invariant-loop-cpu l = l.cpus.items ++ keys_of l.cpu-iterator ≡ map.keys l.lanes
