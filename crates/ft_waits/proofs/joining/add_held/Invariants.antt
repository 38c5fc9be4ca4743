use Rattle.std.proofs.Common.{◌≡◌, ◌++◌, take, map as list_map}
use Rattle.ft_dispatch.specs.Joining.{place_behind}
use Rattle.ft_waits.specs.inner.Seams.{held_behind}
use Rattle.ft_waits.proofs.joining.add_held.Given as goal

abbrev pub invariant-loop-act : goal.invariant-loop-act
invariant-loop-act l = l.held.items ≡ l.fn.held.items ++ list_map (held_behind (place_behind l.fn.counts)) (take l.act-index l.fn.part)
