use Rattle.std.proofs.Common.{◌≡◌, ◌++◌, take, drop, map as list_map}
use Rattle.ft_dispatch.specs.Joining.{place_behind, dispatch_behind}
use Rattle.ft_dispatch.proofs.joining.put_behind.Given as goal

abbrev pub invariant-loop-one : goal.invariant-loop-one
invariant-loop-one l = l.dispatches ≡ list_map (dispatch_behind (place_behind l.fn.counts)) (take l.one-index l.fn.dispatches) ++ drop l.one-index l.fn.dispatches
