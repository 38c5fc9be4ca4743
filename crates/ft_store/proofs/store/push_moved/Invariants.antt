use Rattle.std.proofs.Common.{◌≡◌, ◌++◌, take, map}
use Rattle.ft_store.specs.inner.Packing.{moved}
use Rattle.ft_store.proofs.store.push_moved.Given as goal

-- the events so far are there, after those that were
abbrev pub invariant-loop-packed : goal.invariant-loop-packed
invariant-loop-packed l = l.events.items ≡ l.fn.events.items ++ map (moved l.by) (take l.packed-index l.more)
