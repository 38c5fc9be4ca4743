use Rattle.std.proofs.Common.{◌≡◌, ◌++◌}
use Rattle.ft_maps.specs.Mapped.{entries_by}
use Rattle.ft_store.specs.Stored.{held}
use Rattle.ft_replay.specs.inner.Rests.{listed_and_left, with_names}
use Rattle.ft_replay.proofs.merge.push_rest.Given as goal

-- with those that are left it is all
abbrev pub invariant-loop-pos : goal.invariant-loop-pos
invariant-loop-pos l = entries_by held l.events.items ++ with_names l.names l.pos-iterator ≡ listed_and_left l.names l.fn.events.items l.fn.rest
