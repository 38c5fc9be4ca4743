use Rattle.std.proofs.Common.{◌≡◌}
use Rattle.std.specs.Prelude.{fold}
use Rattle.std.specs.Ordering.{nat_cmp}
use Rattle.ft_maps.specs.Seen.{seen}
use Rattle.ft_replay.specs.inner.Replaying.{with_counter, new_counters}
use Rattle.ft_replay.proofs.replay.new_counters.Given as goal

-- the triggers that are left lead where all triggers lead
abbrev pub invariant-loop-id : goal.invariant-loop-id
invariant-loop-id l = fold (with_counter l.triggers) (seen nat_cmp l.counters) l.id-iterator ≡ new_counters l.triggers
