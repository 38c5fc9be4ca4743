use Rattle.std.proofs.Common.{◌≡◌, drop}
use Rattle.std.specs.Prelude.{fold}
use Rattle.std.specs.Map.{keys_of}
use Rattle.std.specs.List.{AllByRecursion}
use Rattle.std.specs.List.Sorted.{IsStrictlySortedBy}
use Rattle.std.specs.Ordering.{nat_cmp}
use Rattle.std.specs.FinMap as map
use Rattle.ft_fields.specs.Places.{pos_cmp}
use Rattle.ft_maps.specs.Mapped.{entries_by}
use Rattle.ft_maps.specs.Seen.{seen}
use Rattle.ft_store.specs.Stored.{held}
use Rattle.ft_replay.specs.Merged.{merged}
use Rattle.ft_replay.specs.Named.{named}
use Rattle.ft_replay.specs.Replay.{step, started}
use Rattle.ft_replay.specs.Counters.{HaveCounters}
use Rattle.ft_replay.specs.inner.Replaying.{state_in, AllBeforePlace}
use Rattle.ft_hist.specs.Steps.{StepsGrow}
use Rattle.ft_pairs.specs.Variables.{variable_cmp}
use Rattle.ft_replay.proofs.replay.replay_held.Given as goal

-- the events that are left lead where all events lead; their places have their stamps, ascend, and stand after all hits; each trigger has its counter; no count of steps fell
abbrev pub invariant-loop-pos : goal.invariant-loop-pos
invariant-loop-pos l = record {
  rest : fold (step l.triggers) (state_in (seen nat_cmp l.counters, seen variable_cmp l.saved)) (entries_by held (drop l.pos-index l.pos-items))
      ≡ fold (step l.triggers) (record { tallies = started l.triggers; variables = map.empty }) (map.entries (named l.triggers (merged l.lanes)));
  sorted : IsStrictlySortedBy pos_cmp (keys_of (entries_by held (drop l.pos-index l.pos-items)));
  stamped : AllByRecursion (λ e. e.0.stamp ≡ e.1.stamp) (entries_by held (drop l.pos-index l.pos-items));
  complete : HaveCounters l.triggers (seen nat_cmp l.counters);
  before : AllByRecursion (λ e. AllBeforePlace e.0 (seen nat_cmp l.counters)) (entries_by held (drop l.pos-index l.pos-items));
  grow : StepsGrow l.fn.work l.work;
}
