use Rattle.std.proofs.Common.{◌≡◌, ◌++◌, drop}
use Rattle.std.specs.List.{flat_map}
use Rattle.ft_hist.specs.Steps.{StepsGrow}
use Rattle.ft_replay.specs.Merged.{merged}
use Rattle.ft_made.specs.Updating.{keys_at}
use Rattle.ft_made.proofs.updating.Counting.put_changed_keys.Given as goal

-- with the keys of the changes that are left they are all; no count of steps fell
abbrev pub invariant-loop-change : goal.invariant-loop-change
invariant-loop-change l = record {
  all : l.keys.items ++ flat_map (keys_at l.self.triggers.now (merged l.self.lanes.now) l.self.trigger.now) (drop l.change-index l.changes)
      ≡ l.fn.keys.items ++ flat_map (keys_at l.self.triggers.now (merged l.self.lanes.now) l.self.trigger.now) l.changes;
  grow : StepsGrow l.fn.work l.work;
}
