use Rattle.std.proofs.Common.{◌≡◌, [], drop}
use Rattle.ft_hist.specs.Steps.{StepsGrow}
use Rattle.ft_changes.specs.Findings.{Findings, Lead}
use Rattle.ft_replay.specs.Merged.{merged}
use Rattle.ft_made.specs.MadeTables.{IsMadeTable}
use Rattle.ft_made.proofs.MadeTables.{IsOnTheWay}
use Rattle.ft_made.proofs.updating.Counting.update_made.Given as goal

-- whatever readings found at first, the table is made of what they have come to find, and the changes that are left lead on; no count of steps fell, and nothing is done if nothing changed
abbrev pub invariant-loop-change : goal.invariant-loop-change
invariant-loop-change l = record {
  way : (found now : Findings) → Lead l.changes found now → IsMadeTable l.self.triggers.now (merged l.self.lanes.now) found l.self.trigger.now l.fn.table
      → IsOnTheWay l.self.triggers.now (merged l.self.lanes.now) l.self.trigger.now (drop l.change-index l.changes) now l.table;
  idle : l.changes ≡ [] → (l.table ≡ l.fn.table) × (l.work ≡ l.fn.work);
  grow : StepsGrow l.fn.work l.work;
}
