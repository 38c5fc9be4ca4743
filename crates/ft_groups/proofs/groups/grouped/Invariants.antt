use Rattle.std.proofs.Common.{◌≡◌, ◌+◌, ◌≤◌, take}
use Rattle.ft_maps.specs.Mapped.{entries_by}
use Rattle.ft_store.specs.Stored.{held}
use Rattle.ft_groups.specs.Grouped.{AreGrouped}
use Rattle.ft_groups.specs.inner.Recent.{AreMet}
use Rattle.ft_groups.specs.inner.Runs.{AreByKey, groups_of}
use Rattle.ft_groups.proofs.groups.grouped.Given as goal

-- the events so far are grouped, each key stands at its index, and each number that is known tells its key; each event took one test at most, and nothing was put into a map
abbrev pub invariant-loop-event : goal.invariant-loop-event
invariant-loop-event l = record {
  by_key : AreByKey l.runs;
  met : AreMet l.finder l.runs.keys.items l.met.slots.items;
  grouped : AreGrouped l.finder.trigger.now (entries_by held (take l.event-index l.events)) (groups_of l.runs);
  evals : l.work.evals ≤ l.fn.work.evals + l.event-index;
  grow : l.fn.work.evals ≤ l.work.evals;
  puts : l.work.puts ≡ l.fn.work.puts;
}
