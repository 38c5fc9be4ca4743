use Rattle.std.proofs.Common.{◌≡◌, ◌++◌, take, Option}
use Rattle.std.specs.Option.{option_copied}
use Rattle.ft_fields.specs.declared.pos.Pos.{Pos}
use Rattle.ft_groups.specs.Grouped.{run_of}
use Rattle.ft_shelves.specs.inner.Joining.{AreReadAt, hits_of_run, readings_of_run}
use Rattle.ft_shelves.proofs.joining.hits_of.Given as goal

-- the events so far gave their hits, and what their readings found
abbrev pub invariant-loop-i : goal.invariant-loop-i
invariant-loop-i l =
    (read : Pos → Option (Option Pos)) → AreReadAt (option_copied l.found) read (run_of l.joining.groups.now l.key)
    → (l.hits.items ≡ hits_of_run l.joining.trigger.now read (take l.i (run_of l.joining.groups.now l.key)))
    × (l.readings.items ≡ l.fn.readings.items ++ readings_of_run read (take l.i (run_of l.joining.groups.now l.key)))
