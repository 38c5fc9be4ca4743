use Rattle.std.proofs.Common.{take}
use Rattle.ft_maps.specs.Mapped.{entries_by}
use Rattle.ft_store.specs.Stored.{held}
use Rattle.ft_dispatch.specs.Telling.{Tells}
use Rattle.ft_held_waits.specs.Held.{acts_of_entries}
use Rattle.ft_held_waits.proofs.held.dispatches_of.Given as goal

abbrev pub invariant-loop-event : goal.invariant-loop-event
invariant-loop-event l = Tells l.tasks (acts_of_entries (entries_by held (take l.event-index l.events))) l.told.items
