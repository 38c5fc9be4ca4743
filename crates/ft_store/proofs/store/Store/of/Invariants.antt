use Rattle.std.proofs.Common.{◌≡◌, take}
use Rattle.ft_store.proofs.store.Store.of.Given as goal

-- the events so far are there
abbrev pub invariant-loop-event : goal.invariant-loop-event
invariant-loop-event l = l.store ≡ take l.event-index l.events
