-- The stamp of an event that is laid is an event's.
use Rattle.std.proofs.Common.{List, length, subst}
use Rattle.ft_store.specs.declared.packed.Packed.{Packed}
use Rattle.ft_store.proofs.Laid.{StandsAt, laid_at}
use Rattle.ft_store.proofs.store.Store.stamp_at.Goals as goal

pub returns-in-Some-clause-fits : goal.returns-in-Some-clause-fits
returns-in-Some-clause-fits c =
    let found = c.in-Some.ensures.lookup in
    let at = subst (λ (events : List Packed). StandsAt events c.args.place c.in-Some.packed.now) c.deref.ensures.value (found.3.0, found.1) in
    (laid_at 0 c.self.inside.events.items (length c.self.inside.names.items) c.args.place c.in-Some.packed.now c.self.invariant at).0.stamp
