-- The names of an event that is laid stand within the text.
use Rattle.std.proofs.Common.{◌+◌, ◌≤◌, List, ℕ, length, sym, subst}
use Rattle.ft_store.specs.declared.packed.Packed.{Packed}
use Rattle.ft_store.specs.inner.Packing.{width}
use Rattle.ft_store.proofs.Laid.{StandsAt, laid_at}
use Rattle.ft_store.proofs.store.Store.push_from.Goals as goal

pub own_names-requires : goal.own_names-requires
own_names-requires c =
    let found = c.in-Some.ensures.lookup in
    let at = subst (λ (events : List Packed). StandsAt events c.place.result c.in-Some.packed.now) c.deref.ensures.value (found.3.0, found.1) in
    subst (λ (text : List ℕ). c.in-Some.packed.now.begins + width c.in-Some.packed.now ≤ length text) (sym c.deref-in-Some.ensures.value)
    (laid_at 0 c.from.inside.events.items (length c.from.inside.names.items) c.place.result c.in-Some.packed.now c.from.invariant at).1

pub push_behind-requires-clause-sound : goal.push_behind-requires-clause-sound
push_behind-requires-clause-sound c =
    let found = c.in-Some.ensures.lookup in
    let at = subst (λ (events : List Packed). StandsAt events c.place.result c.in-Some.packed.now) c.deref.ensures.value (found.3.0, found.1) in
    (laid_at 0 c.from.inside.events.items (length c.from.inside.names.items) c.place.result c.in-Some.packed.now c.from.invariant at).0
