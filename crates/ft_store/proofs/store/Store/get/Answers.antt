-- The names of an event that is laid stand within the text.
use Rattle.std.proofs.Common.{◌+◌, ◌≤◌, ℕ, List, length, sym, subst}
use Rattle.ft_store.specs.declared.packed.Packed.{Packed}
use Rattle.ft_store.specs.inner.Packing.{width}
use Rattle.ft_store.proofs.Laid.{StandsAt, laid_at}
use Rattle.ft_store.proofs.store.Store.get.Goals as goal

pub unpacked-requires-clause-within : goal.unpacked-requires-clause-within
unpacked-requires-clause-within c =
    let found = c.in-Some.ensures.lookup in
    let at = subst (λ (events : List Packed). StandsAt events c.args.place c.in-Some.packed.now) c.deref.ensures.value (found.3.0, found.1) in
    subst (λ (text : List ℕ). c.in-Some.packed.now.begins + width c.in-Some.packed.now ≤ length text) (sym c.deref-in-Some.ensures.value)
    (laid_at 0 c.self.inside.events.items (length c.self.inside.names.items) c.args.place c.in-Some.packed.now c.self.invariant at).1

pub unpacked-requires-clause-sound : goal.unpacked-requires-clause-sound
unpacked-requires-clause-sound c =
    let found = c.in-Some.ensures.lookup in
    let at = subst (λ (events : List Packed). StandsAt events c.args.place c.in-Some.packed.now) c.deref.ensures.value (found.3.0, found.1) in
    (laid_at 0 c.self.inside.events.items (length c.self.inside.names.items) c.args.place c.in-Some.packed.now c.self.invariant at).0
