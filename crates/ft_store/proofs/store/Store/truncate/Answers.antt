-- The first events come back from what is left of the names.
use Rattle.std.proofs.Common.{◌≡◌, List, length, take, ap, subst, ◌∙◌}
use Rattle.ft_store.specs.declared.packed.Packed.{Packed}
use Rattle.ft_store.specs.inner.Packing.{all_unpacked, AreLaid}
use Rattle.ft_store.proofs.Laid.{StandsAt, of_same, laid_cut, unpacked_front}
use Rattle.ft_store.proofs.store.Store.truncate.Goals as goal

pub invariant_of-self : goal.invariant_of-self
invariant_of-self c =
    let found = c.in-Some.ensures.lookup in
    let at = subst (λ (events : List Packed). StandsAt events c.args.len c.in-Some.first.now) c.deref.ensures.value (found.3.0, found.1) in
    of_same (λ names events. AreLaid 0 events (length names)) _ _ _ _ c.truncate.ensures.items c.truncate-in-Some.ensures.items
    (laid_cut c.self.inside.names.items c.self.inside.events.items c.args.len c.in-Some.first.now c.self.invariant at)

pub returns-in-Some : goal.returns-in-Some
returns-in-Some c =
    let found = c.in-Some.ensures.lookup in
    let at = subst (λ (events : List Packed). StandsAt events c.args.len c.in-Some.first.now) c.deref.ensures.value (found.3.0, found.1) in
    of_same (λ names events. all_unpacked names events ≡ take c.args.len c.args.self.now) _ _ _ _ c.truncate.ensures.items c.truncate-in-Some.ensures.items
    (unpacked_front c.self.inside.names.items c.self.inside.events.items c.args.len c.in-Some.first.now c.self.invariant at
    ∙ ap (take c.args.len) c.self.view_is)
