-- The events of a store come back after the others.
use Rattle.std.proofs.Common.{◌≡◌, ◌++◌, List, length, ap, ◌∙◌}
use Rattle.ft_fields.specs.Traced.{Traced}
use Rattle.ft_store.specs.inner.Packing.{all_unpacked, AreLaid}
use Rattle.ft_store.proofs.Laid.{of_same, laid_all, unpacked_all}
use Rattle.ft_store.proofs.store.Store.append.Goals as goal

pub invariant_of-self-in_default : goal.invariant_of-self-in_default
invariant_of-self-in_default c =
    let laid = of_same (λ names events. AreLaid 0 events (length names)) _ _ _ _ c.deref.ensures.value c.deref-2.ensures.value c.events.invariant in
    of_same (λ names events. AreLaid 0 events (length names)) _ _ _ _ c.in_default.ensures.names c.in_default.ensures.events
    (laid_all c.self.inside.names.items c.deref.result.now c.self.inside.events.items c.deref-2.result.now c.self.invariant laid)

pub returns-clause-ok : goal.returns-clause-ok
returns-clause-ok c =
    let view = of_same (λ names events. all_unpacked names events ≡ c.args.events) _ _ _ _ c.deref.ensures.value c.deref-2.ensures.value c.events.view_is in
    of_same (λ names events. all_unpacked names events ≡ c.args.self.now ++ c.args.events) _ _ _ _ c.in_default.ensures.names c.in_default.ensures.events
    (unpacked_all c.self.inside.names.items c.deref.result.now c.self.inside.events.items c.deref-2.result.now c.self.invariant
    ∙ ap (λ (before : List Traced). before ++ all_unpacked c.deref.result.now c.deref-2.result.now) c.self.view_is
    ∙ ap (λ (behind : List Traced). c.args.self.now ++ behind) view)
