-- An event that is packed after the others comes back after them.
use Rattle.std.proofs.Common.{◌≡◌, ◌++◌, List, [], ◌∷◌, length, refl, ap, ◌∙◌}
use Rattle.ft_fields.specs.Borrowed.{event_told}
use Rattle.ft_fields.specs.Traced.{Traced}
use Rattle.ft_store.specs.inner.Packing.{event_names, packed, all_unpacked, AreLaid}
use Rattle.ft_store.proofs.Names.{event_takes, event_back}
use Rattle.ft_store.proofs.Laid.{of_same, laid_more, unpacked_more}
use Rattle.ft_store.proofs.store.Store.push_ref.Goals as goal

pub invariant_of-self-in_default : goal.invariant_of-self-in_default
invariant_of-self-in_default c =
    let names = c.self.inside.names.items in
    let event = event_told c.args.event.now in
    of_same (λ names events. AreLaid 0 events (length names)) _ _ _ _ c.in_default.ensures.names c.in_default.ensures.events
    (laid_more names (event_names event) c.self.inside.events.items (packed (length names) event) c.self.invariant c.in_default.ensures.sound refl
    (event_takes (length names) event))

pub returns-clause-ok : goal.returns-clause-ok
returns-clause-ok c =
    let names = c.self.inside.names.items in
    let events = c.self.inside.events.items in
    let event = event_told c.args.event.now in
    of_same (λ names events. all_unpacked names events ≡ c.args.self.now ++ event ∷ []) _ _ _ _ c.in_default.ensures.names c.in_default.ensures.events
    (unpacked_more names (event_names event) events (packed (length names) event) c.self.invariant refl (event_takes (length names) event)
    ∙ ap (λ (last : Traced). all_unpacked names events ++ last ∷ []) (event_back (length names) event)
    ∙ ap (λ (before : List Traced). before ++ event ∷ []) c.self.view_is)
