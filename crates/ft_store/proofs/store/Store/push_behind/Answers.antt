-- A packed event comes back after the others.
use Rattle.std.proofs.Common.{rules, ◌≡◌, ◌++◌, List, [], ◌∷◌, length, sym, ap, ◌∙◌}
use Rattle.ft_fields.specs.Traced.{Traced}
use Rattle.ft_store.specs.declared.packed.Packed.{Packed}
use Rattle.ft_store.specs.inner.Packing.{event_of, packed_at, all_unpacked, AreLaid}
use Rattle.ft_store.proofs.Laid.{of_same, laid_more, unpacked_more}
use Rattle.ft_store.proofs.store.Store.push_behind.Goals as goal

pub invariant_of-self-2 : goal.invariant_of-self-2
invariant_of-self-2 c =
    let names = c.self.inside.names.items in
    let events = c.self.inside.events.items in
    let behind = packed_at c.len.result c.args.packed.now in
    of_same (λ names events. AreLaid 0 events (length names)) (names ++ c.args.names.now) _ (events ++ behind ∷ []) _ c.in_ok-extend_from_slice.ensures.items
    (c.push_reserved.ensures.items ∙ ap (λ (before : List Packed). before ++ c.in_ok-behind.behind ∷ []) c.reserve.ensures.items ∙ ap (λ (last : Packed). events ++ last ∷ []) c.in_ok-behind.ensures)
    (laid_more names c.args.names.now events behind c.self.invariant
    (record { task = c.requires.sound.task; body = c.requires.sound.body; stamp = c.requires.sound.stamp; cpu = c.requires.sound.cpu }) (search rules) (sym c.requires.long))

pub returns-clause-ok : goal.returns-clause-ok
returns-clause-ok c =
    let names = c.self.inside.names.items in
    let events = c.self.inside.events.items in
    let behind = packed_at c.len.result c.args.packed.now in
    of_same (λ names events. all_unpacked names events ≡ c.args.self.now ++ event_of c.args.names.now c.args.packed.now ∷ []) (names ++ c.args.names.now) _ (events ++ behind ∷ []) _ c.in_ok-extend_from_slice.ensures.items
    (c.push_reserved.ensures.items ∙ ap (λ (before : List Packed). before ++ c.in_ok-behind.behind ∷ []) c.reserve.ensures.items ∙ ap (λ (last : Packed). events ++ last ∷ []) c.in_ok-behind.ensures)
    (unpacked_more names c.args.names.now events behind c.self.invariant (search rules) (sym c.requires.long)
    ∙ ap (λ (before : List Traced). before ++ event_of c.args.names.now c.args.packed.now ∷ []) c.self.view_is)
