-- Triggers that sum no field: what they sum is the same at all events.
use Rattle.std.proofs.Common.{◌≡◌, ℕ, zero, suc, false, List, [], ◌∷◌, refl, ap, ◌∙◌}
use Rattle.std.specs.Prelude.{ℤ, pos, slice_get}
use Rattle.std.specs.List.{list_any}
use Rattle.std.specs.Option.{option_map_or}
use Rattle.std.proofs.lemmas.Bool.{or_parts}
use Rattle.ft_fields.specs.Traced.{Traced}
use Rattle.ft_hist.specs.Hist.{Hist}
use Rattle.ft_hist.specs.Values.{value_at, value_of, values_of}
use Rattle.ft_hist.specs.declared.item.Item.{Item}
use Rattle.ft_hist.specs.declared.item.Item.TheVariants as items
use Rattle.ft_shelves.specs.inner.Joining.{is_field}

-- what no field is counts the same
unasked_item : (a b : Traced) (own : ℤ) (item : Item) → is_field item ≡ false → value_of a own item ≡ value_of b own item
unasked_item a b own (items.Num field) none = absurd (cc none)
unasked_item a b own items.Own none = refl

-- so it is at each number
unasked_at : (a b : Traced) (own : ℤ) (values : List Item) (n : ℕ) → list_any is_field values ≡ false
    → option_map_or (value_of a own) (slice_get values n) (pos 0) ≡ option_map_or (value_of b own) (slice_get values n) (pos 0)
unasked_at a b own [] n none = refl
unasked_at a b own (item ∷ values) zero none = unasked_item a b own item (or_parts (is_field item) (list_any is_field values) none).0
unasked_at a b own (item ∷ values) (suc n) none = unasked_at a b own values n (or_parts (is_field item) (list_any is_field values) none).1

-- an event adds what any other does
pub unasked : (hist : Hist) (a b : Traced) (own : ℤ) → list_any is_field hist.values ≡ false → values_of hist a own ≡ values_of hist b own
unasked hist a b own none =
    let at : (n : ℕ) → value_at hist a own n ≡ value_at hist b own n = λ n. unasked_at a b own hist.values n none in
    ap (λ (v : ℤ). v ∷ value_at hist a own 1 ∷ value_at hist a own 2 ∷ []) (at 0)
    ∙ ap (λ (v : ℤ). value_at hist b own 0 ∷ v ∷ value_at hist a own 2 ∷ []) (at 1)
    ∙ ap (λ (v : ℤ). value_at hist b own 0 ∷ value_at hist b own 1 ∷ v ∷ []) (at 2)
