-- What a trigger sums at a hit is numbers.
use Rattle.std.proofs.Common.{◌≡◌, ℕ, zero, suc, Bool, true, false, List, [], ◌∷◌, Option, Some, None, refl, sym, ◌∙◌, ap, subst}
use Rattle.std.proofs.lemmas.Bool.{and_parts}
use Rattle.std.proofs.lemmas.Option.{same_Some}
use Rattle.std.specs.Prelude.{ℤ, pos, not, IfSome, if◌then◌else◌, slice_get}
use Rattle.std.specs.List.{list_all}
use Rattle.std.specs.Option.{is_some, option_map_or}
use Rattle.ft_fields.specs.declared.event.Name.{Name}
use Rattle.ft_fields.specs.declared.field.Field.{Field}
use Rattle.ft_fields.specs.declared.field.Value.{Value}
use Rattle.ft_fields.specs.declared.field.Value.TheVariants as values
use Rattle.ft_fields.specs.Fields.{has_field, is_text, is_text_value, field_of}
use Rattle.ft_fields.specs.Traced.{Traced, name_of}
use Rattle.ft_hist.specs.declared.item.Item.{Item}
use Rattle.ft_hist.specs.declared.item.Item.TheVariants as items
use Rattle.ft_hist.specs.Hist.{Hist}
use Rattle.ft_hist.specs.Sound.{value_suits}
use Rattle.ft_hist.specs.Hit.{same_name, passes_filter, is_asked, key_of, hit}
use Rattle.ft_hist.specs.Values.{number_of_field, value_of, value_at}
use Rattle.ft_hist.proofs.Asked.{FieldLaws, name_same}

-- what all items of a list pass, one of them passes
item_passes : {X : Type 0} (p : X → Bool) (xs : List X) (n : ℕ) (x : X) → list_all p xs ≡ true → slice_get xs n ≡ Some x → p x ≡ true
item_passes p [] n x all at = absurd cc
item_passes p (y ∷ ys) zero x all at = subst (λ z. p z ≡ true) (same_Some _ _ at) (and_parts (p y) (list_all p ys) all).0
item_passes p (y ∷ ys) (suc n) x all at = item_passes p ys n x (and_parts (p y) (list_all p ys) all).1 at

-- a hit has its trigger's name
hit_name : (hist : Hist) (event : Traced) → is_some (hit hist event) ≡ true → hist.event ≡ name_of event.body
hit_name hist event there = name_same hist.event (name_of event.body) (and_parts (same_name hist.event (name_of event.body)) (passes_filter hist.filter event) (from (is_asked hist event) there)).0
  where
    from : (b : Bool) → is_some (if b then key_of hist.keys event else None) ≡ true → b ≡ true
    from true there = refl
    from false there = absurd cc

-- what is not a text is a number
number_there : (text : Bool) (o : Option Value) → not text ≡ true → is_some o ≡ true → IfSome o (λ value. is_text_value value ≡ text) → o ≡ Some (values.Num (number_of_field o))
number_there text None plain there kind = absurd cc
number_there text (Some (values.Num z)) plain there kind = refl
number_there true (Some (values.Text bytes)) plain there kind = absurd cc
number_there false (Some (values.Text bytes)) plain there kind = absurd cc

-- a field of numbers that the event has holds its value
pub field_summed : FieldLaws → (hist : Hist) (event : Traced) (own : ℤ) (number : ℕ) (field : Field)
    → list_all (value_suits hist.event hist.variable) hist.values ≡ true → is_some (hit hist event) ≡ true → slice_get hist.values number ≡ Some (items.Num field)
    → field_of event field ≡ Some (values.Num (value_at hist event own number))
field_summed laws hist event own number field sound there at =
    let suits = and_parts (has_field hist.event field) (not (is_text field)) (item_passes (value_suits hist.event hist.variable) hist.values number (items.Num field) sound at) in
    let has : is_some (field_of event field) ≡ true = laws.has event field ∙ subst (λ (name : Name). has_field name field ≡ true) (hit_name hist event there) suits.0 in
    let value : value_at hist event own number ≡ number_of_field (field_of event field) = ap (λ (o : Option Item). option_map_or (value_of event own) o (pos 0)) at in
    number_there (is_text field) (field_of event field) suits.1 has (laws.kind event field) ∙ ap (λ z. Some (values.Num z)) (sym value)
