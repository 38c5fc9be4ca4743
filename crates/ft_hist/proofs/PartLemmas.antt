-- Keys of hits fit the trigger's key items.
use Rattle.std.specs.Prelude.{◌≡◌, Bool, true, false, List, [], ◌∷◌, length, Option, Some, None, option_map, IfSome, if◌then◌else◌}
use Rattle.std.specs.Option.{option_and_then}
use Rattle.std.proofs.Common.{refl, subst, arith}
use Rattle.std.proofs.lemmas.Option.{same_Some}
use Rattle.ft_fields.specs.declared.field.Field.{Field}
use Rattle.ft_fields.specs.declared.field.Value.{Value}
use Rattle.ft_fields.specs.declared.field.Value.TheVariants as values
use Rattle.ft_fields.specs.Fields.{field_of, is_text, is_text_value}
use Rattle.ft_fields.specs.Traced.{Traced}
use Rattle.ft_hist.specs.declared.item.KeyItem.{KeyItem}
use Rattle.ft_hist.specs.declared.modifier.Mode.{Mode}
use Rattle.ft_fields.specs.declared.key.Part.{Part}
use Rattle.ft_hist.specs.Fitting.{PartFits, KeyFits}
use Rattle.ft_hist.specs.Hist.{Hist}
use Rattle.ft_hist.specs.Hit.{part_of, key_of, is_asked, hit}
use Rattle.ft_hist.specs.Modifiers.{Texts, number_kind, value_part, IsOfKind}
use Rattle.ft_hist.proofs.ModifierLemmas.{number_fits, text_fits}

-- what a modifier makes of a field's value is of the field's kind
value_fits : (text : Bool) (mode : Mode) (value : Value) (part : Part) → is_text_value value ≡ text → value_part mode value ≡ Some part → IsOfKind (if text then Texts else number_kind mode) part
value_fits true mode (values.Num z) part kind e = absurd cc
value_fits true mode (values.Text text) part kind e = text_fits mode text part e
value_fits false mode (values.Num z) part kind e = subst (IsOfKind (number_kind mode)) (same_Some _ _ e) (number_fits mode z)
value_fits false mode (values.Text text) part kind e = absurd cc

module _ (kind : (event : Traced) (field : Field) → IfSome (field_of event field) (λ value. is_text_value value ≡ is_text field)) where
  -- what a key item makes of an event fits it
  part_fits : (item : KeyItem) (event : Traced) (part : Part) → part_of item event ≡ Some part → PartFits item part
  part_fits item event part e = from (field_of event item.field) (kind event item.field) e
    where
      from : (o : Option Value) → IfSome o (λ value. is_text_value value ≡ is_text item.field) → option_and_then (value_part item.mode) o ≡ Some part → PartFits item part
      from None is e = absurd cc
      from (Some value) is e = value_fits (is_text item.field) item.mode value part is e

  -- what key items make of an event fits them
  key_fits : (items : List KeyItem) (event : Traced) (parts : List Part) → key_of items event ≡ Some parts → KeyFits items parts
  key_fits [] event parts e = subst (KeyFits []) (same_Some _ _ e) tt
  key_fits (item ∷ items) event parts e = from (part_of item event) (key_of items event) (λ part is. part_fits item event part is) (λ rest is. key_fits items event rest is) e
    where
      from : (o : Option Part) (others : Option (List Part)) → ((part : Part) → o ≡ Some part → PartFits item part) → ((rest : List Part) → others ≡ Some rest → KeyFits items rest) → option_and_then (λ part. option_map (λ rest. part ∷ rest) others) o ≡ Some parts → KeyFits (item ∷ items) parts
      from None others one more e = absurd cc
      from (Some part) None one more e = absurd cc
      from (Some part) (Some rest) one more e = subst (KeyFits (item ∷ items)) (same_Some _ _ e) (one part refl, more rest refl)

  -- a hit's key fits the trigger's key items
  pub hit_fits : (hist : Hist) (event : Traced) (parts : List Part) → hit hist event ≡ Some parts → KeyFits hist.keys parts
  hit_fits hist event parts e = from (is_asked hist event) e
    where
      from : (asked : Bool) → (if asked then key_of hist.keys event else None) ≡ Some parts → KeyFits hist.keys parts
      from true e = key_fits hist.keys event parts e
      from false e = absurd cc

-- a key that fits has as many parts as there are key items
pub fit_long : (items : List KeyItem) (parts : List Part) → KeyFits items parts → length parts ≡ length items
fit_long [] [] fits = refl
fit_long [] (part ∷ parts) fits = absurd fits
fit_long (item ∷ items) [] fits = absurd fits
fit_long (item ∷ items) (part ∷ parts) fits = let rest = fit_long items parts fits.1 in omega arith
