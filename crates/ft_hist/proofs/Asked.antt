-- An event that is asked about is a hit.
use Rattle.std.proofs.Common.{◌≡◌, Bool, true, false, List, [], ◌∷◌, Option, Some, None, option_map, refl, sym, ◌∙◌, subst}
use Rattle.std.proofs.lemmas.Bool.{and_parts}
use Rattle.std.specs.Prelude.{IfSome, if◌then◌else◌}
use Rattle.std.specs.List.{list_all}
use Rattle.std.specs.Option.{is_some, option_and_then}
use Rattle.ft_fields.specs.declared.event.Name.{Name}
use Rattle.ft_fields.specs.declared.event.Name.TheVariants as names
use Rattle.ft_fields.specs.declared.field.Field.{Field}
use Rattle.ft_fields.specs.declared.field.Value.{Value}
use Rattle.ft_fields.specs.declared.field.Value.TheVariants as values
use Rattle.ft_fields.specs.Fields.{has_field, is_text, is_text_value, field_of}
use Rattle.ft_fields.specs.Traced.{Traced, name_of}
use Rattle.ft_hist.specs.declared.item.KeyItem.{KeyItem}
use Rattle.ft_fields.specs.declared.key.Part.{Part}
use Rattle.ft_hist.specs.Hist.{Hist}
use Rattle.ft_hist.specs.Hit.{part_of, key_of, same_name, is_asked, passes_filter, hit}
use Rattle.ft_hist.specs.Modifiers.{mode_suits, value_part}
use Rattle.ft_hist.specs.Sound.{key_suits}
use Rattle.ft_hist.proofs.ModifierLemmas.{text_made}

-- what is known of fields
pub record FieldLaws : Type 0 where
  pub has : (event : Traced) (field : Field) → is_some (field_of event field) ≡ has_field (name_of event.body) field
  pub kind : (event : Traced) (field : Field) → IfSome (field_of event field) (λ value. is_text_value value ≡ is_text field)

-- names that pass the test are equal
pub name_same : (a b : Name) → same_name a b ≡ true → a ≡ b
name_same names.Waking b e = from b e
  where
    from : (b : Name) → same_name names.Waking b ≡ true → names.Waking ≡ b
    from names.Waking e = refl
    from names.Wakeup e = absurd cc
    from names.WakeupNew e = absurd cc
    from names.Switch e = absurd cc
    from names.WakeupLatency e = absurd cc
    from names.Other e = absurd cc
name_same names.Wakeup b e = from b e
  where
    from : (b : Name) → same_name names.Wakeup b ≡ true → names.Wakeup ≡ b
    from names.Waking e = absurd cc
    from names.Wakeup e = refl
    from names.WakeupNew e = absurd cc
    from names.Switch e = absurd cc
    from names.WakeupLatency e = absurd cc
    from names.Other e = absurd cc
name_same names.WakeupNew b e = from b e
  where
    from : (b : Name) → same_name names.WakeupNew b ≡ true → names.WakeupNew ≡ b
    from names.Waking e = absurd cc
    from names.Wakeup e = absurd cc
    from names.WakeupNew e = refl
    from names.Switch e = absurd cc
    from names.WakeupLatency e = absurd cc
    from names.Other e = absurd cc
name_same names.Switch b e = from b e
  where
    from : (b : Name) → same_name names.Switch b ≡ true → names.Switch ≡ b
    from names.Waking e = absurd cc
    from names.Wakeup e = absurd cc
    from names.WakeupNew e = absurd cc
    from names.Switch e = refl
    from names.WakeupLatency e = absurd cc
    from names.Other e = absurd cc
name_same names.WakeupLatency b e = from b e
  where
    from : (b : Name) → same_name names.WakeupLatency b ≡ true → names.WakeupLatency ≡ b
    from names.Waking e = absurd cc
    from names.Wakeup e = absurd cc
    from names.WakeupNew e = absurd cc
    from names.Switch e = absurd cc
    from names.WakeupLatency e = refl
    from names.Other e = absurd cc
name_same names.Other b e = from b e
  where
    from : (b : Name) → same_name names.Other b ≡ true → names.Other ≡ b
    from names.Waking e = absurd cc
    from names.Wakeup e = absurd cc
    from names.WakeupNew e = absurd cc
    from names.Switch e = absurd cc
    from names.WakeupLatency e = absurd cc
    from names.Other e = refl

module _ (laws : FieldLaws) (event : Traced) where
  -- a key item that suits the event makes a part
  part_made : (key : KeyItem) → key_suits (name_of event.body) key ≡ true → is_some (part_of key event) ≡ true
  part_made key h = from (field_of event key.field) (laws.has event key.field ∙ both.0) (laws.kind event key.field)
    where
      both : (has_field (name_of event.body) key.field ≡ true) × (mode_suits (is_text key.field) key.mode ≡ true)
      both = and_parts (has_field (name_of event.body) key.field) (mode_suits (is_text key.field) key.mode) h

      from : (o : Option Value) → is_some o ≡ true → IfSome o (λ value. is_text_value value ≡ is_text key.field) → is_some (option_and_then (value_part key.mode) o) ≡ true
      from None there kind = absurd cc
      from (Some (values.Num z)) there kind = refl
      from (Some (values.Text text)) there kind = text_made key.mode text (subst (λ (b : Bool). mode_suits b key.mode ≡ true) (sym kind) both.1)

  -- key items that suit the event make a key
  key_made : (keys : List KeyItem) → list_all (key_suits (name_of event.body)) keys ≡ true → is_some (key_of keys event) ≡ true
  key_made [] h = refl
  key_made (key ∷ keys) h =
      let both = and_parts (key_suits (name_of event.body) key) (list_all (key_suits (name_of event.body)) keys) h in
      from (part_of key event) (key_of keys event) (part_made key both.0) (key_made keys both.1)
    where
      from : (o : Option Part) (rest : Option (List Part)) → is_some o ≡ true → is_some rest ≡ true → is_some (option_and_then (λ part. option_map (λ rest. part ∷ rest) rest) o) ≡ true
      from None rest h more = absurd cc
      from (Some part) None h more = absurd cc
      from (Some part) (Some rest) h more = refl

  -- an event is a hit exactly if it is asked about
  pub asked_is_hit : (hist : Hist) → list_all (key_suits hist.event) hist.keys ≡ true → is_some (hit hist event) ≡ is_asked hist event
  asked_is_hit hist sound = from (is_asked hist event) refl
    where
      from : (b : Bool) → is_asked hist event ≡ b → is_some (if b then key_of hist.keys event else None) ≡ b
      from true asked =
          let same : hist.event ≡ name_of event.body = name_same hist.event (name_of event.body) (and_parts (same_name hist.event (name_of event.body)) (passes_filter hist.filter event) asked).0 in
          key_made hist.keys (subst (λ (n : Name). list_all (key_suits n) hist.keys ≡ true) same sound)
      from false asked = refl
