-- What events without their names say in numbers: all that they said with them, and the keys that numbers tell.
use Rattle.std.proofs.Common.{◌≡◌, false, List, [], ◌∷◌, Option, Some, None, cond, length, arith}
use Rattle.std.specs.Prelude.{ℤ, is_some, option_map, slice_get}
use Rattle.std.specs.Borrow.{Bor}
use Rattle.std.specs.List.{list_any}
use Rattle.std.specs.Option.{option_and_then, option_copied}
use Rattle.ft_fields.specs.declared.field.Field.{Field}
use Rattle.ft_fields.specs.declared.field.Value.TheVariants as values
use Rattle.ft_fields.specs.declared.key.Part.{Part}
use Rattle.ft_fields.specs.Fields.{field_of, is_text}
use Rattle.ft_fields.specs.Traced.{Traced, name_of}
use Rattle.ft_hist.specs.declared.item.Item.{Item}
use Rattle.ft_hist.specs.declared.item.KeyItem.{KeyItem}
use Rattle.ft_hist.specs.Hist.{Hist}
use Rattle.ft_hist.specs.Hit.{key_of, same_name, hit}
use Rattle.ft_hist.specs.Modifiers.{value_part}
use Rattle.ft_hist.specs.Tree.{Tree}
use Rattle.ft_hist.specs.Values.{number_of_field, value_of, values_of}
use Rattle.ft_store.specs.Stored.{bare, field_number}
use Rattle.ft_groups.specs.inner.Finding.{is_text_item}

-- a field holds the same without names, if it holds no text
same_field : (event : Traced) (field : Field) → is_text field ≡ false → field_of (bare event) field ≡ field_of event field
same_field event field numbers = grind arith

-- and counts the same in any case
same_number : (event : Traced) (field : Field) → number_of_field (field_of (bare event) field) ≡ number_of_field (field_of event field)
same_number event field = grind arith

same_value : (event : Traced) (own : ℤ) (item : Item) → value_of (bare event) own item ≡ value_of event own item
same_value event own item = grind (arith, same_number)

-- an event adds the same to a trigger's sums
pub bare_values : (hist : Hist) (event : Traced) (own : ℤ) → values_of hist (bare event) own ≡ values_of hist event own
bare_values hist event own = grind (arith, same_value)

-- ---- hits

-- key items of numbers make the same key of an event without its names
bare_key : (keys : List KeyItem) (event : Traced) → list_any is_text_item keys ≡ false → key_of keys (bare event) ≡ key_of keys event
bare_key [] event numbers = grind arith
bare_key (item ∷ keys) event numbers = grind (arith, same_field event item.field, bare_key keys event)

-- the key that a number alone tells
abbrev key_by : KeyItem → ℤ → Option (List Part)
key_by item number = option_and_then (λ part. Some (part ∷ [])) (value_part item.mode (values.Num number))

-- the only key item makes the key that its number tells
only_key : (keys : List KeyItem) (item : KeyItem) → slice_get keys 0 ≡ Some item → length keys ≡ 1 → (event : Traced) (number : ℤ)
    → field_number event item.field ≡ Some number → key_of keys event ≡ key_by item number
only_key [] item first one event number is = grind arith
only_key (key ∷ []) item first one event number is = grind arith
only_key (key ∷ other ∷ keys) item first one event number is = grind arith

-- a trigger whose filter is none has no filter
pub no_filter : {X : Type 0} (f : Tree → X) (filter : Option (Bor X)) (tree : Option Tree) → option_copied filter ≡ option_map f tree → is_some filter ≡ false → tree ≡ None
no_filter f filter tree is none = grind arith

module _ (hist : Hist) (unfiltered : hist.filter ≡ None) where
  -- it asks an event only for numbers, if no key item is of a text
  pub bare_hit : list_any is_text_item hist.keys ≡ false → (event : Traced) → hit hist (bare event) ≡ hit hist event
  bare_hit numbers event = grind (arith, bare_key hist.keys event)

  -- if there is only one key item, events that have the same number in its field come under the same key
  pub number_hit : (keys : List KeyItem) → keys ≡ hist.keys → (item : KeyItem) → slice_get keys 0 ≡ Some item → length keys ≡ 1
      → (event : Traced) (number : ℤ) → cond (same_name hist.event (name_of event.body)) (field_number event item.field) None ≡ Some number → hit hist event ≡ key_by item number
  number_hit keys are item first one event number is = grind (arith, are, only_key keys item first one event number)
