-- What a word adds to a list.
use Rattle.std.proofs.Common.{◌≡◌, ◌<◌, ℕ, Bool, true, false, List, [], ◌∷◌, length, nat_le, Option, Some, None, Ok, Err, Result, refl, sym, ap, ◌∙◌}
use Rattle.std.proofs.lemmas.Bool.{lt-leb}
use Rattle.std.specs.Prelude.{codes, if◌then◌else◌, not, ◌++◌, ◌&&◌}
use Rattle.std.specs.List.{list_any, find}
use Rattle.ft_fields.specs.declared.event.Name.{Name}
use Rattle.ft_fields.specs.declared.field.Field.{Field}
use Rattle.ft_fields.specs.Fields.{is_field_named, all_fields}
use Rattle.ft_hist.specs.declared.item.KeyItem.{KeyItem}
use Rattle.std.specs.Option.{option_map_or, is_some}
use Rattle.ft_hist.specs.declared.fault.TriggerFault.{TriggerFault}
use Rattle.ft_hist.specs.declared.fault.TriggerFault.TheVariants.{LeftOut, BadModifier, Duplicate}
use Rattle.ft_text.specs.Items.{Word, same_word, is_word}
use Rattle.ft_head.specs.Draft.{with_key, with_field, with_value, unless, value_fault, is_left_out, is_no_key, besides_hitcount}

-- a word that names a field adds the field's key item, if there is room
pub with_key_field : (event : Name) (keys : List KeyItem) (place : ℕ) (word : Word) (field : Field) → length keys < 3 → is_no_key word ≡ false → find (is_field_named event word.name) all_fields ≡ Some field → with_key event keys place word ≡ with_field keys place field word.suffix
unfolding with_key
with_key_field event keys place word field room key found = rw (lt-leb 3 (length keys) room) (rw key (rw found refl))

-- a word that is `hitcount` adds nothing to the values besides it, any other adds itself
pub besides_more : (words : List Word) (word : Word) → besides_hitcount (words ++ word ∷ []) ≡ besides_hitcount words ++ (if not (is_word word (codes "hitcount")) then word ∷ [] else [])
besides_more [] word = by (not (is_word word (codes "hitcount")))
  where
    by : (b : Bool) → (if b then word ∷ [] else []) ≡ [] ++ (if b then word ∷ [] else [])
    by true = refl
    by false = refl
besides_more (first ∷ words) word = by (not (is_word first (codes "hitcount"))) _ _ _ (besides_more words word)
  where
    by : (b : Bool) (more left behind : List Word) → more ≡ left ++ behind → (if b then first ∷ more else more) ≡ (if b then first ∷ left else left) ++ behind
    by true more left behind same = ap (λ words. first ∷ words) same
    by false more left behind same = same

-- what a word as a value is refused for, whatever stands before it
abbrev pub Refuses : Name → ℕ → Word → Option TriggerFault → Type 0
Refuses event place word refused = (next : Result (List Word) TriggerFault) → option_map_or Err refused next ≡ unless ((is_word word (codes "common_timestamp"), LeftOut place) ∷ (is_left_out word.suffix, LeftOut place) ∷ (is_some word.suffix, BadModifier) ∷ []) (option_map_or Err (value_fault event word) next)

-- the word is one value too many
abbrev pub is_over : Word → List Word → Bool
is_over word words = not (is_word word (codes "hitcount")) && nat_le 3 (length (besides_hitcount words))

-- a word that is not one too many is refused for what is wrong with it, or else if it stands already
value_by : (event : Name) (words : List Word) (place : ℕ) (word : Word) (refused : Option TriggerFault) → is_over word words ≡ false → Refuses event place word refused → with_value event words place word ≡ option_map_or Err refused (unless ((list_any (same_word word) words, Duplicate) ∷ []) (Ok (words ++ word ∷ [])))
unfolding with_value
value_by event words place word refused few same = rw few (sym (same _))

-- a word with something wrong
pub value_refused : (event : Name) (words held : List Word) (place : ℕ) (word : Word) (refused : Option TriggerFault) (fault : TriggerFault) → held ≡ words → is_over word held ≡ false → Refuses event place word refused → refused ≡ Some fault → with_value event words place word ≡ Err fault
value_refused event words held place word refused fault is few same some =
    value_by event words place word refused (ap (is_over word) (sym is) ∙ few) same
    ∙ ap (λ r. option_map_or Err r (unless ((list_any (same_word word) words, Duplicate) ∷ []) (Ok (words ++ word ∷ [])))) some

-- a word that stands already, or does not
pub value_new : (event : Name) (words held also : List Word) (place : ℕ) (word : Word) (refused : Option TriggerFault) (b : Bool) → held ≡ words → is_over word held ≡ false → Refuses event place word refused → refused ≡ None → also ≡ words → list_any (same_word word) also ≡ b → with_value event words place word ≡ unless ((b, Duplicate) ∷ []) (Ok (words ++ word ∷ []))
value_new event words held also place word refused b is few same none has again =
    value_by event words place word refused (ap (is_over word) (sym is) ∙ few) same
    ∙ ap (λ r. option_map_or Err r (unless ((list_any (same_word word) words, Duplicate) ∷ []) (Ok (words ++ word ∷ [])))) none
    ∙ ap (λ b. unless ((b, Duplicate) ∷ []) (Ok (words ++ word ∷ []))) (ap (list_any (same_word word)) (sym has) ∙ again)
