-- Key items that can be read, and how their texts are read.
use Rattle.std.proofs.Common.{◌≡◌, ◌&&◌, ◌||◌, ℕ, Bool, true, false, not, List, [], ◌∷◌, ◌++◌, length, drop, Option, Some, None, option_map, Result, Ok, refl, sym, ap, ◌∙◌, subst, arith, codes, find, cond, ◌==◌, leb-true}
use Rattle.std.proofs.lemmas.Bool.{and_parts, and_from, or_parts, not-true}
use Rattle.std.proofs.lemmas.List.Folds.{list_all-append}
use Rattle.std.proofs.lemmas.Option.{same_Some}
use Rattle.std.specs.Prelude.{nat_le}
use Rattle.std.specs.List.{list_any, list_all, starts_with}
use Rattle.std.specs.Option.{option_map_or, option_or}
use Rattle.std.specs.Str.{bytes_eq}
use Rattle.ft_fields.specs.declared.event.Name.{Name}
use Rattle.ft_fields.specs.declared.field.Field.{Field}
use Rattle.ft_fields.specs.Fields.{is_field_named, all_fields, is_text, field_text, has_field}
use Rattle.ft_hist.specs.declared.fault.TriggerFault.{TriggerFault}
use Rattle.ft_hist.specs.declared.fault.TriggerFault.TheVariants.{NoField, TooMany, Duplicate, BadModifier, LeftOut}
use Rattle.ft_hist.specs.declared.item.KeyItem.{KeyItem}
use Rattle.ft_hist.specs.declared.modifier.Mode.{Mode}
use Rattle.ft_hist.specs.declared.modifier.Mode.TheVariants as modes
use Rattle.ft_hist.specs.Canonical.{key_item_text}
use Rattle.ft_hist.specs.Modifiers.{mode_name, named_modes, mode_is_called, mode_suffix, mode_suits}
use Rattle.ft_head.specs.Draft.{unless, given_or, is_left_out, mode_of, number_mode, buckets_of, is_key, with_key}
use Rattle.ft_text.specs.Items.{Word, word_of, number_in}
use Rattle.ft_trigger.proofs.Chains.{Steps, Again}
use Rattle.ft_trigger.proofs.Inversions.{unless_parts, given_parts}
use Rattle.ft_head.proofs.Numerals.{number_again, number_parts, decimal_bare}
use Rattle.ft_text.proofs.Separators.{is_bare, names_bare, bare_free}
use Rattle.ft_text.proofs.Spellings.{find_passes, IsName, suffix_text, IsSuffix, word_text, word_name, word_again, bytes_same}

-- names that no key has
abbrev unkept : List (List ℕ)
unkept = codes "common_timestamp" ∷ codes "stacktrace" ∷ codes "common_stacktrace" ∷ []

-- a key's word
abbrev pub key_word : KeyItem → Word
key_word key = record { dollar = false; name = field_text key.field; suffix = mode_suffix key.mode }

-- the mode is one that can be read for a field of texts or of numbers, and suits it
pub record ModeFits (text : Bool) (mode : Mode) : Type 0 where
  pub reads : mode_of text (mode_suffix mode) ≡ Some mode
  pub bare : list_all is_bare (suffix_text (mode_suffix mode)) ≡ true
  pub kept : is_left_out (mode_suffix mode) ≡ false
  pub some : IsSuffix (mode_suffix mode)
  pub suits : mode_suits text mode ≡ true

-- the key is one that can be read after others
pub record KeyFits (event : Name) (keys : List KeyItem) (key : KeyItem) : Type 0 where
  pub few : nat_le 3 (length keys) ≡ false
  pub named : IsName (field_text key.field)
  pub kept : list_any (bytes_eq (field_text key.field)) unkept ≡ false
  pub owned : find (is_field_named event (field_text key.field)) all_fields ≡ Some key.field
  pub suited : ModeFits (is_text key.field) key.mode
  pub apart : is_key keys key.field ≡ false

-- what is found passes what all pass
found_passes : {A : Type 0} (test all : A → Bool) (xs : List A) (x : A) → find test xs ≡ Some x → list_all all xs ≡ true → all x ≡ true
found_passes test all [] x e h = absurd cc
found_passes test all (y ∷ xs) x e h =
    let both = and_parts (all y) (list_all all xs) h in
    from both.0 (λ later. found_passes test all xs x later both.1) (test y) e
  where
    from : all y ≡ true → (find test xs ≡ Some x → all x ≡ true) → (b : Bool) → cond b (Some y) (find test xs) ≡ Some x → all x ≡ true
    from here rest true e = subst (λ z. all z ≡ true) (same_Some y x e) here
    from here rest false e = rest e

-- a field that is found by a name has this name
pub field_name : (event : Name) (name : List ℕ) (field : Field) → find (is_field_named event name) all_fields ≡ Some field → field_text field ≡ name
field_name event name field e = bytes_same (field_text field) name (and_parts (bytes_eq (field_text field) name) (has_field event field) (find_passes (is_field_named event name) all_fields field e)).0

-- ---- modes

-- the suffix is the mode's name and nothing else, can be read, and suits a field of numbers
abbrev is_bare_name : Mode → Bool
is_bare_name mode =
    option_map_or (bytes_eq (mode_name mode)) (mode_suffix mode) false
    && (list_all is_bare (mode_name mode) && (not (is_left_out (Some (mode_name mode))) && (not (length (mode_name mode) == 0) && mode_suits false mode)))

-- so it is of each that is a name and nothing else
names_are_bare : list_all is_bare_name named_modes ≡ true
names_are_bare = refl

-- a suffix that is a name is this name
suffix_named : (name : List ℕ) (suffix : Option (List ℕ)) → option_map_or (bytes_eq name) suffix false ≡ true → suffix ≡ Some name
suffix_named name None e = absurd cc
suffix_named name (Some suffix) e = ap Some (sym (bytes_same name suffix e))

-- a name with a byte at least can be a suffix
name_some : (name : List ℕ) → not (length name == 0) ≡ true → IsSuffix (Some name)
name_some [] e = absurd cc
name_some (byte ∷ name) e = tt

-- a mode that is a name
named_fits : (suffix : List ℕ) (mode : Mode) → find (mode_is_called suffix) named_modes ≡ Some mode → ModeFits false mode
named_fits suffix mode found =
    let tests = and_parts _ _ (found_passes (mode_is_called suffix) is_bare_name named_modes mode found names_are_bare) in
    let more = and_parts _ _ tests.1 in
    let rest = and_parts _ _ more.1 in
    let last = and_parts _ _ rest.1 in
    let called : mode_name mode ≡ suffix = bytes_same (mode_name mode) suffix (find_passes (mode_is_called suffix) named_modes mode found) in
    let is : mode_suffix mode ≡ Some (mode_name mode) = suffix_named (mode_name mode) (mode_suffix mode) tests.0 in
    record {
      reads = ap (mode_of false) (is ∙ ap Some called) ∙ ap (λ (o : Option Mode). option_or o (buckets_of suffix)) found;
      bare = ap (λ (s : Option (List ℕ)). list_all is_bare (suffix_text s)) is ∙ more.0;
      kept = ap is_left_out is ∙ not-true (is_left_out (Some (mode_name mode))) rest.0;
      some = subst IsSuffix (sym is) (name_some (mode_name mode) last.0);
      suits = last.1;
    }

-- buckets of a size
buckets_fit : (text : List ℕ) (mode : Mode) → option_map modes.Buckets (number_in 1 4294967295 text) ≡ Some mode → ModeFits false mode
buckets_fit text mode e = from (number_in 1 4294967295 text) refl e
  where
    made : (n : ℕ) → number_in 1 4294967295 text ≡ Some n → ModeFits false (modes.Buckets n)
    made n is =
        let range = number_parts 1 4294967295 n text is in
        let high = leb-true n 4294967295 range.1 in
        record {
          reads = ap (option_map modes.Buckets) (number_again 1 4294967295 n range.0 range.1 (omega arith));
          bare = decimal_bare n (omega arith);
          kept = refl;
          some = tt;
          suits = range.0;
        }

    from : (o : Option ℕ) → number_in 1 4294967295 text ≡ o → option_map modes.Buckets o ≡ Some mode → ModeFits false mode
    from None is e = absurd cc
    from (Some n) is e = subst (ModeFits false) (same_Some (modes.Buckets n) mode e) (made n is)

-- a modifier of a field of numbers
suffix_fits : (suffix : List ℕ) (mode : Mode) → number_mode suffix ≡ Some mode → ModeFits false mode
suffix_fits suffix mode e = from (find (mode_is_called suffix) named_modes) refl e
  where
    buckets : (b : Bool) → cond b (option_map modes.Buckets (number_in 1 4294967295 (drop 8 suffix))) None ≡ Some mode → ModeFits false mode
    buckets true e = buckets_fit (drop 8 suffix) mode e
    buckets false e = absurd cc

    from : (o : Option Mode) → find (mode_is_called suffix) named_modes ≡ o → option_or o (buckets_of suffix) ≡ Some mode → ModeFits false mode
    from None is e = buckets (starts_with ◌==◌ suffix (codes "buckets=")) e
    from (Some named) is e = subst (ModeFits false) (same_Some named mode e) (named_fits suffix named is)

-- a mode that is read can be read again
mode_fits : (text : Bool) (suffix : Option (List ℕ)) (mode : Mode) → mode_of text suffix ≡ Some mode → ModeFits text mode
mode_fits text None mode e = subst (ModeFits text) (same_Some modes.Plain mode e) (record { reads = refl; bare = refl; kept = refl; some = tt; suits = refl })
mode_fits true (Some suffix) mode e = absurd cc
mode_fits false (Some suffix) mode e = suffix_fits suffix mode e

-- ---- what is read can be read

-- a list with a key at its end
abbrev with_key_at_end : List KeyItem → Field → Mode → List KeyItem
with_key_at_end keys field mode = keys ++ record { field = field; mode = mode } ∷ []

-- a key's last step
abbrev key_added : List KeyItem → Field → Mode → Result (List KeyItem) TriggerFault
key_added keys field mode = unless ((is_key keys field, Duplicate) ∷ []) (Ok (with_key_at_end keys field mode))

-- a key's modifier
abbrev key_modified : List KeyItem → Option (List ℕ) → Field → Result (List KeyItem) TriggerFault
key_modified keys suffix field = given_or BadModifier (mode_of (is_text field) suffix) (key_added keys field)

-- a key's field
abbrev key_found : Name → List KeyItem → ℕ → Word → Result (List KeyItem) TriggerFault
key_found event keys place word = given_or NoField (find (is_field_named event word.name) all_fields) (λ field. unless ((is_left_out word.suffix, LeftOut place) ∷ []) (key_modified keys word.suffix field))

-- a key that has been read, from what its steps say
key_made : (event : Name) (keys more : List KeyItem) (word : Word) (field : Field) (mode : Mode) → IsName word.name → nat_le 3 (length keys) ≡ false
    → list_any (bytes_eq word.name) unkept ≡ false → find (is_field_named event word.name) all_fields ≡ Some field → mode_of (is_text field) word.suffix ≡ Some mode
    → is_key keys field ≡ false → ◌≡◌ {A = Result (List KeyItem) TriggerFault} (Ok (with_key_at_end keys field mode)) (Ok more) → (a : KeyItem) × (more ≡ keys ++ a ∷ []) × KeyFits event keys a
key_made event keys more word field mode named few kept found suited apart e =
    let same : word.name ≡ field_text field = sym (field_name event word.name field found) in (
      record { field = field; mode = mode },
      (let x : with_key_at_end keys field mode ≡ more = cc in sym x),
      record {
        few = few;
        named = subst IsName same named;
        kept = subst (λ (n : List ℕ). list_any (bytes_eq n) unkept ≡ false) same kept;
        owned = subst (λ (n : List ℕ). find (is_field_named event n) all_fields ≡ Some field) same found;
        suited = mode_fits (is_text field) word.suffix mode suited;
        apart = apart;
      },
    )

-- a key that is read can be read again
pub key_steps : (event : Name) → Steps (with_key event) (KeyFits event)
unfolding with_key
key_steps event keys more place bytes word is e =
    let few = unless_parts (nat_le 3 (length keys)) TooMany ((word.dollar || list_any (bytes_eq word.name) unkept, LeftOut place) ∷ []) (key_found event keys place word) more e in
    let kept = unless_parts (word.dollar || list_any (bytes_eq word.name) unkept) (LeftOut place) [] (key_found event keys place word) more few.1 in
    let field = given_parts NoField (find (is_field_named event word.name) all_fields) (λ field. unless ((is_left_out word.suffix, LeftOut place) ∷ []) (key_modified keys word.suffix field)) more kept.1 in
    let plain = unless_parts (is_left_out word.suffix) (LeftOut place) [] (key_modified keys word.suffix field.0) more field.2 in
    let mode = given_parts BadModifier (mode_of (is_text field.0) word.suffix) (key_added keys field.0) more plain.1 in
    let apart = unless_parts (is_key keys field.0) Duplicate [] (Ok (with_key_at_end keys field.0 mode.0)) more mode.2 in
    key_made event keys more word field.0 mode.0 (word_name bytes word is) few.0 (or_parts word.dollar (list_any (bytes_eq word.name) unkept) kept.0).1 field.1 mode.1 apart.0 apart.1

-- a key whose steps are known
key_placed : (event : Name) (keys more : List KeyItem) (place : ℕ) (word : Word) (field : Field) → nat_le 3 (length keys) ≡ false → (word.dollar || list_any (bytes_eq word.name) unkept) ≡ false
    → find (is_field_named event word.name) all_fields ≡ Some field → is_left_out word.suffix ≡ false → key_modified keys word.suffix field ≡ Ok more → with_key event keys place word ≡ Ok more
unfolding with_key
key_placed event keys more place word field few kept found plain e = rw (few, kept, found, plain) e

-- it is read so at any place
pub key_shift : (event : Name) (keys more : List KeyItem) (place other : ℕ) (word : Word) → with_key event keys place word ≡ Ok more → with_key event keys other word ≡ Ok more
unfolding with_key
key_shift event keys more place other word e =
    let few = unless_parts (nat_le 3 (length keys)) TooMany ((word.dollar || list_any (bytes_eq word.name) unkept, LeftOut place) ∷ []) (key_found event keys place word) more e in
    let kept = unless_parts (word.dollar || list_any (bytes_eq word.name) unkept) (LeftOut place) [] (key_found event keys place word) more few.1 in
    let field = given_parts NoField (find (is_field_named event word.name) all_fields) (λ field. unless ((is_left_out word.suffix, LeftOut place) ∷ []) (key_modified keys word.suffix field)) more kept.1 in
    let plain = unless_parts (is_left_out word.suffix) (LeftOut place) [] (key_modified keys word.suffix field.0) more field.2 in
    key_placed event keys more other word field.0 few.0 kept.0 field.1 plain.0 plain.1

-- ---- what can be read is read again

-- a mode's text is its suffix's
suffix_spelled : (suffix : Option (List ℕ)) → option_map_or (λ text. codes "." ++ text) suffix [] ≡ suffix_text suffix
suffix_spelled None = refl
suffix_spelled (Some suffix) = refl

-- a key's text is its word's
key_spelled : (key : KeyItem) → word_text (key_word key) ≡ key_item_text key
key_spelled key = ap (λ (t : List ℕ). field_text key.field ++ t) (sym (suffix_spelled (mode_suffix key.mode)))

-- a key's text can stand in a list
pub key_bare : (event : Name) (keys : List KeyItem) (key : KeyItem) → KeyFits event keys key → list_all is_bare (key_item_text key) ≡ true
key_bare event keys key h =
    ap (list_all is_bare) (sym (key_spelled key)) ∙ list_all-append is_bare (field_text key.field) (suffix_text (mode_suffix key.mode))
    ∙ and_from _ _ (names_bare (field_text key.field) h.named.inside) h.suited.bare

-- a key's word adds it
key_adds : (event : Name) (keys : List KeyItem) (key : KeyItem) (place : ℕ) → KeyFits event keys key → with_key event keys place (key_word key) ≡ Ok (keys ++ key ∷ [])
unfolding with_key
key_adds event keys key place h = rw (h.few, h.kept, h.owned, h.suited.kept, h.suited.reads, h.apart) refl

-- a key's text is read
pub key_again : (event : Name) (keys : List KeyItem) (key : KeyItem) → KeyFits event keys key → Again (with_key event) (KeyFits event) (key_item_text key) keys key
key_again event keys key h = record {
  free = bare_free (key_item_text key) (key_bare event keys key h);
  word = key_word key;
  reads = ap word_of (sym (key_spelled key)) ∙ word_again (key_word key) h.named h.suited.some;
  adds = λ place. key_adds event keys key place h;
}
