-- Value items that can be read, and how their texts are read.
use Rattle.std.proofs.Common.{◌≡◌, ◌&&◌, ℕ, Bool, true, false, not, List, [], ◌∷◌, ◌++◌, map, length, filter, Option, Some, None, option_map, Result, Ok, Err, refl, sym, ap, ◌∙◌, subst, codes, find, cond, append-nil, if◌then◌else◌}
use Rattle.std.proofs.lemmas.Bool.{or_from, or_parts, and_left, and_right}
use Rattle.std.proofs.lemmas.List.Elements.{filter-append}
use Rattle.std.proofs.lemmas.Option.{same_Some, cond_some}
use Rattle.std.specs.Prelude.{nat_le}
use Rattle.std.specs.List.{list_any, list_all}
use Rattle.std.specs.Option.{option_map_or, is_some}
use Rattle.std.specs.Str.{bytes_eq}
use Rattle.ft_fields.specs.declared.event.Name.{Name}
use Rattle.ft_fields.specs.declared.field.Field.{Field}
use Rattle.ft_fields.specs.Fields.{is_field_named, all_fields}
use Rattle.ft_hist.specs.declared.fault.TriggerFault.{TriggerFault}
use Rattle.ft_hist.specs.declared.fault.TriggerFault.TheVariants.{NoField, TooMany, Duplicate, BadModifier, LeftOut}
use Rattle.ft_hist.specs.declared.item.Item.{Item}
use Rattle.ft_hist.specs.declared.item.Item.TheVariants as items
use Rattle.ft_hist.specs.declared.label.Var.{Var}
use Rattle.ft_hist.specs.declared.label.Var.TheVariants as vars
use Rattle.ft_hist.specs.Canonical.{more_items, variable_name, value_text}
use Rattle.ft_head.specs.Draft.{◌>>=◌, unless, items_from, is_left_out, besides_hitcount, value_fault, with_value}
use Rattle.ft_text.specs.Items.{is_word, same_word, Word, pieces}
use Rattle.ft_trigger.specs.TriggerIs.{own_name, value_item, value_items}
use Rattle.ft_trigger.proofs.Chains.{Chain, Steps, Again, items_again, chain_inner}
use Rattle.ft_trigger.proofs.Inversions.{then_parts, unless_parts, given_parts, no_fault}
use Rattle.ft_trigger.proofs.Keyed.{field_name}
use Rattle.ft_text.proofs.Separators.{is_bare, is_inner, names_bare, bare_free}
use Rattle.ft_text.proofs.Spellings.{IsName, IsSuffix, word_text, word_name, word_again, bytes_same}

-- the name of the count of hits
abbrev hitcount : List ℕ
hitcount = codes "hitcount"

-- the word is one that can be read as a value after others
pub record ValueFits (event : Name) (words : List Word) (word : Word) : Type 0 where
  pub few : (not (is_word word hitcount) && nat_le 3 (length (besides_hitcount words))) ≡ false
  pub kept : is_word word (codes "common_timestamp") ≡ false
  pub plain : word.suffix ≡ None
  pub sound : value_fault event word ≡ None
  pub apart : list_any (same_word word) words ≡ false
  pub named : IsName word.name

-- ---- what is read can be read

-- a suffix that is not there
no_suffix : (suffix : Option (List ℕ)) → is_some suffix ≡ false → suffix ≡ None
no_suffix None h = refl
no_suffix (Some suffix) h = absurd cc

-- a value's last step
abbrev value_added : List Word → Word → Result (List Word) TriggerFault
value_added words word = unless ((list_any (same_word word) words, Duplicate) ∷ []) (Ok (words ++ word ∷ []))

-- a value after its tests
abbrev value_sound : Name → List Word → Word → Result (List Word) TriggerFault
value_sound event words word = option_map_or Err (value_fault event word) (value_added words word)

-- a value that is read can be read again
pub value_steps : (event : Name) → Steps (with_value event) (ValueFits event)
unfolding with_value
value_steps event words more place bytes word is e =
    let few = unless_parts (not (is_word word hitcount) && nat_le 3 (length (besides_hitcount words))) TooMany ((is_word word (codes "common_timestamp"), LeftOut place) ∷ (is_left_out word.suffix, LeftOut place) ∷ (is_some word.suffix, BadModifier) ∷ []) (value_sound event words word) more e in
    let kept = unless_parts (is_word word (codes "common_timestamp")) (LeftOut place) ((is_left_out word.suffix, LeftOut place) ∷ (is_some word.suffix, BadModifier) ∷ []) (value_sound event words word) more few.1 in
    let there = unless_parts (is_left_out word.suffix) (LeftOut place) ((is_some word.suffix, BadModifier) ∷ []) (value_sound event words word) more kept.1 in
    let plain = unless_parts (is_some word.suffix) BadModifier [] (value_sound event words word) more there.1 in
    let sound = no_fault (value_fault event word) (value_added words word) more plain.1 in
    let apart = unless_parts (list_any (same_word word) words) Duplicate [] (Ok (words ++ word ∷ [])) more sound.1 in (
      word,
      (let done = apart.1 in let x : words ++ word ∷ [] ≡ more = cc in sym x),
      record {
        few = few.0;
        kept = kept.0;
        plain = no_suffix word.suffix plain.0;
        sound = sound.0;
        apart = apart.0;
        named = word_name bytes word is;
      },
    )

-- it is read so at any place
pub value_shift : (event : Name) (words more : List Word) (place other : ℕ) (word : Word) → with_value event words place word ≡ Ok more → with_value event words other word ≡ Ok more
unfolding with_value
value_shift event words more place other word e =
    let few = unless_parts (not (is_word word hitcount) && nat_le 3 (length (besides_hitcount words))) TooMany ((is_word word (codes "common_timestamp"), LeftOut place) ∷ (is_left_out word.suffix, LeftOut place) ∷ (is_some word.suffix, BadModifier) ∷ []) (value_sound event words word) more e in
    let kept = unless_parts (is_word word (codes "common_timestamp")) (LeftOut place) ((is_left_out word.suffix, LeftOut place) ∷ (is_some word.suffix, BadModifier) ∷ []) (value_sound event words word) more few.1 in
    let there = unless_parts (is_left_out word.suffix) (LeftOut place) ((is_some word.suffix, BadModifier) ∷ []) (value_sound event words word) more kept.1 in
    rw (few.0, kept.0, there.0) there.1

-- ---- what can be read is read again

-- the text of a word without a suffix can stand in a list
pub plain_bare : (word : Word) → IsName word.name → word.suffix ≡ None → list_all is_bare (word_text word) ≡ true
plain_bare word named plain = rw plain (from word.dollar)
  where
    ends : list_all is_bare (word.name ++ []) ≡ true
    ends = ap (list_all is_bare) (append-nil word.name) ∙ names_bare word.name named.inside

    from : (dollar : Bool) → list_all is_bare ((if dollar then codes "$" else []) ++ word.name ++ []) ≡ true
    from true = ends
    from false = ends

-- a value's word adds it
value_adds : (event : Name) (words : List Word) (word : Word) (place : ℕ) → ValueFits event words word → with_value event words place word ≡ Ok (words ++ word ∷ [])
unfolding with_value
value_adds event words word place h = rw (h.few, h.kept, h.plain, h.sound, h.apart) refl

-- a value's text is read
pub value_again : (event : Name) (words : List Word) (word : Word) → ValueFits event words word → Again (with_value event) (ValueFits event) (word_text word) words word
value_again event words word h = record {
  free = bare_free (word_text word) (plain_bare word h.named h.plain);
  word = word;
  reads = word_again word h.named (subst IsSuffix (sym h.plain) tt);
  adds = λ place. value_adds event words word place h;
}

-- ---- the count of hits in front

-- the word of the count of hits
abbrev pub hits : Word
hits = record { dollar = false; name = hitcount; suffix = None }

-- the count of hits can be read first
hits_fit : (event : Name) → ValueFits event [] hits
hits_fit event = record { few = refl; kept = refl; plain = refl; sound = refl; apart = refl; named = record { begins = refl; inside = refl } }

-- what a filter keeps, it keeps again
filter_twice : {A : Type 0} (test : A → Bool) (xs : List A) → filter test (filter test xs) ≡ filter test xs
filter_twice test [] = refl
filter_twice {A = A} test (x ∷ xs) = from (filter_twice test xs) (test x) refl
  where
    from : filter test (filter test xs) ≡ filter test xs → (b : Bool) → test x ≡ b → filter test (cond b (x ∷ filter test xs) (filter test xs)) ≡ cond b (x ∷ filter test xs) (filter test xs)
    from later true is = rw is (ap (λ (l : List A). x ∷ l) later)
    from later false is = later

-- so are the values besides the count of hits
pub besides_twice : (words : List Word) → besides_hitcount (besides_hitcount words) ≡ besides_hitcount words
besides_twice words = filter_twice (λ w. not (is_word w hitcount)) words

-- what no item passes, none that a filter keeps does
any_kept : {A : Type 0} (test keep : A → Bool) (xs : List A) → list_any test xs ≡ false → list_any test (filter keep xs) ≡ false
any_kept test keep [] h = refl
any_kept test keep (x ∷ xs) h = let both = or_parts (test x) (list_any test xs) h in from both.0 (any_kept test keep xs both.1) (keep x)
  where
    from : test x ≡ false → list_any test (filter keep xs) ≡ false → (b : Bool) → list_any test (cond b (x ∷ filter keep xs) (filter keep xs)) ≡ false
    from here later true = or_from (test x) (list_any test (filter keep xs)) here later
    from here later false = later

-- another word is not the same as the count of hits
other_word : (word : Word) → is_word word hitcount ≡ false → same_word word hits ≡ false
other_word word h = from word.dollar h
  where
    from : (dollar : Bool) → (not dollar && bytes_eq word.name hitcount) ≡ false → (bytes_eq word.name hitcount && (if dollar then false else true)) ≡ false
    from true h = and_right (bytes_eq word.name hitcount) false refl
    from false h = and_left (bytes_eq word.name hitcount) true h

-- another value can be read after the count of hits
other_fits : (event : Name) (words : List Word) (word : Word) → is_word word hitcount ≡ false → ValueFits event words word → ValueFits event (hits ∷ besides_hitcount words) word
other_fits event words word other h = record {
  few = ap (λ (l : List Word). not (is_word word hitcount) && nat_le 3 (length l)) (besides_twice words) ∙ h.few;
  kept = h.kept;
  plain = h.plain;
  sound = h.sound;
  apart = or_from _ _ (other_word word other) (any_kept (same_word word) (λ w. not (is_word w hitcount)) words h.apart);
  named = h.named;
}

-- one more value after the count of hits, or one more count of hits
others_more : (event : Name) (more words : List Word) (word : Word) (b : Bool) → is_word word hitcount ≡ b → ValueFits event words word
    → Chain (ValueFits event) (hits ∷ besides_hitcount (words ++ word ∷ [])) (besides_hitcount more) → Chain (ValueFits event) (hits ∷ besides_hitcount words) (cond (not b) (word ∷ besides_hitcount more) (besides_hitcount more))
others_more event more words word b is h rest = from b is
  where
    grown : besides_hitcount (words ++ word ∷ []) ≡ besides_hitcount words ++ besides_hitcount (word ∷ [])
    grown = filter-append (λ w. not (is_word w hitcount)) words (word ∷ [])

    from : (b : Bool) → is_word word hitcount ≡ b → Chain (ValueFits event) (hits ∷ besides_hitcount words) (cond (not b) (word ∷ besides_hitcount more) (besides_hitcount more))
    from true is =
        let same : besides_hitcount (words ++ word ∷ []) ≡ besides_hitcount words = grown ∙ ap (λ (b : Bool). besides_hitcount words ++ cond (not b) (word ∷ []) []) is ∙ append-nil (besides_hitcount words) in
        subst (λ (l : List Word). Chain (ValueFits event) (hits ∷ l) (besides_hitcount more)) same rest
    from false is =
        let same : besides_hitcount (words ++ word ∷ []) ≡ besides_hitcount words ++ word ∷ [] = grown ∙ ap (λ (b : Bool). besides_hitcount words ++ cond (not b) (word ∷ []) []) is in
        (other_fits event words word is h, subst (λ (l : List Word). Chain (ValueFits event) (hits ∷ l) (besides_hitcount more)) same rest)

-- values can be read after the count of hits
pub others_fit : (event : Name) (more words : List Word) → Chain (ValueFits event) words more → Chain (ValueFits event) (hits ∷ besides_hitcount words) (besides_hitcount more)
others_fit event [] words chain = tt
others_fit event (word ∷ more) words chain = others_more event more words word (is_word word hitcount) refl chain.0 (others_fit event more (words ++ word ∷ []) chain.1)

-- values with the count of hits in front are read
pub values_again : (event : Name) (words : List Word) (place : ℕ) → Chain (ValueFits event) [] words
    → items_from (with_value event) [] (pieces 44 place (hitcount ++ more_items (map word_text (besides_hitcount words)))) ≡ Ok (hits ∷ besides_hitcount words)
values_again event words place chain = items_again (with_value event) (ValueFits event) word_text (value_again event) (besides_hitcount words) [] hits place (hits_fit event) (others_fit event words [] chain)

-- their text can stand in a part
pub values_inner : (event : Name) (words : List Word) → Chain (ValueFits event) [] words → list_all is_inner (more_items (map word_text (besides_hitcount words))) ≡ true
values_inner event words chain = chain_inner (ValueFits event) word_text (λ list word h. plain_bare word h.named h.plain) (besides_hitcount words) (hits ∷ []) (others_fit event words [] chain)

-- ---- what values are

-- the text of what a word names is the word's
value_spelled : (event : Name) (variable : Option Var) (word : Word) (value : Item) → word.suffix ≡ None → value_item event (own_name variable) word ≡ Some value → value_text variable value ≡ word_text word
value_spelled event variable word value plain e = rw plain (from word.dollar e)
  where
    field_from : (o : Option Field) → find (is_field_named event word.name) all_fields ≡ o → option_map items.Num o ≡ Some value → value_text variable value ≡ word.name ++ []
    field_from None is e = absurd cc
    field_from (Some field) is e = ap (value_text variable) (sym (same_Some (items.Num field) value e)) ∙ field_name event word.name field is ∙ sym (append-nil word.name)

    own_from : (name : List ℕ) (v : Option Var) → name ≡ variable_name v → (if bytes_eq word.name name then Some items.Own else None) ≡ Some value → value_text v value ≡ codes "$" ++ word.name ++ []
    own_from name v is e =
        let found = cond_some (bytes_eq word.name name) items.Own value e in
        let named : variable_name v ≡ word.name = sym is ∙ sym (bytes_same word.name name found.0) in
        ap (value_text v) (sym found.1) ∙ ap (λ (t : List ℕ). codes "$" ++ t) (named ∙ sym (append-nil word.name))

    var_from : (v : Option Var) → option_map_or (λ name. if bytes_eq word.name name then Some items.Own else None) (own_name v) None ≡ Some value → value_text v value ≡ codes "$" ++ word.name ++ []
    var_from None e = absurd cc
    var_from (Some (vars.Saves name)) e = own_from name (Some (vars.Saves name)) refl e
    var_from (Some (vars.Reads name source)) e = own_from name (Some (vars.Reads name source)) refl e

    from : (dollar : Bool) → (if dollar then option_map_or (λ name. if bytes_eq word.name name then Some items.Own else None) (own_name variable) None else option_map items.Num (find (is_field_named event word.name) all_fields)) ≡ Some value
        → value_text variable value ≡ (if dollar then codes "$" else []) ++ word.name ++ []
    from true e = var_from variable e
    from false e = field_from (find (is_field_named event word.name) all_fields) refl e

-- so the texts of values are their words'
pub values_spelled : (event : Name) (variable : Option Var) (more words : List Word) (values : List Item) → Chain (ValueFits event) words more → value_items event (own_name variable) more ≡ Ok values
    → map (value_text variable) values ≡ map word_text more
values_spelled event variable [] words values chain e = let same : [] ≡ values = cc in ap (map (value_text variable)) (sym same)
values_spelled event variable (word ∷ more) words values chain e =
    let value = given_parts NoField (value_item event (own_name variable) word) (λ value. value_items event (own_name variable) more >>= (λ values. Ok (value ∷ values))) values e in
    let rest = then_parts (value_items event (own_name variable) more) (λ values. Ok (value.0 ∷ values)) values value.2 in
    joined value.0 rest.0 (values_spelled event variable more (words ++ word ∷ []) rest.0 chain.1 rest.1) (value_spelled event variable word value.0 chain.0.plain value.1) rest.2
  where
    joined : (value : Item) (found : List Item) → map (value_text variable) found ≡ map word_text more → value_text variable value ≡ word_text word → ◌≡◌ {A = Result (List Item) TriggerFault} (Ok (value ∷ found)) (Ok values)
        → map (value_text variable) values ≡ map word_text (word ∷ more)
    joined value found later here e = let same : value ∷ found ≡ values = cc in ap (map (value_text variable)) (sym same) ∙ rw (here, later) refl
