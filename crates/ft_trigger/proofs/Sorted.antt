-- Sort items that can be read, and how their texts are read.
use Rattle.std.proofs.Common.{◌≡◌, ◌||◌, ◌&&◌, ◌+◌, ℕ, suc, Bool, true, false, not, List, [], ◌∷◌, ◌++◌, map, length, Option, Some, None, option_map, Result, Ok, refl, sym, ap, ◌∙◌, subst, arith, codes, cond, if◌then◌else◌, inl, inr}
use Rattle.std.proofs.lemmas.Bool.{and_parts, and_from, or_cases, not-false}
use Rattle.std.proofs.lemmas.List.{map_push, length-map}
use Rattle.std.proofs.lemmas.List.Folds.{list_all-append}
use Rattle.std.proofs.lemmas.Option.{same_Some}
use Rattle.std.specs.Prelude.{nat_le, slice_get}
use Rattle.std.specs.List.{list_any, list_all}
use Rattle.std.specs.Option.{option_map_or}
use Rattle.std.specs.Str.{bytes_eq}
use Rattle.ft_fields.specs.Fields.{field_text}
use Rattle.ft_hist.specs.declared.fault.TriggerFault.{TriggerFault}
use Rattle.ft_hist.specs.declared.fault.TriggerFault.TheVariants.{TooMany, Duplicate, BadSort}
use Rattle.ft_hist.specs.declared.item.KeyItem.{KeyItem}
use Rattle.ft_hist.specs.declared.item.Item.{Item}
use Rattle.ft_hist.specs.declared.item.Item.TheVariants as items
use Rattle.ft_hist.specs.declared.item.SortBy.{SortBy}
use Rattle.ft_hist.specs.declared.item.SortBy.TheVariants as sorts
use Rattle.ft_hist.specs.declared.item.SortItem.{SortItem}
use Rattle.ft_hist.specs.declared.label.Var.{Var}
use Rattle.ft_hist.specs.declared.label.Var.TheVariants as vars
use Rattle.ft_hist.specs.Canonical.{more_items, value_text, by_text, sort_text}
use Rattle.ft_head.specs.Draft.{◌>>=◌, items_from, is_direction, with_sort}
use Rattle.ft_text.specs.Items.{is_word, same_word, Word, pieces}
use Rattle.ft_hist.specs.Hist.{Hist}
use Rattle.ft_trigger.specs.TriggerIs.{own_name, index_where, names_value, sort_by, is_descending, sorts_of}
use Rattle.ft_trigger.proofs.Chains.{Chain, Steps, Again, items_again, chain_inner}
use Rattle.ft_trigger.proofs.Inversions.{then_parts, unless_parts, given_parts}
use Rattle.ft_text.proofs.Separators.{is_bare, is_inner, names_bare, bare_free, bare_inner}
use Rattle.ft_text.proofs.Spellings.{IsName, IsSuffix, suffix_text, word_text, word_name, word_again, bytes_same}

-- the word is one that can be read as a sort item after others
pub record SortFits (words : List Word) (word : Word) : Type 0 where
  pub few : nat_le 2 (length words) ≡ false
  pub way : is_direction word.suffix ≡ true
  pub apart : list_any (same_word word) words ≡ false
  pub named : IsName word.name

-- ---- what is read can be read

-- a sort item that is read can be read again
pub sort_steps : Steps with_sort SortFits
unfolding with_sort
sort_steps words more place bytes word is e =
    let few = unless_parts (nat_le 2 (length words)) TooMany ((not (is_direction word.suffix), BadSort) ∷ (list_any (same_word word) words, Duplicate) ∷ []) (Ok (words ++ word ∷ [])) more e in
    let way = unless_parts (not (is_direction word.suffix)) BadSort ((list_any (same_word word) words, Duplicate) ∷ []) (Ok (words ++ word ∷ [])) more few.1 in
    let apart = unless_parts (list_any (same_word word) words) Duplicate [] (Ok (words ++ word ∷ [])) more way.1 in (
      word,
      (let done = apart.1 in let x : words ++ word ∷ [] ≡ more = cc in sym x),
      record {
        few = few.0;
        way = not-false (is_direction word.suffix) way.0;
        apart = apart.0;
        named = word_name bytes word is;
      },
    )

-- ---- what can be read is read again

-- a direction stands after a `.`
direction_some : (suffix : Option (List ℕ)) → is_direction suffix ≡ true → IsSuffix suffix
direction_some None h = tt
direction_some (Some []) h = absurd cc
direction_some (Some (byte ∷ suffix)) h = tt

-- a direction can stand in a list
direction_bare : (suffix : Option (List ℕ)) → is_direction suffix ≡ true → list_all is_bare (suffix_text suffix) ≡ true
direction_bare None h = refl
direction_bare (Some suffix) h = elim (or_cases (bytes_eq suffix (codes "ascending")) (bytes_eq suffix (codes "descending")) h) [
  | inl up ↦ ap (λ (t : List ℕ). list_all is_bare (46 ∷ t)) (bytes_same suffix (codes "ascending") up)
  | inr down ↦ ap (λ (t : List ℕ). list_all is_bare (46 ∷ t)) (bytes_same suffix (codes "descending") down)
]

-- a sort item's text can stand in a list
sort_bare : (words : List Word) (word : Word) → SortFits words word → list_all is_bare (word_text word) ≡ true
sort_bare words word h = from word.dollar
  where
    ends : list_all is_bare (word.name ++ suffix_text word.suffix) ≡ true
    ends = list_all-append is_bare word.name (suffix_text word.suffix) ∙ and_from _ _ (names_bare word.name h.named.inside) (direction_bare word.suffix h.way)

    from : (dollar : Bool) → list_all is_bare ((if dollar then codes "$" else []) ++ word.name ++ suffix_text word.suffix) ≡ true
    from true = ends
    from false = ends

-- a sort item's word adds it
sort_adds : (words : List Word) (word : Word) (place : ℕ) → SortFits words word → with_sort words place word ≡ Ok (words ++ word ∷ [])
unfolding with_sort
sort_adds words word place h = rw (h.few, h.way, h.apart) refl

-- a sort item's text is read
sort_again : (words : List Word) (word : Word) → SortFits words word → Again with_sort SortFits (word_text word) words word
sort_again words word h = record {
  free = bare_free (word_text word) (sort_bare words word h);
  word = word;
  reads = word_again word h.named (direction_some word.suffix h.way);
  adds = λ place. sort_adds words word place h;
}

-- ---- words as they are written

-- which way, as it is written
abbrev way_text : Bool → Option (List ℕ)
way_text true = Some (codes "descending")
way_text false = None

-- a sort item's word as it is written
abbrev pub directed : Word → Word
directed word = record { dollar = word.dollar; name = word.name; suffix = way_text (is_descending word) }

-- it says which way
directed_way : (b : Bool) → is_direction (way_text b) ≡ true
directed_way true = refl
directed_way false = refl

-- it says the same way
directed_same : (b : Bool) → option_map_or (bytes_eq (codes "descending")) (way_text b) false ≡ b
directed_same true = refl
directed_same false = refl

-- no word is the same as before
any_directed : (word : Word) (words : List Word) → list_any (same_word (directed word)) (map directed words) ≡ list_any (same_word word) words
any_directed word [] = refl
any_directed word (other ∷ words) = ap (λ (b : Bool). same_word word other || b) (any_directed word words)

-- it can be read
directed_fits : (words : List Word) (word : Word) → SortFits words word → SortFits (map directed words) (directed word)
directed_fits words word h = record {
  few = ap (nat_le 2) (length-map words directed) ∙ h.few;
  way = directed_way (is_descending word);
  apart = any_directed word words ∙ h.apart;
  named = h.named;
}

-- so can a list
directed_chain : (more words : List Word) → Chain SortFits words more → Chain SortFits (map directed words) (map directed more)
directed_chain [] words chain = tt
directed_chain (word ∷ more) words chain =
    (directed_fits words word chain.0, subst (λ (l : List Word). Chain SortFits l (map directed more)) (map_push directed words word) (directed_chain more (words ++ word ∷ []) chain.1))

-- sort items as they are written are read
pub sorts_again : (word : Word) (more : List Word) (place : ℕ) → Chain SortFits [] (word ∷ more)
    → items_from with_sort [] (pieces 44 place (word_text (directed word) ++ more_items (map word_text (map directed more)))) ≡ Ok (map directed (word ∷ more))
sorts_again word more place chain =
    let fits = directed_chain (word ∷ more) [] chain in
    items_again with_sort SortFits word_text sort_again (map directed more) [] (directed word) place fits.0 fits.1

-- their text can stand in a part
pub sorts_inner : (word : Word) (more : List Word) → Chain SortFits [] (word ∷ more) → list_all is_inner (word_text (directed word) ++ more_items (map word_text (map directed more))) ≡ true
sorts_inner word more chain =
    let fits = directed_chain (word ∷ more) [] chain in
    list_all-append is_inner (word_text (directed word)) (more_items (map word_text (map directed more)))
    ∙ and_from _ _ (bare_inner (word_text (directed word)) (sort_bare [] (directed word) fits.0)) (chain_inner SortFits word_text sort_bare (map directed more) (directed word ∷ []) fits.1)

-- ---- what sort items are

-- the number of the first thing that passes is one of a thing that passes
pub index_parts : {A : Type 0} (test : A → Bool) (n : ℕ) (xs : List A) (i : ℕ) → index_where test n xs ≡ Some i → (k : ℕ) × (x : A) × (i ≡ n + k) × (slice_get xs k ≡ Some x) × (test x ≡ true)
index_parts test n [] i e = absurd cc
index_parts {A = A} test n (x ∷ xs) i e = from (index_parts test (n + 1) xs i) (test x) refl e
  where
    from : (index_where test (n + 1) xs ≡ Some i → (k : ℕ) × (x : A) × (i ≡ n + 1 + k) × (slice_get xs k ≡ Some x) × (test x ≡ true))
        → (b : Bool) → test x ≡ b → cond b (Some n) (index_where test (n + 1) xs) ≡ Some i → (k : ℕ) × (y : A) × (i ≡ n + k) × (slice_get (x ∷ xs) k ≡ Some y) × (test y ≡ true)
    from later true is e = let same : n ≡ i = same_Some n i e in (0, x, omega arith, refl, is)
    from later false is e = let found = later e in let same = found.2 in (suc found.0, found.1, omega arith, found.3, found.4)

-- a word's text without a suffix
abbrev bare_text : Word → List ℕ
bare_text word = (if word.dollar then codes "$" else []) ++ word.name

-- a word that is a name has this text
word_spelled : (word : Word) (name : List ℕ) → is_word word name ≡ true → name ≡ bare_text word
word_spelled word name h = from word.dollar h
  where
    from : (dollar : Bool) → (not dollar && bytes_eq word.name name) ≡ true → name ≡ (if dollar then codes "$" else []) ++ word.name
    from true h = absurd cc
    from false h = sym (bytes_same word.name name h)

-- a value that a word names has this text
named_spelled : (variable : Option Var) (word : Word) (value : Item) → names_value (own_name variable) word value ≡ true → value_text variable value ≡ bare_text word
named_spelled variable word (items.Num field) h = word_spelled word (field_text field) h
named_spelled None word items.Own h = absurd (let both = and_parts word.dollar false h in let x = both.1 in cc)
named_spelled (Some (vars.Saves name)) word items.Own h = let both = and_parts word.dollar (bytes_eq word.name name) h in let d = both.0 in rw d (ap (λ (t : List ℕ). codes "$" ++ t) (sym (bytes_same word.name name both.1)))
named_spelled (Some (vars.Reads name source)) word items.Own h = let both = and_parts word.dollar (bytes_eq word.name name) h in let d = both.0 in rw d (ap (λ (t : List ℕ). codes "$" ++ t) (sym (bytes_same word.name name both.1)))

-- what a sort item names has its text
by_spelled : (hist : Hist) (word : Word) (what : SortBy) → sort_by hist.keys hist.values (own_name hist.variable) word ≡ Some what → by_text hist what ≡ bare_text word
unfolding sort_by
by_spelled hist word what e = hit (is_word word (codes "hitcount")) refl e
  where
    value_from : (o : Option ℕ) → index_where (names_value (own_name hist.variable) word) 0 hist.values ≡ o → option_map sorts.Value o ≡ Some what → by_text hist what ≡ bare_text word
    value_from None is e = absurd cc
    value_from (Some i) is e =
        let found = index_parts (names_value (own_name hist.variable) word) 0 hist.values i is in
        let same : i ≡ found.0 = (let x = found.2 in omega arith) in
        ap (by_text hist) (sym (same_Some (sorts.Value i) what e)) ∙ ap (λ (n : ℕ). option_map_or (value_text hist.variable) (slice_get hist.values n) []) same
        ∙ ap (λ (o : Option Item). option_map_or (value_text hist.variable) o []) found.3 ∙ named_spelled hist.variable word found.1 found.4

    key_from : (o : Option ℕ) → index_where (λ key. is_word word (field_text key.field)) 0 hist.keys ≡ o
        → option_map_or (λ n. Some (sorts.Key n)) o (option_map sorts.Value (index_where (names_value (own_name hist.variable) word) 0 hist.values)) ≡ Some what → by_text hist what ≡ bare_text word
    key_from None is e = value_from (index_where (names_value (own_name hist.variable) word) 0 hist.values) refl e
    key_from (Some i) is e =
        let found = index_parts (λ key. is_word word (field_text key.field)) 0 hist.keys i is in
        let same : i ≡ found.0 = (let x = found.2 in omega arith) in
        ap (by_text hist) (sym (same_Some (sorts.Key i) what e)) ∙ ap (λ (n : ℕ). option_map_or (λ key. field_text key.field) (slice_get hist.keys n) []) same
        ∙ ap (λ (o : Option KeyItem). option_map_or (λ key. field_text key.field) o []) found.3 ∙ word_spelled word (field_text found.1.field) found.4

    hit : (b : Bool) → is_word word (codes "hitcount") ≡ b
        → cond b (Some sorts.Hits) (option_map_or (λ n. Some (sorts.Key n)) (index_where (λ key. is_word word (field_text key.field)) 0 hist.keys)
        (option_map sorts.Value (index_where (names_value (own_name hist.variable) word) 0 hist.values))) ≡ Some what → by_text hist what ≡ bare_text word
    hit true is e = ap (by_text hist) (sym (same_Some sorts.Hits what e)) ∙ word_spelled word (codes "hitcount") is
    hit false is e = key_from (index_where (λ key. is_word word (field_text key.field)) 0 hist.keys) refl e

-- which way has its text
way_spelled : (b : Bool) → (if b then codes ".descending" else []) ≡ suffix_text (way_text b)
way_spelled true = refl
way_spelled false = refl

-- so the text of a sort item is its word's as it is written
item_spelled : (hist : Hist) (word : Word) (what : SortBy) → sort_by hist.keys hist.values (own_name hist.variable) word ≡ Some what
    → sort_text hist (record { what = what; descending = is_descending word }) ≡ word_text (directed word)
item_spelled hist word what e = rw (by_spelled hist word what e, way_spelled (is_descending word)) refl

-- so are the texts of sort items
pub sorts_spelled : (hist : Hist) (more : List Word) (found : List SortItem) → sorts_of hist.keys hist.values (own_name hist.variable) more ≡ Ok found
    → map (sort_text hist) found ≡ map word_text (map directed more)
sorts_spelled hist [] found e = let same : [] ≡ found = cc in ap (map (sort_text hist)) (sym same)
sorts_spelled hist (word ∷ more) found e =
    let what = given_parts BadSort (sort_by hist.keys hist.values (own_name hist.variable) word)
    (λ what. sorts_of hist.keys hist.values (own_name hist.variable) more >>= (λ sorts. Ok (record { what = what; descending = is_descending word } ∷ sorts))) found e in
    let rest = then_parts (sorts_of hist.keys hist.values (own_name hist.variable) more) (λ sorts. Ok (record { what = what.0; descending = is_descending word } ∷ sorts)) found what.2 in
    joined (record { what = what.0; descending = is_descending word }) rest.0 (sorts_spelled hist more rest.0 rest.1) (item_spelled hist word what.0 what.1) rest.2
  where
    joined : (item : SortItem) (rest : List SortItem) → map (sort_text hist) rest ≡ map word_text (map directed more) → sort_text hist item ≡ word_text (directed word)
        → ◌≡◌ {A = Result (List SortItem) TriggerFault} (Ok (item ∷ rest)) (Ok found) → map (sort_text hist) found ≡ map word_text (map directed (word ∷ more))
    joined item rest later here e = let same : item ∷ rest ≡ found = cc in ap (map (sort_text hist)) (sym same) ∙ rw (here, later) refl

-- tests that say the same find the same
index_same : {A : Type 0} (test other : A → Bool) → ((x : A) → test x ≡ other x) → (n : ℕ) (xs : List A) → index_where test n xs ≡ index_where other n xs
index_same test other same n [] = refl
index_same test other same n (x ∷ xs) = rw (same x, index_same test other same (n + 1) xs) refl

-- a word as it is written names the same value
value_directed : (own : Option (List ℕ)) (word : Word) (value : Item) → names_value own (directed word) value ≡ names_value own word value
value_directed own word (items.Num field) = refl
value_directed own word items.Own = refl

-- a word as it is written names the same
by_directed : (keys : List KeyItem) (values : List Item) (own : Option (List ℕ)) (word : Word) → sort_by keys values own (directed word) ≡ sort_by keys values own word
unfolding sort_by
by_directed keys values own word =
    ap (λ (o : Option ℕ). if is_word word (codes "hitcount") then Some sorts.Hits else option_map_or (λ n. Some (sorts.Key n)) (index_where (λ key. is_word word (field_text key.field)) 0 keys) (option_map sorts.Value o))
    (index_same (names_value own (directed word)) (names_value own word) (value_directed own word) 0 values)

-- words as they are written are the same sort items
pub sorts_directed : (keys : List KeyItem) (values : List Item) (own : Option (List ℕ)) (more : List Word) → sorts_of keys values own (map directed more) ≡ sorts_of keys values own more
sorts_directed keys values own [] = refl
sorts_directed keys values own (word ∷ more) =
    rw (by_directed keys values own word, directed_same (is_descending word), sorts_directed keys values own more) refl
