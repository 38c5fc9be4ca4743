-- A trigger that some text gives is within its limits.
use Rattle.std.proofs.Common.{◌≡◌, ◌≤◌, ◌<◌, ◌+◌, ◌-◌, ◌&&◌, ℕ, suc, Bool, true, false, not, List, [], ◌∷◌, ◌++◌, length, drop, take, Option, Some, None, Result, Ok, refl, sym, ap, ◌∙◌, subst, arith, codes, decimal, append_assoc, append-nil, length-append, leb-true}
use Rattle.std.proofs.lemmas.Bool.{and_parts, leb-false}
use Rattle.std.specs.Prelude.{nat_le, unwrap_or, if◌then◌else◌}
use Rattle.ft_fields.specs.declared.event.Name.{Name}
use Rattle.ft_hist.specs.declared.item.KeyItem.{KeyItem}
use Rattle.ft_hist.specs.declared.item.Item.{Item}
use Rattle.ft_hist.specs.declared.item.SortItem.{SortItem}
use Rattle.ft_hist.specs.Hist.{Hist, IsWithin}
use Rattle.ft_hist.specs.declared.fault.TriggerFault.{TriggerFault}
use Rattle.ft_hist.specs.declared.fault.TriggerFault.TheVariants.{NoField, BadSort}
use Rattle.ft_head.specs.Draft.{Draft, ◌>>=◌, besides_hitcount}
use Rattle.ft_text.specs.Items.{is_word, Word, pieces}
use Rattle.ft_trigger.specs.TriggerIs.{head_len, behind_head, trigger_tail, own_name, value_item, value_items, sort_by, sorts_of, is_descending, by_hits, sort_of, trigger_of}
use Rattle.ft_trigger.proofs.Chains.{Chain}
use Rattle.ft_trigger.proofs.Drafts.{Listed, If, DraftFits, draft_fits}
use Rattle.ft_trigger.proofs.Inversions.{then_parts, given_parts}
use Rattle.ft_trigger.proofs.Keyed.{KeyFits}
use Rattle.ft_head.proofs.Numerals.{SizeFits, size_parts}
use Rattle.ft_trigger.proofs.ReadSo.{read_so}
use Rattle.ft_trigger.proofs.ReadAgain.{Made, made_so, keys_of, words_of, size_of_draft}
use Rattle.ft_trigger.proofs.Sorted.{SortFits}
use Rattle.ft_trigger.proofs.Valued.{ValueFits}
use Rattle.ft_head.proofs.WordLemmas.{besides_more}

-- ---- lists that grow

-- a list that grows only while it is short stays short
chain_few : {A : Type 0} (step : List A → A → Type 0) (most : ℕ) → ((list : List A) (a : A) → step list a → length list < most)
    → (more list : List A) → Chain step list more → length list ≤ most → length (list ++ more) ≤ most
chain_few step most few [] list chain low = subst (λ (l : List _). length l ≤ most) (sym (append-nil list)) low
chain_few step most few (a ∷ more) list chain low =
    let short = few list a chain.0 in
    let one : length (list ++ a ∷ []) ≡ length list + 1 = length-append list (a ∷ []) in
    subst (λ (l : List _). length l ≤ most) (append_assoc list (a ∷ []) more) (chain_few step most few more (list ++ a ∷ []) chain.1 (omega arith))

-- a listed list has an item, and not more than it may
listed_some : {A : Type 0} (step : List A → A → Type 0) (list : List A) → Listed step list → 0 < length list
listed_some step list h = let same = ap length h.is in omega arith

listed_few : {A : Type 0} (step : List A → A → Type 0) (most : ℕ) → ((list : List A) (a : A) → step list a → length list < most) → (list : List A) → Listed step list → length list ≤ most
listed_few step most few list h = subst (λ (l : List _). length l ≤ most) (sym h.is) (chain_few step most few (h.first ∷ h.more) [] h.chain (omega arith))

-- ---- values

-- one value more besides `hitcount`
value_short : (event : Name) (words : List Word) (word : Word) → ValueFits event words word → length (besides_hitcount words) ≤ 3 → length (besides_hitcount (words ++ word ∷ [])) ≤ 3
value_short event words word h low = subst (λ (l : List Word). length l ≤ 3) (sym (besides_more words word)) (from (is_word word (codes "hitcount")) (nat_le 3 (length (besides_hitcount words))) refl h.few)
  where
    from : (hits many : Bool) → nat_le 3 (length (besides_hitcount words)) ≡ many → (not hits && many) ≡ false → length (besides_hitcount words ++ (if not hits then word ∷ [] else [])) ≤ 3
    from true many is e = subst (λ (l : List Word). length l ≤ 3) (sym (append-nil (besides_hitcount words))) low
    from false true is e = absurd cc
    from false false is e =
        let short = leb-false 3 (length (besides_hitcount words)) is in
        let one : length (besides_hitcount words ++ word ∷ []) ≡ length (besides_hitcount words) + 1 = length-append (besides_hitcount words) (word ∷ []) in
        omega arith

-- values that are read are few
values_few : (event : Name) (more words : List Word) → Chain (ValueFits event) words more → length (besides_hitcount words) ≤ 3 → length (besides_hitcount (words ++ more)) ≤ 3
values_few event [] words chain low = subst (λ (l : List Word). length (besides_hitcount l) ≤ 3) (sym (append-nil words)) low
values_few event (word ∷ more) words chain low =
    subst (λ (l : List Word). length (besides_hitcount l) ≤ 3) (append_assoc words (word ∷ []) more)
    (values_few event more (words ++ word ∷ []) chain.1 (value_short event words word chain.0 low))

-- each word is one value
values_counted : (event : Name) (own : Option (List ℕ)) (words : List Word) (values : List Item) → value_items event own words ≡ Ok values → length values ≡ length words
values_counted event own [] values e = let same : [] ≡ values = cc in ap length (sym same)
values_counted event own (word ∷ words) values e =
    let value = given_parts NoField (value_item event own word) (λ value. value_items event own words >>= (λ values. Ok (value ∷ values))) values e in
    let rest = then_parts (value_items event own words) (λ values. Ok (value.0 ∷ values)) values value.2 in
    joined value.0 rest.0 (values_counted event own words rest.0 rest.1) rest.2
  where
    joined : (value : Item) (rest : List Item) → length rest ≡ length words → ◌≡◌ {A = Result (List Item) TriggerFault} (Ok (value ∷ rest)) (Ok values) → length values ≡ suc (length words)
    joined value rest later e = let same : value ∷ rest ≡ values = cc in ap length (sym same) ∙ ap suc later

-- ---- sort items

-- each word is one sort item
sorts_counted : (keys : List KeyItem) (values : List Item) (own : Option (List ℕ)) (words : List Word) (sort : List SortItem) → sorts_of keys values own words ≡ Ok sort → length sort ≡ length words
sorts_counted keys values own [] sort e = let same : [] ≡ sort = cc in ap length (sym same)
sorts_counted keys values own (word ∷ words) sort e =
    let what = given_parts BadSort (sort_by keys values own word) (λ what. sorts_of keys values own words >>= (λ sorts. Ok (record { what = what; descending = is_descending word } ∷ sorts))) sort e in
    let rest = then_parts (sorts_of keys values own words) (λ sorts. Ok (record { what = what.0; descending = is_descending word } ∷ sorts)) sort what.2 in
    joined (record { what = what.0; descending = is_descending word }) rest.0 (sorts_counted keys values own words rest.0 rest.1) rest.2
  where
    joined : (item : SortItem) (rest : List SortItem) → length rest ≡ length words → ◌≡◌ {A = Result (List SortItem) TriggerFault} (Ok (item ∷ rest)) (Ok sort) → length sort ≡ suc (length words)
    joined item rest later e = let same : item ∷ rest ≡ sort = cc in ap length (sym same) ∙ ap suc later

-- there are one or two
order_short : (keys : List KeyItem) (values : List Item) (own : Option (List ℕ)) (words : Option (List Word)) (sort : List SortItem) → If (Listed SortFits) words → sort_of keys values own words ≡ Ok sort
    → (0 < length sort) × (length sort ≤ 2)
order_short keys values own None sort h e =
    let same : by_hits ≡ sort = cc in
    let one : length sort ≡ 1 = ap length (sym same) in
    (omega arith, omega arith)
order_short keys values own (Some words) sort h e =
    let same = sorts_counted keys values own words sort e in
    let some = listed_some SortFits words h in
    let few = listed_few SortFits 2 (λ list a fits. leb-false 2 (length list) fits.few) words h in
    (omega arith, omega arith)

-- ---- sizes

-- a size that is read is one that a table may have
size_within : (size : ℕ) → SizeFits size → (128 ≤ size) × (size ≤ 131072)
size_within size h =
    let sized = (size_parts (decimal size) size h.reads).1 in
    let range = and_parts (nat_le 128 size) (nat_le size 131072) sized in
    (leb-true 128 size range.0, leb-true size 131072 range.1)

-- ---- triggers

-- a trigger that was made of what can be read again
made_within : (event : Name) (draft : Draft) (hist : Hist) → DraftFits event draft → Made event draft hist → IsWithin hist
made_within event draft hist h m =
    let keys = keys_of event draft.keys m.keys h.keys m.keys_are in
    let values = values_few event (unwrap_or draft.values []) [] (words_of event draft.values h.values) (omega arith) in
    let counted = values_counted event (own_name draft.variable) (besides_hitcount (unwrap_or draft.values [])) m.values m.values_are in
    let sort = order_short m.keys m.values (own_name draft.variable) draft.sort m.sort h.sort m.sort_is in
    let size = size_within (unwrap_or draft.size 2048) (size_of_draft draft.size h.size) in
    subst IsWithin m.is (record {
      some_keys = listed_some (KeyFits event) m.keys keys;
      few_keys = listed_few (KeyFits event) 3 (λ list a fits. leb-false 3 (length list) fits.few) m.keys keys;
      few_values = omega arith;
      some_sort = sort.0;
      few_sort = sort.1;
      least_size = size.0;
      most_size = size.1;
    })

-- a trigger that some text gives is within its limits
pub within : (event : Name) (text : List ℕ) (hist : Hist) → trigger_of event text ≡ Ok hist → IsWithin hist
within event text hist e =
    let read = read_so event text hist e in
    made_within event read.draft hist (draft_fits event (pieces 58 5 (drop 5 (take (head_len text) text))) read.draft read.parts)
    (made_so event (head_len text) (length text - length (behind_head text)) (trigger_tail text) read.draft hist read.ends)

-- and its event's
pub owned : (event : Name) (text : List ℕ) (hist : Hist) → trigger_of event text ≡ Ok hist → hist.event ≡ event
owned event text hist e =
    let read = read_so event text hist e in
    let m = made_so event (head_len text) (length text - length (behind_head text)) (trigger_tail text) read.draft hist read.ends in
    sym (ap (λ (h : Hist). h.event) m.is)
