-- A trigger that some text gives has items that are its event's.
use Rattle.std.proofs.Common.{◌≡◌, ◌||◌, ◌&&◌, ℕ, Bool, true, false, not, List, [], ◌∷◌, ◌++◌, length, drop, take, Option, Some, None, option_map, Result, Ok, refl, sym, ap, subst, arith, codes, find, cond, ◌==◌, ◌-◌}
use Rattle.std.proofs.lemmas.Bool.{and_parts, and_from, lt-ltb}
use Rattle.std.proofs.lemmas.Option.{same_Some, slice_get_within, cond_some}
use Rattle.std.specs.Prelude.{unwrap_or, if◌then◌else◌}
use Rattle.std.specs.List.{list_all, starts_with}
use Rattle.std.specs.Option.{is_some, option_map_or}
use Rattle.std.specs.Str.{bytes_eq}
use Rattle.ft_fields.specs.declared.event.Name.{Name}
use Rattle.ft_fields.specs.declared.event.Name.TheVariants as names
use Rattle.ft_fields.specs.declared.field.Field.{Field}
use Rattle.ft_fields.specs.Fields.{is_field_named, all_fields, is_text, field_text, has_field}
use Rattle.ft_hist.specs.declared.fault.TriggerFault.{TriggerFault}
use Rattle.ft_hist.specs.declared.fault.TriggerFault.TheVariants.{NoField, NotNumeric, BadSort}
use Rattle.ft_hist.specs.declared.item.KeyItem.{KeyItem}
use Rattle.ft_hist.specs.declared.item.Item.{Item}
use Rattle.ft_hist.specs.declared.item.Item.TheVariants as items
use Rattle.ft_hist.specs.declared.item.SortBy.{SortBy}
use Rattle.ft_hist.specs.declared.item.SortBy.TheVariants as sorts
use Rattle.ft_hist.specs.declared.item.SortItem.{SortItem}
use Rattle.ft_hist.specs.declared.label.Var.{Var}
use Rattle.ft_hist.specs.declared.label.Var.TheVariants as vars
use Rattle.ft_head.specs.Draft.{Draft, empty_draft, ◌>>=◌, besides_hitcount, value_fault, parts_from}
use Rattle.ft_text.specs.Items.{is_word, Word, pieces}
use Rattle.ft_hist.specs.Hist.{Hist, hist_with_onmatch}
use Rattle.ft_filter.specs.Tree.{Tree}
use Rattle.ft_hist.specs.declared.onmatch.Onmatch.{Onmatch}
use Rattle.ft_hist.specs.Hit.{same_name}
use Rattle.ft_hist.specs.Sound.{key_suits, value_suits, by_suits, is_reader, onmatch_suits, IsSound}
use Rattle.ft_trigger.specs.TriggerIs.{own_name, value_item, value_items, index_where, names_value, sort_by, is_descending, sorts_of, by_hits, sort_of, hands_other, head_len, behind_head, trigger_tail, tail_filter, finished, trigger_of}
use Rattle.ft_head.specs.Onmatch.{Action}
use Rattle.ft_trigger.proofs.Actions.{ActionFits}
use Rattle.ft_trigger.proofs.Chains.{Chain}
use Rattle.ft_trigger.proofs.Inversions.{then_parts, given_parts}
use Rattle.ft_trigger.proofs.Drafts.{If, DraftFits, draft_fits}
use Rattle.ft_trigger.proofs.ReadAgain.{Made, made_so, keys_of, words_of}
use Rattle.ft_trigger.proofs.Keyed.{KeyFits}
use Rattle.ft_trigger.proofs.ReadSo.{read_so}
use Rattle.ft_trigger.proofs.Sorted.{index_parts}
use Rattle.ft_text.proofs.Spellings.{find_passes, bytes_same}
use Rattle.ft_trigger.proofs.Valued.{ValueFits, hits, others_fit}
use Rattle.ft_trigger.proofs.Variables.{VarFits}

-- ---- keys

-- a key that is read suits its event
key_sound : (event : Name) (keys : List KeyItem) (key : KeyItem) → KeyFits event keys key → key_suits event key ≡ true
key_sound event keys key h =
    let found = find_passes (is_field_named event (field_text key.field)) all_fields key.field h.owned in
    and_from _ _ (and_parts (bytes_eq (field_text key.field) (field_text key.field)) (has_field event key.field) found).1 h.suited.suits

-- so do keys
pub keys_sound : (event : Name) (more keys : List KeyItem) → Chain (KeyFits event) keys more → list_all (key_suits event) more ≡ true
keys_sound event [] keys chain = refl
keys_sound event (key ∷ more) keys chain = and_from _ _ (key_sound event keys key chain.0) (keys_sound event more (keys ++ key ∷ []) chain.1)

-- ---- sort items

-- what is found by a sort item's word is there
by_sound : (keys : List KeyItem) (values : List Item) (own : Option (List ℕ)) (word : Word) (what : SortBy) → sort_by keys values own word ≡ Some what → by_suits (length keys) (length values) what ≡ true
unfolding sort_by
by_sound keys values own word what e = hit (is_word word (codes "hitcount")) e
  where
    value_from : (o : Option ℕ) → index_where (names_value own word) 0 values ≡ o → option_map sorts.Value o ≡ Some what → by_suits (length keys) (length values) what ≡ true
    value_from None is e = absurd cc
    value_from (Some i) is e =
        let found = index_parts (names_value own word) 0 values i is in
        let within = slice_get_within values found.0 found.1 found.3 in
        let same = found.2 in
        subst (λ (w : SortBy). by_suits (length keys) (length values) w ≡ true) (same_Some (sorts.Value i) what e) (lt-ltb i (length values) (omega arith))

    key_from : (o : Option ℕ) → index_where (λ key. is_word word (field_text key.field)) 0 keys ≡ o
        → option_map_or (λ n. Some (sorts.Key n)) o (option_map sorts.Value (index_where (names_value own word) 0 values)) ≡ Some what → by_suits (length keys) (length values) what ≡ true
    key_from None is e = value_from (index_where (names_value own word) 0 values) refl e
    key_from (Some i) is e =
        let found = index_parts (λ key. is_word word (field_text key.field)) 0 keys i is in
        let within = slice_get_within keys found.0 found.1 found.3 in
        let same = found.2 in
        subst (λ (w : SortBy). by_suits (length keys) (length values) w ≡ true) (same_Some (sorts.Key i) what e) (lt-ltb i (length keys) (omega arith))

    hit : (b : Bool) → cond b (Some sorts.Hits) (option_map_or (λ n. Some (sorts.Key n)) (index_where (λ key. is_word word (field_text key.field)) 0 keys) (option_map sorts.Value (index_where (names_value own word) 0 values))) ≡ Some what → by_suits (length keys) (length values) what ≡ true
    hit true e = subst (λ (w : SortBy). by_suits (length keys) (length values) w ≡ true) (same_Some sorts.Hits what e) refl
    hit false e = key_from (index_where (λ key. is_word word (field_text key.field)) 0 keys) refl e

-- sort items that are found are there
pub sorts_sound : (keys : List KeyItem) (values : List Item) (own : Option (List ℕ)) (words : List Word) (sort : List SortItem) → sorts_of keys values own words ≡ Ok sort
    → list_all (λ item. by_suits (length keys) (length values) item.what) sort ≡ true
sorts_sound keys values own [] sort e = let same : [] ≡ sort = cc in subst (λ (l : List SortItem). list_all (λ item. by_suits (length keys) (length values) item.what) l ≡ true) same refl
sorts_sound keys values own (word ∷ words) sort e =
    let what = given_parts BadSort (sort_by keys values own word) (λ what. sorts_of keys values own words >>= (λ sorts. Ok (record { what = what; descending = is_descending word } ∷ sorts))) sort e in
    let rest = then_parts (sorts_of keys values own words) (λ sorts. Ok (record { what = what.0; descending = is_descending word } ∷ sorts)) sort what.2 in
    joined (record { what = what.0; descending = is_descending word }) rest.0 (sorts_sound keys values own words rest.0 rest.1) (by_sound keys values own word what.0 what.1) rest.2
  where
    joined : (item : SortItem) (rest : List SortItem) → list_all (λ item. by_suits (length keys) (length values) item.what) rest ≡ true → by_suits (length keys) (length values) item.what ≡ true
        → ◌≡◌ {A = Result (List SortItem) TriggerFault} (Ok (item ∷ rest)) (Ok sort) → list_all (λ item. by_suits (length keys) (length values) item.what) sort ≡ true
    joined item rest later here e = let same : item ∷ rest ≡ sort = cc in subst (λ (l : List SortItem). list_all (λ item. by_suits (length keys) (length values) item.what) l ≡ true) same (and_from _ _ here later)

-- ---- values

-- no field is called `hitcount`
no_hitcount : (event : Name) (name : List ℕ) (field : Field) → name ≡ codes "hitcount" → find (is_field_named event name) all_fields ≡ Some field → is_text field ≡ false
no_hitcount event name field same e = absurd (let none : find (is_field_named event (codes "hitcount")) all_fields ≡ Some field = subst (λ (n : List ℕ). find (is_field_named event n) all_fields ≡ Some field) same e in cc)

-- what is wrong with a word as a value's field, by its parts
abbrev fault_by : Bool → Bool → Option Field → Option TriggerFault
fault_by dollar hits found = if dollar || hits then None else option_map_or (λ field. if is_text field then Some NotNumeric else None) found (Some NoField)

-- a field with which nothing is wrong holds numbers
numeric : (field : Field) (b : Bool) → is_text field ≡ b → (if b then Some NotNumeric else None) ≡ None → is_text field ≡ false
numeric field true is e = absurd cc
numeric field false is e = is

-- a word without a `$` with which nothing is wrong names a field of numbers
names_number : (event : Name) (word : Word) (field : Field) (b : Bool) → is_word word (codes "hitcount") ≡ b → find (is_field_named event word.name) all_fields ≡ Some field → fault_by false b (Some field) ≡ None → is_text field ≡ false
names_number event word field true is found e = no_hitcount event word.name field (bytes_same word.name (codes "hitcount") (and_parts (not word.dollar) (bytes_eq word.name (codes "hitcount")) is).1) found
names_number event word field false is found e = numeric field (is_text field) refl e

-- what a word names as a value suits the event, if nothing is wrong with the word
value_sound : (event : Name) (variable : Option Var) (word : Word) (value : Item) → value_fault event word ≡ None → value_item event (own_name variable) word ≡ Some value → value_suits event variable value ≡ true
value_sound event variable word value sound e = from word.dollar refl e
  where
    own_from : (v : Option Var) → option_map_or (λ name. if bytes_eq word.name name then Some items.Own else None) (own_name v) None ≡ Some value → value_suits event v value ≡ true
    own_from None e = absurd cc
    own_from (Some (vars.Saves name)) e = subst (λ (i : Item). value_suits event (Some (vars.Saves name)) i ≡ true) (cond_some (bytes_eq word.name name) items.Own value e).1 refl
    own_from (Some (vars.Reads name source)) e = subst (λ (i : Item). value_suits event (Some (vars.Reads name source)) i ≡ true) (cond_some (bytes_eq word.name name) items.Own value e).1 refl

    plain : (field : Field) → find (is_field_named event word.name) all_fields ≡ Some field → is_text field ≡ false → value_suits event variable (items.Num field) ≡ true
    plain field is number = and_from _ _ (and_parts (bytes_eq (field_text field) word.name) (has_field event field) (find_passes (is_field_named event word.name) all_fields field is)).1 (ap not number)

    field_from : word.dollar ≡ false → (o : Option Field) → find (is_field_named event word.name) all_fields ≡ o → option_map items.Num o ≡ Some value → value_suits event variable value ≡ true
    field_from bare None is e = absurd cc
    field_from bare (Some field) is e =
        let here : fault_by false (is_word word (codes "hitcount")) (find (is_field_named event word.name) all_fields) ≡ None = subst (λ (d : Bool). fault_by d (is_word word (codes "hitcount")) (find (is_field_named event word.name) all_fields) ≡ None) bare sound in
        let there : fault_by false (is_word word (codes "hitcount")) (Some field) ≡ None = subst (λ (o : Option Field). fault_by false (is_word word (codes "hitcount")) o ≡ None) is here in
        subst (λ (i : Item). value_suits event variable i ≡ true) (same_Some (items.Num field) value e) (plain field is (names_number event word field (is_word word (codes "hitcount")) refl is there))

    from : (b : Bool) → word.dollar ≡ b → cond b (option_map_or (λ name. if bytes_eq word.name name then Some items.Own else None) (own_name variable) None) (option_map items.Num (find (is_field_named event word.name) all_fields)) ≡ Some value → value_suits event variable value ≡ true
    from true is e = own_from variable e
    from false is e = field_from is (find (is_field_named event word.name) all_fields) refl e

-- so do values
pub values_sound : (event : Name) (variable : Option Var) (words list : List Word) (values : List Item) → Chain (ValueFits event) list words → value_items event (own_name variable) words ≡ Ok values → list_all (value_suits event variable) values ≡ true
values_sound event variable [] list values chain e = let same : [] ≡ values = cc in subst (λ (l : List Item). list_all (value_suits event variable) l ≡ true) same refl
values_sound event variable (word ∷ words) list values chain e =
    let value = given_parts NoField (value_item event (own_name variable) word) (λ value. value_items event (own_name variable) words >>= (λ values. Ok (value ∷ values))) values e in
    let rest = then_parts (value_items event (own_name variable) words) (λ values. Ok (value.0 ∷ values)) values value.2 in
    joined value.0 rest.0 (values_sound event variable words (list ++ word ∷ []) rest.0 chain.1 rest.1) (value_sound event variable word value.0 chain.0.sound value.1) rest.2
  where
    joined : (value : Item) (rest : List Item) → list_all (value_suits event variable) rest ≡ true → value_suits event variable value ≡ true → ◌≡◌ {A = Result (List Item) TriggerFault} (Ok (value ∷ rest)) (Ok values) → list_all (value_suits event variable) values ≡ true
    joined value rest later here e = let same : value ∷ rest ≡ values = cc in subst (λ (l : List Item). list_all (value_suits event variable) l ≡ true) same (and_from _ _ here later)

-- ---- triggers

-- sort items of what was read, or the default one if none was
order_sound : (keys : List KeyItem) (values : List Item) (own : Option (List ℕ)) (words : Option (List Word)) (sort : List SortItem) → sort_of keys values own words ≡ Ok sort → list_all (λ item. by_suits (length keys) (length values) item.what) sort ≡ true
order_sound keys values own None sort e = let same : by_hits ≡ sort = cc in subst (λ (l : List SortItem). list_all (λ item. by_suits (length keys) (length values) item.what) l ≡ true) same refl
order_sound keys values own (Some words) sort e = sorts_sound keys values own words sort e

-- a variable that is handed on reads a stamp
handed_measured : (variable : Option Var) (action : Action) → hands_other variable (Some action) ≡ false → is_reader variable ≡ true
handed_measured None action h = absurd cc
handed_measured (Some (vars.Saves name)) action h = absurd cc
handed_measured (Some (vars.Reads own source)) action h = refl

-- what events are made of suits the trigger
onmatch_sound : (event : Name) (variable : Option Var) (onmatch : Option Action) → If (ActionFits event) onmatch → hands_other variable onmatch ≡ false
    → option_map_or (onmatch_suits event variable) (option_map (λ action. action.onmatch) onmatch) true ≡ true
onmatch_sound event variable None fits owned = refl
onmatch_sound event variable (Some action) fits owned = and_from _ _ (handed_measured variable action owned) (and_from _ _ fits.traced (and_from _ _ fits.pid fits.prio))

-- on the event that triggers make there is neither
last_sound : (event : Name) (variable : Option Var) (onmatch : Option Action) → If (VarFits event) variable → If (ActionFits event) onmatch
    → (not (same_name event names.WakeupLatency) || (not (is_some variable) && not (is_some (option_map (λ action. action.onmatch) onmatch)))) ≡ true
last_sound event None None var made = from (same_name event names.WakeupLatency)
  where
    from : (b : Bool) → (not b || true) ≡ true
    from true = refl
    from false = refl
last_sound event (Some variable) onmatch var made = ap (λ b. not b || (false && not (is_some (option_map (λ action. action.onmatch) onmatch)))) var.apart_made
last_sound event None (Some action) var made = ap (λ b. not b || (true && false)) made.apart_made

-- a trigger that makes no events is sound if it is with them
pub bare_sound : (hist : Hist) → IsSound hist → IsSound (hist_with_onmatch hist None)
bare_sound hist h = record { keys = h.keys; values = h.values; sort = h.sort; onmatch = refl; last = from (same_name hist.event names.WakeupLatency) (is_some hist.variable) (is_some hist.onmatch) h.last }
  where
    from : (b x y : Bool) → (not b || (not x && not y)) ≡ true → (not b || (not x && true)) ≡ true
    from false x y e = refl
    from true false y e = refl
    from true true y e = absurd cc

-- a trigger that was made of what can be read again
made_sound : (event : Name) (draft : Draft) (hist : Hist) → DraftFits event draft → Made event draft hist → IsSound hist
made_sound event draft hist h m =
    let keys = keys_of event draft.keys m.keys h.keys m.keys_are in
    subst IsSound m.is (record {
      keys = subst (λ (l : List KeyItem). list_all (key_suits event) l ≡ true) (sym keys.is) (keys_sound event (keys.first ∷ keys.more) [] keys.chain);
      values = values_sound event draft.variable (besides_hitcount (unwrap_or draft.values [])) (hits ∷ []) m.values (others_fit event (unwrap_or draft.values []) [] (words_of event draft.values h.values)) m.values_are;
      sort = order_sound m.keys m.values (own_name draft.variable) draft.sort m.sort m.sort_is;
      onmatch = onmatch_sound event draft.variable draft.onmatch h.onmatch m.owned;
      last = last_sound event draft.variable draft.onmatch h.variable h.onmatch;
    })

-- a trigger that some text gives is sound
pub sound : (event : Name) (text : List ℕ) (hist : Hist) → trigger_of event text ≡ Ok hist → IsSound hist
sound event text hist e =
    let read = read_so event text hist e in
    made_sound event read.draft hist (draft_fits event (pieces 58 5 (drop 5 (take (head_len text) text))) read.draft read.parts)
    (made_so event (head_len text) (length text - length (behind_head text)) (trigger_tail text) read.draft hist read.ends)

-- a draft whose steps are known is a trigger
pub finished_is : (event : Name) (head place : ℕ) (tail : List ℕ) (draft : Draft) (keys : List KeyItem) (values : List Item) (sort : List SortItem) (size : ℕ) (onmatch : Option Onmatch) (filter : Option Tree)
    → hands_other draft.variable draft.onmatch ≡ false → draft.keys ≡ Some keys → value_items event (own_name draft.variable) (besides_hitcount (unwrap_or draft.values [])) ≡ Ok values → sort_of keys values (own_name draft.variable) draft.sort ≡ Ok sort → tail_filter event place tail ≡ Ok filter → unwrap_or draft.size 2048 ≡ size → option_map (λ action. action.onmatch) draft.onmatch ≡ onmatch
    → finished event head place tail draft ≡ Ok (record { event = event; keys = keys; values = values; sort = sort; variable = draft.variable; size = size; onmatch = onmatch; filter = filter })
unfolding finished
finished_is event head place tail draft keys values sort size onmatch filter o k v s f z m = rw (k, v, o, s, f, z, m) refl

-- what a text's parts and tail are made of is sound
pub finished_sound : (event : Name) (text front behind tail : List ℕ) (place : ℕ) (draft : Draft) (hist : Hist) → front ≡ take (head_len text) text → bytes_eq (take 5 front) (codes "hist:") ≡ true → behind ≡ drop 5 front
    → parts_from event empty_draft (pieces 58 5 behind) ≡ Ok draft → length front ≡ head_len text → place ≡ length text - length (behind_head text) → tail ≡ trigger_tail text → finished event (length front) place tail draft ≡ Ok hist → IsSound hist
unfolding trigger_of
finished_sound event text front behind tail place draft hist cut begins rest parts len from end e =
    let whole : starts_with ◌==◌ front (codes "hist:") ≡ true = subst (λ (t : List ℕ). bytes_eq (codes "hist:") t ≡ true) (sym (bytes_same (take 5 front) (codes "hist:") begins)) refl in
    let seen : starts_with ◌==◌ (take (head_len text) text) (codes "hist:") ≡ true = subst (λ (f : List ℕ). starts_with ◌==◌ f (codes "hist:") ≡ true) cut whole in
    let read : parts_from event empty_draft (pieces 58 5 (drop 5 (take (head_len text) text))) ≡ Ok draft = subst (λ (f : List ℕ). parts_from event empty_draft (pieces 58 5 (drop 5 f)) ≡ Ok draft) cut (subst (λ (b : List ℕ). parts_from event empty_draft (pieces 58 5 b) ≡ Ok draft) rest parts) in
    sound event text hist (rw (seen, read)
    (subst (λ (t : List ℕ). finished event (head_len text) (length text - length (behind_head text)) t draft ≡ Ok hist) end
    (subst (λ (p : ℕ). finished event (head_len text) p tail draft ≡ Ok hist) from
    (subst (λ (h : ℕ). finished event h place tail draft ≡ Ok hist) len e))))
