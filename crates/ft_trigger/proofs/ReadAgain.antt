-- The canonical text of a trigger that is read is read as that trigger.
use Rattle.std.proofs.Common.{◌≡◌, ◌-◌, ℕ, true, not, List, [], ◌∷◌, ◌++◌, map, length, take, drop, Option, Some, None, Result, Ok, refl, sym, ap, ◌∙◌, subst, codes, decimal, append_assoc, ◌==◌}
use Rattle.std.proofs.lemmas.Bool.{not-false}
use Rattle.std.proofs.Math.Seq.{take-append_seam, drop-append_seam}
use Rattle.std.proofs.lemmas.Option.{same_Some}
use Rattle.std.specs.Prelude.{false, option_map, reverse, unwrap_or}
use Rattle.std.specs.List.{prefix_len, list_all, starts_with}
use Rattle.std.specs.Str.{bytes_eq}
use Rattle.ft_fields.specs.declared.event.Name.{Name}
use Rattle.ft_filter.specs.Tree.{Tree}
use Rattle.ft_text.specs.Tokens.{skip}
use Rattle.ft_hist.specs.declared.fault.TriggerFault.{TriggerFault}
use Rattle.ft_hist.specs.declared.fault.TriggerFault.TheVariants.{Syntax, NoField}
use Rattle.ft_hist.specs.declared.item.KeyItem.{KeyItem}
use Rattle.ft_hist.specs.declared.item.Item.{Item}
use Rattle.ft_hist.specs.declared.item.SortItem.{SortItem}
use Rattle.ft_hist.specs.declared.label.Var.{Var}
use Rattle.ft_hist.specs.declared.label.Var.TheVariants as vars
use Rattle.ft_hist.specs.Canonical.{listed, more_items, key_item_text, variable_name, variable_text, onmatch_part, onmatch_text, if_text, canonical}
use Rattle.ft_head.specs.Draft.{Draft, empty_draft, ◌>>=◌, unless, besides_hitcount, parts_from}
use Rattle.ft_hist.specs.Hist.{Hist, with_filter}
use Rattle.ft_trigger.specs.TriggerIs.{head_len, behind_head, trigger_tail, own_name, value_items, sort_by, sorts_of, by_hits, sort_of, hands_other, sort_in, tail_filter, finished, trigger_of}
use Rattle.ft_head.specs.Onmatch.{Action}
use Rattle.ft_text.specs.Items.{pieces, Word}
use Rattle.ft_trigger.proofs.Chains.{Chain}
use Rattle.ft_trigger.proofs.Drafts.{Listed, If, DraftFits, draft_fits}
use Rattle.ft_trigger.proofs.Heads.{Told, behind_values, behind_size, body, whole, told, head_again, body_seen}
use Rattle.ft_trigger.proofs.Inversions.{then_parts, unless_parts, given_parts}
use Rattle.ft_trigger.proofs.Keyed.{KeyFits}
use Rattle.ft_head.proofs.Numerals.{SizeFits, default_fits}
use Rattle.ft_trigger.proofs.ReadSo.{read_so}
use Rattle.ft_text.proofs.Separators.{is_seen}
use Rattle.ft_trigger.proofs.Sorted.{SortFits, directed, sorts_spelled, sorts_directed}
use Rattle.ft_text.proofs.Spellings.{bytes_same, run_front, word_text}
use Rattle.ft_trigger.proofs.Tails.{FilterLaws, TreeFits, trimmed, if_gap, filter_again, filter_fits}
use Rattle.ft_trigger.proofs.Valued.{ValueFits, hits, values_spelled, others_fit, besides_twice}

-- ---- head and tail

-- a text whose head and tail are known is read by them
cut_again : (event : Name) (behind tail : List ℕ) (draft : Draft) (answer : Result Hist TriggerFault) → list_all is_seen behind ≡ true → prefix_len is_seen tail ≡ 0
    → parts_from event empty_draft (pieces 58 5 behind) ≡ Ok draft → ((head place : ℕ) → finished event head place (trimmed tail) draft ≡ answer) → trigger_of event (codes "hist:" ++ behind ++ tail) ≡ answer
unfolding trigger_of
cut_again event behind tail draft answer seen gap parts ends = ap by_len len ∙ ap (λ (h : List ℕ). by_cut h (drop (length head) text)) (take-append_seam head tail) ∙ ap (by_cut head) (drop-append_seam head tail)
    ∙ ap (λ (r : Result Draft TriggerFault). r >>= finished event (length head) (length text - length (skip tail)) (trimmed tail)) parts ∙ ends (length head) (length text - length (skip tail))
  where
    head : List ℕ
    head = codes "hist:" ++ behind

    text : List ℕ
    text = head ++ tail

    by_len : ℕ → Result Hist TriggerFault
    by_len n = unless ((not (starts_with ◌==◌ (take n text) (codes "hist:")), Syntax 0) ∷ [])
        (parts_from event empty_draft (pieces 58 5 (drop 5 (take n text))) >>= finished event n (length text - length (skip (drop n text))) (reverse (skip (reverse (skip (drop n text))))))

    by_cut : List ℕ → List ℕ → Result Hist TriggerFault
    by_cut h t = unless ((not (starts_with ◌==◌ h (codes "hist:")), Syntax 0) ∷ [])
        (parts_from event empty_draft (pieces 58 5 (drop 5 h)) >>= finished event (length head) (length text - length (skip t)) (trimmed t))

    len : head_len text ≡ length head
    len = run_front is_seen head tail seen gap

-- ---- what was read in the end

-- a trigger, from what was read of its head and what that stands for
abbrev pub made : Name → Draft → List KeyItem → List Item → List SortItem → Option Tree → Hist
made event draft keys values sort filter = record { event = event; keys = keys; values = values; sort = sort; variable = draft.variable; size = unwrap_or draft.size 2048; onmatch = option_map (λ action. action.onmatch) draft.onmatch; filter = filter }

-- how a trigger was made of what was read of its head
pub record Made (event : Name) (draft : Draft) (hist : Hist) : Type 0 where
  pub keys : List KeyItem
  pub values : List Item
  pub sort : List SortItem
  pub filter : Option Tree
  pub keys_are : draft.keys ≡ Some keys
  pub values_are : value_items event (own_name draft.variable) (besides_hitcount (unwrap_or draft.values [])) ≡ Ok values
  pub owned : hands_other draft.variable draft.onmatch ≡ false
  pub sort_is : sort_of keys values (own_name draft.variable) draft.sort ≡ Ok sort
  pub filter_fits : If (TreeFits event) filter
  pub is : made event draft keys values sort filter ≡ hist

-- after the sort items
abbrev pub behind_sort : Name → ℕ → List ℕ → Draft → List KeyItem → List Item → List SortItem → Result Hist TriggerFault
behind_sort event place tail draft keys values sort = tail_filter event place tail >>= (λ filter. Ok (made event draft keys values sort filter))

-- after the values
abbrev behind_items : Name → ℕ → List ℕ → Draft → List KeyItem → List Item → Result Hist TriggerFault
behind_items event place tail draft keys values = sort_in draft keys values >>= behind_sort event place tail draft keys values

-- after the keys
abbrev behind_keys : Name → ℕ → List ℕ → Draft → List KeyItem → Result Hist TriggerFault
behind_keys event place tail draft keys = value_items event (own_name draft.variable) (besides_hitcount (unwrap_or draft.values [])) >>= behind_items event place tail draft keys

-- a trigger that was read was made so
pub made_so : (event : Name) (head place : ℕ) (tail : List ℕ) (draft : Draft) (hist : Hist) → finished event head place tail draft ≡ Ok hist → Made event draft hist
unfolding finished
made_so event head place tail draft hist e =
    let keys = given_parts (Syntax head) draft.keys (behind_keys event place tail draft) hist e in
    let values = then_parts (value_items event (own_name draft.variable) (besides_hitcount (unwrap_or draft.values []))) (behind_items event place tail draft keys.0) hist keys.2 in
    let sort = then_parts (sort_in draft keys.0 values.0) (behind_sort event place tail draft keys.0 values.0) hist values.2 in
    let owned = unless_parts (hands_other draft.variable draft.onmatch) NoField [] (sort_of keys.0 values.0 (own_name draft.variable) draft.sort) sort.0 sort.1 in
    let filter = then_parts (tail_filter event place tail) (λ filter. Ok (made event draft keys.0 values.0 sort.0 filter)) hist sort.2 in
    record {
      keys = keys.0;
      values = values.0;
      sort = sort.0;
      filter = filter.0;
      keys_are = keys.1;
      values_are = values.1;
      owned = owned.0;
      sort_is = owned.1;
      filter_fits = filter_fits event place tail filter.0 filter.1;
      is = (let done = filter.2 in cc);
    }

-- ---- what is written is read

-- a trigger that is written
abbrev hist_of : (event : Name) → Told event → List Item → List SortItem → Option Tree → Hist
hist_of event t values sort filter = record { event = event; keys = t.key ∷ t.keys; values = values; sort = sort; variable = t.variable; size = t.size; onmatch = option_map (λ action. action.onmatch) t.onmatch; filter = filter }

-- the parts of a text, grouped to the right
to_right : (k v m s d w f : List ℕ)
    → codes "hist:keys=" ++ k ++ codes ":vals=hitcount" ++ v ++ m ++ codes ":sort=" ++ s ++ codes ":size=" ++ d ++ w ++ f
    ≡ codes "hist:" ++ (codes "keys=" ++ (k ++ 58 ∷ (codes "vals=hitcount" ++ (v ++ (m ++ 58 ∷ (codes "sort=" ++ (s ++ 58 ∷ (codes "size=" ++ (d ++ w))))))))) ++ f
to_right k v m s d w f = simp append_assoc

-- a variable's part and what is after it
variable_spelled : (variable : Option Var) (rest : List ℕ) → variable_text variable ++ 58 ∷ rest ≡ 58 ∷ behind_values variable rest
variable_spelled None rest = refl
variable_spelled (Some (vars.Saves name)) rest = refl
variable_spelled (Some (vars.Reads own source)) rest = refl

-- the variable that is handed on has the trigger's own name
own_handed : (variable : Option Var) (action : Action) → hands_other variable (Some action) ≡ false → action.own ≡ variable_name variable
own_handed None action h = absurd cc
own_handed (Some (vars.Saves name)) action h = absurd cc
own_handed (Some (vars.Reads own source)) action h = bytes_same action.own own (not-false (bytes_eq action.own own) h)

-- what events are made of
onmatch_spelled : (variable : Option Var) (onmatch : Option Action) → hands_other variable onmatch ≡ false → onmatch_text variable (option_map (λ action. action.onmatch) onmatch) ≡ behind_size onmatch
onmatch_spelled variable None h = refl
onmatch_spelled variable (Some action) h = ap (λ (t : List ℕ). codes ":" ++ onmatch_part t action.onmatch) (sym (own_handed variable action h))

-- the parts of a text, grouped as they are read
grouped : (k v s d f : List ℕ) (variable : Option Var) (onmatch : Option Action) → hands_other variable onmatch ≡ false
    → codes "hist:keys=" ++ k ++ codes ":vals=hitcount" ++ v ++ variable_text variable ++ codes ":sort=" ++ s ++ codes ":size=" ++ d ++ onmatch_text variable (option_map (λ action. action.onmatch) onmatch) ++ f
    ≡ codes "hist:" ++ (codes "keys=" ++ (k ++ 58 ∷ (codes "vals=hitcount" ++ (v ++ 58 ∷ behind_values variable (codes "sort=" ++ (s ++ 58 ∷ (codes "size=" ++ (d ++ behind_size onmatch)))))))) ++ f
grouped k v s d f variable onmatch owned =
    ap (λ (w : List ℕ). codes "hist:keys=" ++ k ++ codes ":vals=hitcount" ++ v ++ variable_text variable ++ codes ":sort=" ++ s ++ codes ":size=" ++ d ++ w ++ f) (onmatch_spelled variable onmatch owned)
    ∙ to_right k v (variable_text variable) s d (behind_size onmatch) f
    ∙ ap (λ (t : List ℕ). codes "hist:" ++ (codes "keys=" ++ (k ++ 58 ∷ (codes "vals=hitcount" ++ (v ++ t)))) ++ f) (variable_spelled variable (codes "sort=" ++ (s ++ 58 ∷ (codes "size=" ++ (d ++ behind_size onmatch)))))

-- a canonical text is made of what is read
spelled : (event : Name) (t : Told event) (values : List Item) (sort : List SortItem) (filter : Option Tree) → hands_other t.variable t.onmatch ≡ false
    → value_items event (own_name t.variable) (besides_hitcount t.values) ≡ Ok values → sorts_of (t.key ∷ t.keys) values (own_name t.variable) (t.word ∷ t.words) ≡ Ok sort
    → canonical (hist_of event t values sort filter) ≡ codes "hist:" ++ body event t ++ if_text filter
unfolding canonical
spelled event t values sort filter owned values_are sort_is =
    let vals = values_spelled event t.variable (besides_hitcount t.values) (hits ∷ []) values (others_fit event t.values [] t.values_fit) values_are in
    let sorts = sorts_spelled (hist_of event t values sort filter) (t.word ∷ t.words) sort sort_is in
    rw (vals, sorts) (grouped (listed (map key_item_text (t.key ∷ t.keys))) (more_items (map word_text (besides_hitcount t.values))) (listed (map word_text (map directed (t.word ∷ t.words)))) (decimal t.size) (if_text filter) t.variable t.onmatch owned)

-- a draft whose steps are known is a trigger
finish_step : (event : Name) (head place : ℕ) (tail : List ℕ) (keys : List KeyItem) (words order : List Word) (variable : Option Var) (size : ℕ) (onmatch : Option Action) (values : List Item) (sort : List SortItem) (filter : Option Tree)
    → hands_other variable onmatch ≡ false → value_items event (own_name variable) (besides_hitcount words) ≡ Ok values → sorts_of keys values (own_name variable) order ≡ Ok sort → tail_filter event place tail ≡ Ok filter
    → finished event head place tail (whole keys words variable order size onmatch)
    ≡ Ok (record { event = event; keys = keys; values = values; sort = sort; variable = variable; size = size; onmatch = option_map (λ action. action.onmatch) onmatch; filter = filter })
unfolding finished
finish_step event head place tail keys words order variable size onmatch values sort filter owned values_are sort_is filter_is = rw (values_are, owned, sort_is, filter_is) refl

module _ (laws : FilterLaws) (event : Name) where
  -- a trigger that is written is read
  written_again : (t : Told event) (values : List Item) (sort : List SortItem) (filter : Option Tree) → hands_other t.variable t.onmatch ≡ false
      → value_items event (own_name t.variable) (besides_hitcount t.values) ≡ Ok values → sorts_of (t.key ∷ t.keys) values (own_name t.variable) (t.word ∷ t.words) ≡ Ok sort → If (TreeFits event) filter
      → trigger_of event (canonical (hist_of event t values sort filter)) ≡ Ok (hist_of event t values sort filter)
  written_again t values sort filter owned values_are sort_is fits =
      let once : value_items event (own_name t.variable) (besides_hitcount (hits ∷ besides_hitcount t.values)) ≡ Ok values = ap (value_items event (own_name t.variable)) (besides_twice t.values) ∙ values_are in
      let way : sorts_of (t.key ∷ t.keys) values (own_name t.variable) (map directed (t.word ∷ t.words)) ≡ Ok sort = sorts_directed (t.key ∷ t.keys) values (own_name t.variable) (t.word ∷ t.words) ∙ sort_is in
      ap (trigger_of event) (spelled event t values sort filter owned values_are sort_is)
      ∙ cut_again event (body event t) (if_text filter) (told event t) (Ok (hist_of event t values sort filter)) (body_seen event t) (if_gap filter) (head_again event t 5)
      (λ head place. finish_step event head place (trimmed (if_text filter)) (t.key ∷ t.keys) (hits ∷ besides_hitcount t.values) (map directed (t.word ∷ t.words)) t.variable t.size t.onmatch values sort filter owned once way
      (filter_again laws event place filter fits))

-- ---- what is read can be written

-- values that were read can be read again
pub words_of : (event : Name) (values : Option (List Word)) → If (Listed (ValueFits event)) values → Chain (ValueFits event) [] (unwrap_or values [])
words_of event None h = tt
words_of event (Some words) h = subst (Chain (ValueFits event) []) (sym h.is) h.chain

-- sort items that were read, or the count of hits if none were
record Order (keys : List KeyItem) (values : List Item) (own : Option (List ℕ)) (sort : List SortItem) : Type 0 where
  word : Word
  words : List Word
  chain : Chain SortFits [] (word ∷ words)
  is : sorts_of keys values own (word ∷ words) ≡ Ok sort

-- if none were
hits_order : (keys : List KeyItem) (values : List Item) (own : Option (List ℕ)) (sort : List SortItem) → ◌≡◌ {A = Result (List SortItem) TriggerFault} (Ok by_hits) (Ok sort) → Order keys values own sort
unfolding sort_by
hits_order keys values own sort e = record {
  word = hits;
  words = [];
  chain = (record { few = refl; way = refl; apart = refl; named = record { begins = refl; inside = refl } }, tt);
  is = e;
}

-- sort items that were read can be read again
order_of : (keys : List KeyItem) (values : List Item) (own : Option (List ℕ)) (words : Option (List Word)) (sort : List SortItem) → If (Listed SortFits) words → sort_of keys values own words ≡ Ok sort → Order keys values own sort
order_of keys values own None sort h e = hits_order keys values own sort e
order_of keys values own (Some words) sort h e = record { word = h.first; words = h.more; chain = h.chain; is = ap (sorts_of keys values own) (sym h.is) ∙ e }

-- a size that was read, or the default one if none was, can be read again
pub size_of_draft : (size : Option ℕ) → If SizeFits size → SizeFits (unwrap_or size 2048)
size_of_draft None h = default_fits
size_of_draft (Some size) h = h

-- keys that were read can be read again
pub keys_of : (event : Name) (found : Option (List KeyItem)) (keys : List KeyItem) → If (Listed (KeyFits event)) found → found ≡ Some keys → Listed (KeyFits event) keys
keys_of event None keys h is = absurd cc
keys_of event (Some found) keys h is = subst (Listed (KeyFits event)) (same_Some found keys is) h

-- a trigger that was made of what can be read again
made_again : (laws : FilterLaws) (event : Name) (draft : Draft) (hist : Hist) → DraftFits event draft → Made event draft hist → trigger_of event (canonical hist) ≡ Ok hist
made_again laws event draft hist h m =
    let keys = keys_of event draft.keys m.keys h.keys m.keys_are in
    let order = order_of m.keys m.values (own_name draft.variable) draft.sort m.sort h.sort m.sort_is in
    let t : Told event = record {
      key = keys.first;
      keys = keys.more;
      values = unwrap_or draft.values [];
      word = order.word;
      words = order.words;
      size = unwrap_or draft.size 2048;
      variable = draft.variable;
      keys_fit = keys.chain;
      values_fit = words_of event draft.values h.values;
      words_fit = order.chain;
      size_fits = size_of_draft draft.size h.size;
      variable_fits = h.variable;
      onmatch = draft.onmatch;
      onmatch_fits = h.onmatch;
    } in
    let way = ap (λ (k : List KeyItem). sorts_of k m.values (own_name draft.variable) (order.word ∷ order.words)) (sym keys.is) ∙ order.is in
    let written = written_again laws event t m.values m.sort m.filter m.owned m.values_are way m.filter_fits in
    let same : hist_of event t m.values m.sort m.filter ≡ hist = ap (λ (k : List KeyItem). made event draft k m.values m.sort m.filter) (sym keys.is) ∙ m.is in
    subst (λ (x : Hist). trigger_of event (canonical x) ≡ Ok x) same written

-- how a trigger is made with another filter
refiltered : (event : Name) (draft : Draft) (hist : Hist) (filter : Option Tree) → If (TreeFits event) filter → Made event draft hist → Made event draft (with_filter hist filter)
refiltered event draft hist filter fits m = record {
  keys = m.keys;
  values = m.values;
  sort = m.sort;
  filter = filter;
  keys_are = m.keys_are;
  values_are = m.values_are;
  owned = m.owned;
  sort_is = m.sort_is;
  filter_fits = fits;
  is = ap (λ (h : Hist). with_filter h filter) m.is;
}

-- the canonical text of a trigger that some text gives, gives that trigger again
pub reads_again : (laws : FilterLaws) (event : Name) (text : List ℕ) (hist : Hist) → trigger_of event text ≡ Ok hist → trigger_of event (canonical hist) ≡ Ok hist
reads_again laws event text hist e =
    let read = read_so event text hist e in
    made_again laws event read.draft hist (draft_fits event (pieces 58 5 (drop 5 (take (head_len text) text))) read.draft read.parts)
    (made_so event (head_len text) (length text - length (behind_head text)) (trigger_tail text) read.draft hist read.ends)

-- so does that of a trigger that some text gives, with another filter that some text gives, or with none
pub refiltered_again : (laws : FilterLaws) (event : Name) (text : List ℕ) (hist : Hist) (filter : Option Tree) → If (TreeFits event) filter → trigger_of event text ≡ Ok hist
    → trigger_of event (canonical (with_filter hist filter)) ≡ Ok (with_filter hist filter)
refiltered_again laws event text hist filter fits e =
    let read = read_so event text hist e in
    made_again laws event read.draft (with_filter hist filter) (draft_fits event (pieces 58 5 (drop 5 (take (head_len text) text))) read.draft read.parts)
    (refiltered event read.draft hist filter fits (made_so event (head_len text) (length text - length (behind_head text)) (trigger_tail text) read.draft hist read.ends))
