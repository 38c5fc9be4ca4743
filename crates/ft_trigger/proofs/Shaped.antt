-- What a text is read as, from what its head and its tail are.
use Rattle.std.proofs.Common.{◌≡◌, ◌≢◌, ◌+◌, ◌-◌, ◌<◌, ◌&&◌, inl, inr, ℕ, Bool, true, false, not, List, [], ◌∷◌, ◌++◌, length, take, drop, Option, Some, None, Result, Ok, Err, refl, sym, ap, ◌∙◌, subst, codes, append-nil, arith, one-add, ◌==◌}
use Rattle.std.proofs.Math.Dec.{eqb-suc-zero}
use Rattle.std.proofs.lemmas.Bool.{and_parts, not-false, cond-true}
use Rattle.std.proofs.lemmas.List.{take-append-drop}
use Rattle.std.proofs.lemmas.Option.{cond_some}
use Rattle.std.specs.Prelude.{◌↔◌, slice_index, unwrap_or, if◌then◌else◌}
use Rattle.std.specs.List.{prefix_len, list_all, list_any, starts_with}
use Rattle.ft_fields.specs.declared.event.Name.{Name}
use Rattle.ft_filter.specs.declared.fault.FilterFault.{FilterFault}
use Rattle.ft_filter.specs.Answers.{filter_of}
use Rattle.ft_filter.specs.FilterIs.{FilterIs}
use Rattle.ft_filter.specs.Tree.{Tree}
use Rattle.ft_text.specs.Tokens.{is_gap, skip}
use Rattle.ft_hist.specs.declared.item.KeyItem.{KeyItem}
use Rattle.ft_hist.specs.declared.item.Item.{Item}
use Rattle.ft_hist.specs.declared.item.SortItem.{SortItem}
use Rattle.ft_hist.specs.Hist.{Hist}
use Rattle.ft_hist.specs.declared.fault.TriggerFault.{TriggerFault}
use Rattle.ft_hist.specs.declared.fault.TriggerFault.TheVariants.{Syntax}
use Rattle.ft_head.specs.Draft.{Draft, empty_draft, ◌>>=◌, unless, given_or, besides_hitcount, parts_from}
use Rattle.ft_trigger.specs.Shape.{Opens, IsCut, IsIf, TailIs, nothing, filtered, unread, other, with_tail, IsShaped}
use Rattle.ft_trigger.specs.TriggerIs.{head_len, behind_head, trigger_tail, behind_if, filter_or_fault, tail_filter, own_name, value_items, sort_in, finished, trigger_of}
use Rattle.ft_text.specs.Items.{pieces}
use Rattle.ft_trigger.proofs.Halves.{Known, known, cut_of, skip_opens, skip_some, skip_blank}
use Rattle.ft_trigger.proofs.Inversions.{then_parts, unless_parts}
use Rattle.ft_trigger.proofs.ReadAgain.{made}
use Rattle.ft_text.proofs.Spellings.{front_same, run_passes}
use Rattle.ft_trigger.proofs.Tails.{OneFilter, filter_none}

-- ---- a head, and then a filter

-- a draft of a head of so many bytes, without a filter
abbrev pub make_of : Name → ℕ → Draft → Result Hist TriggerFault
make_of event head draft =
    given_or (Syntax head) draft.keys (λ keys.
    value_items event (own_name draft.variable) (besides_hitcount (unwrap_or draft.values [])) >>= (λ values.
    sort_in draft keys values >>= (λ sort.
    Ok (made event draft keys values sort None))))

-- a trigger with a filter, or the filter's fault
abbrev pub with_made : Result (Option Tree) TriggerFault → Hist → Result Hist TriggerFault
with_made filter hist = filter >>= (λ filter. Ok (record hist { filter = filter }))

module _ (event : Name) (draft : Draft) (filter : Result (Option Tree) TriggerFault) where
  -- after the sort items
  made_sort : (keys : List KeyItem) (values : List Item) (sort : Result (List SortItem) TriggerFault)
      → (sort >>= (λ sort. filter >>= (λ filter. Ok (made event draft keys values sort filter)))) ≡ ((sort >>= (λ sort. Ok (made event draft keys values sort None))) >>= with_made filter)
  made_sort keys values (Ok sort) = refl
  made_sort keys values (Err fault) = refl

  -- after the values
  made_values : (keys : List KeyItem) (values : Result (List Item) TriggerFault)
      → (values >>= (λ values. sort_in draft keys values >>= (λ sort. filter >>= (λ filter. Ok (made event draft keys values sort filter)))))
      ≡ ((values >>= (λ values. sort_in draft keys values >>= (λ sort. Ok (made event draft keys values sort None)))) >>= with_made filter)
  made_values keys (Ok values) = made_sort keys values (sort_in draft keys values)
  made_values keys (Err fault) = refl

  -- after the keys
  made_keys : (head : ℕ) (keys : Option (List KeyItem))
      → given_or (Syntax head) keys (λ keys. value_items event (own_name draft.variable) (besides_hitcount (unwrap_or draft.values [])) >>= (λ values. sort_in draft keys values >>= (λ sort. filter >>= (λ filter. Ok (made event draft keys values sort filter)))))
      ≡ (given_or (Syntax head) keys (λ keys. value_items event (own_name draft.variable) (besides_hitcount (unwrap_or draft.values [])) >>= (λ values. sort_in draft keys values >>= (λ sort. Ok (made event draft keys values sort None)))) >>= with_made filter)
  made_keys head (Some keys) = made_values keys (value_items event (own_name draft.variable) (besides_hitcount (unwrap_or draft.values [])))
  made_keys head None = refl

-- a draft and a tail are the draft, and then the tail
finished_by : (event : Name) (head place : ℕ) (tail : List ℕ) (draft : Draft) → finished event head place tail draft ≡ (make_of event head draft >>= with_made (tail_filter event place tail))
unfolding finished
finished_by event head place tail draft = made_keys event draft (tail_filter event place tail) head draft.keys

-- a head without a filter: it begins with `hist:`, and then come parts
abbrev pub bare_of : Name → List ℕ → Result Hist TriggerFault
bare_of event head = unless ((not (starts_with ◌==◌ head (codes "hist:")), Syntax 0) ∷ []) (parts_from event empty_draft (pieces 58 5 (drop 5 head)) >>= make_of event (length head))

-- so are parts and a tail
parts_by : (event : Name) (head place : ℕ) (tail : List ℕ) (draft : Result Draft TriggerFault) → (draft >>= finished event head place tail) ≡ ((draft >>= make_of event head) >>= with_made (tail_filter event place tail))
parts_by event head place tail (Ok draft) = finished_by event head place tail draft
parts_by event head place tail (Err fault) = refl

-- so are a text's head and tail
text_by : (event : Name) (text head gap tail : List ℕ) (filter : Result (Option Tree) TriggerFault) → Known text head gap tail → tail_filter event (length text - length (behind_head text)) tail ≡ filter
    → trigger_of event text ≡ (bare_of event head >>= with_made filter)
unfolding trigger_of
text_by event text head gap tail filter h is =
    ap (λ (f : List ℕ). by_parts (head_len text) f (trigger_tail text)) h.front ∙ ap (λ (n : ℕ). by_parts n head (trigger_tail text)) h.len ∙ ap (by_parts (length head) head) h.tail_is
    ∙ from (not (starts_with ◌==◌ head (codes "hist:"))) (parts_from event empty_draft (pieces 58 5 (drop 5 head)))
  where
    by_parts : ℕ → List ℕ → List ℕ → Result Hist TriggerFault
    by_parts n front back = unless ((not (starts_with ◌==◌ front (codes "hist:")), Syntax 0) ∷ []) (parts_from event empty_draft (pieces 58 5 (drop 5 front)) >>= finished event n (length text - length (behind_head text)) back)

    from : (b : Bool) (draft : Result Draft TriggerFault)
        → (if b then Err (Syntax 0) else (draft >>= finished event (length head) (length text - length (behind_head text)) tail)) ≡ ((if b then Err (Syntax 0) else (draft >>= make_of event (length head))) >>= with_made filter)
    from true draft = refl
    from false draft = parts_by event (length head) (length text - length (behind_head text)) tail draft ∙ ap (λ (f : Result (Option Tree) TriggerFault). (draft >>= make_of event (length head)) >>= with_made f) is

-- the place of a tail counts only if there is a tail
filter_placed : (event : Name) (text head gap tail : List ℕ) → Known text head gap tail → tail_filter event (length text - length (behind_head text)) tail ≡ tail_filter event (length head + length gap) tail
filter_placed event text head gap tail h = elim h.place [
  | inl none ↦ ap (tail_filter event (length text - length (behind_head text))) none ∙ filter_none event _ ∙ sym (filter_none event _) ∙ ap (tail_filter event (length head + length gap)) (sym none)
  | inr place ↦ ap (λ (p : ℕ). tail_filter event p tail) place
]

-- a text that is cut
pub cut_by : (event : Name) (text head gap tail end : List ℕ) (filter : Result (Option Tree) TriggerFault) → IsCut text head gap tail end → tail_filter event (length head + length gap) tail ≡ filter
    → trigger_of event text ≡ (bare_of event head >>= with_made filter)
cut_by event text head gap tail end filter cut is =
    let h = known text head gap tail end cut in
    text_by event text head gap tail filter h (filter_placed event text head gap tail h ∙ is)

-- nothing has a last byte
nil_push : (front : List ℕ) (byte : ℕ) → [] ≡ front ++ byte ∷ [] → ⊥
nil_push [] byte e = cc
nil_push (first ∷ front) byte e = cc

-- a head alone is cut so
pub alone_cut : (head : List ℕ) → list_any is_gap head ≡ false → IsCut head head [] [] []
alone_cut head bare = record {
  is = sym (append-nil (head ++ [] ++ []) ∙ append-nil (head ++ []) ∙ append-nil head);
  head_bare = bare;
  gap_blank = refl;
  end_blank = refl;
  tail_opens = λ byte rest e. absurd cc;
  tail_closes = λ front byte e. absurd (nil_push front byte e);
  tail_apart = λ e. refl;
}

-- it has no filter
head_by : (event : Name) (text head gap tail end : List ℕ) → IsCut text head gap tail end → trigger_of event head ≡ (bare_of event head >>= with_made (Ok None))
head_by event text head gap tail end cut = cut_by event head head [] [] [] (Ok None) (alone_cut head cut.head_bare) (filter_none event (length head + 0))

-- ---- heads and tails

-- a head's fault
made_fault : (bare : Result Hist TriggerFault) (filter : Result (Option Tree) TriggerFault) (fault : TriggerFault) → (bare >>= with_made (Ok None)) ≡ Err fault → (bare >>= with_made filter) ≡ Err fault
made_fault (Ok first) filter fault e = absurd cc
made_fault (Err found) filter fault e = let same : found ≡ fault = cc in ap Err same

-- is the text's
pub head_first : (event : Name) (text head gap tail end : List ℕ) (fault : TriggerFault) → IsCut text head gap tail end → trigger_of event head ≡ Err fault → trigger_of event text ≡ Err fault
head_first event text head gap tail end fault cut e =
    let filter = tail_filter event (length head + length gap) tail in
    cut_by event text head gap tail end filter cut refl ∙ made_fault (bare_of event head) filter fault (sym (head_by event text head gap tail end cut) ∙ e)

-- a head's trigger, with what the tail says
made_tail : (bare : Result Hist TriggerFault) (filter : Result (Option Tree) TriggerFault) (hist : Hist) → (bare >>= with_made (Ok None)) ≡ Ok hist → (bare >>= with_made filter) ≡ with_tail hist filter
made_tail (Err fault) filter hist e = absurd cc
made_tail (Ok first) (Err fault) hist e = refl
made_tail (Ok first) (Ok filter) hist e =
    let same : record first { filter = None } ≡ hist = cc in
    ap (λ (h : Hist). Ok (record h { filter = filter })) same

-- is the text's
tail_next : (event : Name) (text head gap tail end : List ℕ) (filter : Result (Option Tree) TriggerFault) (hist : Hist) → IsCut text head gap tail end → trigger_of event head ≡ Ok hist
    → tail_filter event (length head + length gap) tail ≡ filter → trigger_of event text ≡ with_tail hist filter
tail_next event text head gap tail end filter hist cut e is =
    cut_by event text head gap tail end filter cut is ∙ made_tail (bare_of event head) filter hist (sym (head_by event text head gap tail end cut) ∙ e)

-- ---- tails

-- what is after `if`, if the tail is that
if_behind : (tail text : List ℕ) → IsIf tail text → behind_if tail ≡ Some text
if_behind tail text h = ap behind_if h.is ∙ from h.gap h.gap_some h.gap_blank
  where
    from : (gap : List ℕ) → 0 < length gap → list_all is_gap gap ≡ true → behind_if (codes "if" ++ gap ++ text) ≡ Some text
    from [] some blank = absurd (omega arith)
    from (byte ∷ gap) some blank =
        let here = (and_parts (is_gap byte) (list_all is_gap gap) blank).0 in
        cond-true (is_gap byte) (Some (skip (byte ∷ (gap ++ text)))) None here ∙ ap Some (skip_blank (byte ∷ gap) text blank ∙ skip_opens text h.text_opens)

-- a tail that has something after `if` is that
behind_is : (tail text : List ℕ) → behind_if tail ≡ Some text → IsIf tail text
behind_is tail text e =
    let found = cond_some (starts_with ◌==◌ tail (codes "if") && is_gap (slice_index tail 2)) (skip (drop 2 tail)) text e in
    let both = and_parts (starts_with ◌==◌ tail (codes "if")) (is_gap (slice_index tail 2)) found.0 in
    let rest = drop 2 tail in
    let begins : tail ≡ 105 ∷ 102 ∷ rest = front_same tail (codes "if") both.0 in
    let first : is_gap (slice_index rest 0) ≡ true = subst (λ (t : List ℕ). is_gap (slice_index t 2) ≡ true) begins both.1 in
    let cut : rest ≡ take (prefix_len is_gap rest) rest ++ text = sym (take-append-drop (prefix_len is_gap rest) rest) ∙ ap (λ (t : List ℕ). take (prefix_len is_gap rest) rest ++ t) found.1 in
    record {
      gap = take (prefix_len is_gap rest) rest;
      is = begins ∙ ap (λ (t : List ℕ). 105 ∷ 102 ∷ t) cut;
      gap_some = some rest first;
      gap_blank = run_passes is_gap rest;
      text_opens = subst Opens found.1 (skip_some rest);
    }
  where
    some : (rest : List ℕ) → is_gap (slice_index rest 0) ≡ true → 0 < length (take (prefix_len is_gap rest) rest)
    some [] first = absurd cc
    some (byte ∷ rest) first = rw (first, one-add) (omega arith)

-- a filter's answer, after `if`
behind_read : (event : Name) (place : ℕ) (tail text : List ℕ) (answer : Result Tree FilterFault) → IsIf tail text → filter_of event text ≡ answer → tail_filter event place tail ≡ filter_or_fault answer
unfolding tail_filter
behind_read event place tail text answer h is =
    let some : (length tail == 0) ≡ false = ap (λ (t : List ℕ). length t == 0) h.is ∙ eqb-suc-zero (length (102 ∷ (h.gap ++ text))) in
    rw (some, if_behind tail text h, is) refl

-- anything else
behind_none : (event : Name) (place : ℕ) (tail : List ℕ) → (length tail == 0) ≡ false → behind_if tail ≡ None → tail_filter event place tail ≡ Err (Syntax place)
unfolding tail_filter
behind_none event place tail some none = rw (some, none) refl

-- a tail has a byte, or is empty
tail_some : (tail : List ℕ) → tail ≢ [] → (length tail == 0) ≡ false
tail_some [] some = absurd (some refl)
tail_some (byte ∷ tail) some = eqb-suc-zero (length tail)

module _ (laws : OneFilter) where
  -- what a tail says is what is read of it
  tail_read : (event : Name) (place : ℕ) (tail : List ℕ) (answer : Result (Option Tree) TriggerFault) → TailIs event place tail answer → tail_filter event place tail ≡ answer
  tail_read event place tail answer nothing = filter_none event place
  tail_read event place tail answer (filtered tail' text tree h reads) = behind_read event place tail' text (Ok tree) h (sym (laws.one event text (Ok tree) reads))
  tail_read event place tail answer (unread tail' text fault h reads) = behind_read event place tail' text (Err fault) h (sym (laws.one event text (Err fault) reads))
  tail_read event place tail answer (other tail' some apart) = behind_none event place tail' (tail_some tail' some) (none (behind_if tail') refl)
    where
      none : (o : Option (List ℕ)) → behind_if tail' ≡ o → behind_if tail' ≡ None
      none None is = is
      none (Some text) is = absurd (apart text (behind_is tail' text is))

  -- what is read of a tail, it says
  read_tail : (event : Name) (place : ℕ) (tail : List ℕ) → TailIs event place tail (tail_filter event place tail)
  read_tail event place [] = subst (TailIs event place []) (sym (filter_none event place)) nothing
  read_tail event place (byte ∷ tail) = behind (behind_if (byte ∷ tail)) refl
    where
      answered : (text : List ℕ) → IsIf (byte ∷ tail) text → (answer : Result Tree FilterFault) → filter_of event text ≡ answer → TailIs event place (byte ∷ tail) (filter_or_fault answer)
      answered text h (Ok tree) is = filtered (byte ∷ tail) text tree h (subst (FilterIs event text) is (laws.some event text))
      answered text h (Err fault) is = unread (byte ∷ tail) text fault h (subst (FilterIs event text) is (laws.some event text))

      behind : (o : Option (List ℕ)) → behind_if (byte ∷ tail) ≡ o → TailIs event place (byte ∷ tail) (tail_filter event place (byte ∷ tail))
      behind None is =
          subst (TailIs event place (byte ∷ tail)) (sym (behind_none event place (byte ∷ tail) (eqb-suc-zero (length tail)) is))
          (other (byte ∷ tail) (λ e. cc) (λ text h. let some : Some text ≡ None = sym (if_behind (byte ∷ tail) text h) ∙ is in cc))
      behind (Some text) is =
          let h = behind_is (byte ∷ tail) text is in
          subst (TailIs event place (byte ∷ tail)) (sym (behind_read event place (byte ∷ tail) text (filter_of event text) h refl)) (answered text h (filter_of event text) refl)

  -- so a tail says exactly one thing
  pub one_tail : (event : Name) (place : ℕ) (tail : List ℕ) (answer : Result (Option Tree) TriggerFault) → TailIs event place tail answer ↔ (tail_filter event place tail ≡ answer)
  one_tail event place tail answer = (tail_read event place tail answer, λ is. subst (TailIs event place tail) is (read_tail event place tail))

  -- after a head without a fault the tail decides
  pub tail_then : (event : Name) (text head gap tail end : List ℕ) (hist : Hist) (answer : Result (Option Tree) TriggerFault) → IsCut text head gap tail end → trigger_of event head ≡ Ok hist
      → TailIs event (length head + length gap) tail answer → trigger_of event text ≡ with_tail hist answer
  tail_then event text head gap tail end hist answer cut e h = tail_next event text head gap tail end answer hist cut e (tail_read event (length head + length gap) tail answer h)

  -- what stands after a filter without a fault
  tail_parts : (filter : Result (Option Tree) TriggerFault) (first hist : Hist) → with_made filter first ≡ Ok hist → (filter ≡ Ok hist.filter) × (record first { filter = None } ≡ record hist { filter = None })
  tail_parts (Err fault) first hist e = absurd cc
  tail_parts (Ok filter) first hist e =
      let same : record first { filter = filter } ≡ hist = cc in
      (ap (λ (h : Hist). Ok h.filter) same, ap (λ (h : Hist). record h { filter = None }) same)

  -- a head without a filter
  bare_made : (bare : Result Hist TriggerFault) (first hist : Hist) → bare ≡ Ok first → record first { filter = None } ≡ record hist { filter = None } → (bare >>= with_made (Ok None)) ≡ Ok (record hist { filter = None })
  bare_made bare first hist is same = ap (λ (m : Result Hist TriggerFault). m >>= with_made (Ok None)) is ∙ ap Ok same

  -- a trigger's text has its shape
  cut_shaped : (event : Name) (text head gap tail end : List ℕ) (hist : Hist) → IsCut text head gap tail end → trigger_of event text ≡ Ok hist → IsShaped event text hist
  cut_shaped event text head gap tail end hist cut e =
      let filter = tail_filter event (length head + length gap) tail in
      let whole = sym (cut_by event text head gap tail end filter cut refl) ∙ e in
      let first = then_parts (bare_of event head) (with_made filter) hist whole in
      let begins = unless_parts (not (starts_with ◌==◌ head (codes "hist:"))) (Syntax 0) [] (parts_from event empty_draft (pieces 58 5 (drop 5 head)) >>= make_of event (length head)) first.0 first.1 in
      let is : head ≡ codes "hist:" ++ drop 5 head = front_same head (codes "hist:") (not-false (starts_with ◌==◌ head (codes "hist:")) begins.0) in
      let parts = tail_parts filter first.0 hist first.2 in
      let alone : trigger_of event head ≡ Ok (record hist { filter = None }) = head_by event text head gap tail end cut ∙ bare_made (bare_of event head) first.0 hist first.1 parts.1 in
      let said : TailIs event (length head + length gap) tail (Ok hist.filter) = subst (TailIs event (length head + length gap) tail) parts.0 (read_tail event (length head + length gap) tail) in
      record {
        parts = drop 5 head;
        gap = gap;
        tail = tail;
        end = end;
        cut = subst (λ (h : List ℕ). IsCut text h gap tail end) is cut;
        head = subst (λ (h : List ℕ). trigger_of event h ≡ Ok (record hist { filter = None })) is alone;
        filter = subst (λ (h : List ℕ). TailIs event (length h + length gap) tail (Ok hist.filter)) is said;
      }

  -- so has each that is read
  pub shaped : (event : Name) (text : List ℕ) (hist : Hist) → trigger_of event text ≡ Ok hist → IsShaped event text hist
  shaped event text hist e = let c = cut_of text in cut_shaped event text c.head c.gap c.tail c.end hist c.cut e
