-- Faults of parts stay, whatever is after the parts.
use Rattle.std.proofs.Common.{◌≡◌, ◌+◌, ◌≤◌, ℕ, Bool, true, false, List, [], ◌∷◌, ◌++◌, length, Option, Some, None, Result, Ok, Err, refl, sym, ap, ◌∙◌, codes, cond, arith, append_assoc, le-leb, ◌==◌}
use Rattle.std.proofs.lemmas.Bool.{or_from}
use Rattle.std.proofs.lemmas.List.Folds.{list_any-append}
use Rattle.std.specs.Prelude.{◌↔◌, unwrap_or}
use Rattle.std.specs.List.{list_any}
use Rattle.ft_fields.specs.declared.event.Name.{Name}
use Rattle.ft_filter.specs.declared.fault.FilterFault.{FilterFault}
use Rattle.ft_filter.specs.Answers.{filter_of}
use Rattle.ft_filter.specs.Tree.{Tree}
use Rattle.ft_text.specs.Tokens.{is_gap, name_at}
use Rattle.ft_hist.specs.declared.item.KeyItem.{KeyItem}
use Rattle.ft_hist.specs.declared.item.Item.{Item}
use Rattle.ft_hist.specs.declared.item.SortBy.{SortBy}
use Rattle.ft_hist.specs.declared.item.SortItem.{SortItem}
use Rattle.ft_hist.specs.Hist.{Hist}
use Rattle.ft_hist.specs.declared.fault.TriggerFault.{TriggerFault}
use Rattle.ft_hist.specs.declared.fault.TriggerFault.TheVariants.{Syntax, NoField, BadSort, BadFilter, LeftOut}
use Rattle.ft_head.specs.Draft.{Draft, empty_draft, ◌>>=◌, unless, given_or, besides_hitcount, with_part, with_variable, parts_from}
use Rattle.ft_trigger.specs.PartFaults.{PartsFail, is_late}
use Rattle.ft_trigger.specs.Shape.{IsCut, Cut}
use Rattle.ft_trigger.specs.TriggerIs.{behind_if, filter_or_fault, tail_filter, own_name, value_item, value_items, sort_by, sorts_of, sort_of, hands_other, sort_in, is_descending, trigger_of}
use Rattle.ft_text.specs.Items.{Piece, Word, pieces}
use Rattle.ft_trigger.proofs.Halves.{cut_of}
use Rattle.ft_trigger.proofs.ReadAgain.{made}
use Rattle.ft_text.proofs.Separators.{pieces_append}
use Rattle.ft_trigger.proofs.Shaped.{make_of, with_made, alone_cut, cut_by}

-- ---- parts after parts

-- parts are read, and then those after them
parts_append : (event : Name) (draft : Draft) (parts more : List Piece) → parts_from event draft (parts ++ more) ≡ (parts_from event draft parts >>= (λ next. parts_from event next more))
unfolding parts_from
parts_append event draft [] more = refl
parts_append event draft (part ∷ parts) more = from (λ next. parts_append event next parts more) (with_part event draft part)
  where
    from : ((next : Draft) → parts_from event next (parts ++ more) ≡ (parts_from event next parts >>= (λ next. parts_from event next more)))
        → (r : Result Draft TriggerFault) → (r >>= (λ next. parts_from event next (parts ++ more))) ≡ ((r >>= (λ next. parts_from event next parts)) >>= (λ next. parts_from event next more))
    from later (Ok next) = later next
    from later (Err fault) = refl

-- parts after parts
behind_parts : (event : Name) (parts more : List ℕ) (read : Result Draft TriggerFault) → parts_from event empty_draft (pieces 58 5 parts) ≡ read
    → parts_from event empty_draft (pieces 58 5 (parts ++ codes ":" ++ more)) ≡ (read >>= (λ draft. parts_from event draft (pieces 58 (5 + length parts + 1) more)))
behind_parts event parts more read is =
    ap (λ (t : List ℕ). parts_from event empty_draft (pieces 58 5 t)) (append_assoc parts (codes ":") more) ∙ ap (parts_from event empty_draft) (pieces_append 58 5 parts more)
    ∙ parts_append event empty_draft (pieces 58 5 parts) (pieces 58 (5 + length parts + 1) more) ∙ ap (λ (r : Result Draft TriggerFault). r >>= (λ draft. parts_from event draft (pieces 58 (5 + length parts + 1) more))) is

-- a fault stays
pub parts_stay : (event : Name) (parts more : List ℕ) (fault : TriggerFault) → PartsFail event parts fault → PartsFail event (parts ++ codes ":" ++ more) fault
parts_stay event parts more fault fails = behind_parts event parts more (Err fault) fails

-- ---- texts

-- a text has the fault of its parts
pub parts_first : (event : Name) (text parts gap tail end : List ℕ) (fault : TriggerFault) → IsCut text (codes "hist:" ++ parts) gap tail end → PartsFail event parts fault → trigger_of event text ≡ Err fault
parts_first event text parts gap tail end fault cut fails =
    let filter = tail_filter event (length (codes "hist:" ++ parts) + length gap) tail in
    cut_by event text (codes "hist:" ++ parts) gap tail end filter cut refl ∙ ap (λ (r : Result Draft TriggerFault). (r >>= make_of event (length (codes "hist:" ++ parts))) >>= with_made filter) fails

-- a text with something after its parts
behind_cut : (parts more : List ℕ) → list_any is_gap parts ≡ false → (c : Cut more) → IsCut (codes "hist:" ++ parts ++ codes ":" ++ more) (codes "hist:" ++ (parts ++ codes ":" ++ c.head)) c.gap c.tail c.end
behind_cut parts more bare c = record {
  is = ap (λ (t : List ℕ). codes "hist:" ++ parts ++ codes ":" ++ t) c.cut.is ∙ grouped (codes "hist:") parts (codes ":") c.head c.gap c.tail c.end;
  head_bare = ap (list_any is_gap) (append_assoc parts (codes ":") c.head) ∙ list_any-append is_gap parts (58 ∷ c.head) ∙ or_from _ _ bare c.cut.head_bare;
  gap_blank = c.cut.gap_blank;
  end_blank = c.cut.end_blank;
  tail_opens = c.cut.tail_opens;
  tail_closes = c.cut.tail_closes;
  tail_apart = c.cut.tail_apart;
}
  where
    grouped : (a p b h g t e : List ℕ) → a ++ p ++ b ++ (h ++ g ++ t ++ e) ≡ a ++ (p ++ b ++ h) ++ g ++ t ++ e
    grouped a p b h g t e = simp append_assoc

-- whatever is after them
parts_always : (event : Name) (parts : List ℕ) (fault : TriggerFault) → list_any is_gap parts ≡ false → PartsFail event parts fault → (more : List ℕ) → trigger_of event (codes "hist:" ++ parts ++ codes ":" ++ more) ≡ Err fault
parts_always event parts fault bare fails more =
    let c = cut_of more in
    parts_first event (codes "hist:" ++ parts ++ codes ":" ++ more) (parts ++ codes ":" ++ c.head) c.gap c.tail c.end fault (behind_cut parts more bare c) (parts_stay event parts c.head fault fails)

-- an empty part is none
empty_part : (event : Name) (draft : Draft) (place : ℕ) → parts_from event draft (pieces 58 place []) ≡ Err (Syntax place)
unfolding parts_from with_part with_variable name_at
empty_part event draft place = refl

-- a part that is left out
pause_part : (event : Name) (draft : Draft) (place : ℕ) → parts_from event draft (pieces 58 place (codes "pause")) ≡ Err (LeftOut place)
unfolding parts_from with_part
pause_part event draft place = refl

-- what is after parts without a fault has its own
other_fault : (event : Name) (parts more : List ℕ) (draft : Draft) (fault : TriggerFault) → list_any is_gap parts ≡ false → list_any is_gap more ≡ false → parts_from event empty_draft (pieces 58 5 parts) ≡ Ok draft
    → parts_from event draft (pieces 58 (5 + length parts + 1) more) ≡ Err fault → trigger_of event (codes "hist:" ++ parts ++ codes ":" ++ more) ≡ Err fault
other_fault event parts more draft fault bare clean reads fails =
    let clear : list_any is_gap (parts ++ codes ":" ++ more) ≡ false = ap (list_any is_gap) (append_assoc parts (codes ":") more) ∙ list_any-append is_gap parts (58 ∷ more) ∙ or_from _ _ bare clean in
    let head = codes "hist:" ++ (parts ++ codes ":" ++ more) in
    ap (trigger_of event) (grouped (codes "hist:") parts (codes ":") more)
    ∙ parts_first event head (parts ++ codes ":" ++ more) [] [] [] fault (alone_cut head clear) (behind_parts event parts more (Ok draft) reads ∙ fails)
  where
    grouped : (a p b m : List ℕ) → a ++ p ++ b ++ m ≡ a ++ (p ++ b ++ m)
    grouped a p b m = simp append_assoc

-- a text has a fault, whatever is after its parts, if and only if the parts have it
pub parts_just : (event : Name) (parts : List ℕ) (fault : TriggerFault) → list_any is_gap parts ≡ false
    → PartsFail event parts fault ↔ ((more : List ℕ) → trigger_of event (codes "hist:" ++ parts ++ codes ":" ++ more) ≡ Err fault)
parts_just event parts fault bare = (parts_always event parts fault bare, from (parts_from event empty_draft (pieces 58 5 parts)) refl)
  where
    from : (read : Result Draft TriggerFault) → parts_from event empty_draft (pieces 58 5 parts) ≡ read → ((more : List ℕ) → trigger_of event (codes "hist:" ++ parts ++ codes ":" ++ more) ≡ Err fault) → PartsFail event parts fault
    from (Err found) is always =
        let both : ◌≡◌ {A = Result Hist TriggerFault} (Err found) (Err fault) = sym (parts_always event parts found bare is []) ∙ always [] in
        let same : found ≡ fault = cc in
        is ∙ ap Err same
    from (Ok draft) is always =
        let empty : Err (Syntax (5 + length parts + 1)) ≡ Err fault = sym (other_fault event parts [] draft (Syntax (5 + length parts + 1)) bare refl is (empty_part event draft (5 + length parts + 1))) ∙ always [] in
        let pause : Err (LeftOut (5 + length parts + 1)) ≡ Err fault = sym (other_fault event parts (codes "pause") draft (LeftOut (5 + length parts + 1)) bare refl is (pause_part event draft (5 + length parts + 1))) ∙ always (codes "pause") in
        cc

-- ---- faults after the parts

-- a value that names nothing
values_late : (event : Name) (own : Option (List ℕ)) (words : List Word) (fault : TriggerFault) → value_items event own words ≡ Err fault → fault ≡ NoField
values_late event own [] fault e = absurd cc
values_late event own (word ∷ words) fault e = from (values_late event own words fault) (value_item event own word) (value_items event own words) refl e
  where
    from : (value_items event own words ≡ Err fault → fault ≡ NoField) → (value : Option Item) (rest : Result (List Item) TriggerFault) → value_items event own words ≡ rest → given_or NoField value (λ value. rest >>= (λ values. Ok (value ∷ values))) ≡ Err fault → fault ≡ NoField
    from later None rest is e = cc
    from later (Some value) (Ok values) is e = absurd cc
    from later (Some value) (Err found) is e = later (is ∙ (let same : found ≡ fault = cc in ap Err same))

-- a sort item that names nothing
sorts_late : (keys : List KeyItem) (values : List Item) (own : Option (List ℕ)) (words : List Word) (fault : TriggerFault) → sorts_of keys values own words ≡ Err fault → fault ≡ BadSort
sorts_late keys values own [] fault e = absurd cc
sorts_late keys values own (word ∷ words) fault e = from (sorts_late keys values own words fault) (sort_by keys values own word) (sorts_of keys values own words) refl e
  where
    from : (sorts_of keys values own words ≡ Err fault → fault ≡ BadSort) → (what : Option SortBy) (rest : Result (List SortItem) TriggerFault) → sorts_of keys values own words ≡ rest
        → given_or BadSort what (λ what. rest >>= (λ sorts. Ok (record { what = what; descending = is_descending word } ∷ sorts))) ≡ Err fault → fault ≡ BadSort
    from later None rest is e = cc
    from later (Some what) (Ok sorts) is e = absurd cc
    from later (Some what) (Err found) is e = later (is ∙ (let same : found ≡ fault = cc in ap Err same))

-- sort items, if there are some
order_late : (keys : List KeyItem) (values : List Item) (own : Option (List ℕ)) (words : Option (List Word)) (fault : TriggerFault) → sort_of keys values own words ≡ Err fault → fault ≡ BadSort
order_late keys values own None fault e = absurd cc
order_late keys values own (Some words) fault e = sorts_late keys values own words fault e

-- a variable that is handed on and is another, or a sort item
order_in_late : (head : ℕ) (draft : Draft) (keys : List KeyItem) (values : List Item) (fault : TriggerFault) → sort_in draft keys values ≡ Err fault → is_late head fault ≡ true
order_in_late head draft keys values fault e = from (hands_other draft.variable draft.onmatch) e
  where
    from : (b : Bool) → unless ((b, NoField) ∷ []) (sort_of keys values (own_name draft.variable) draft.sort) ≡ Err fault → is_late head fault ≡ true
    from true e = let same : NoField ≡ fault = cc in ap (is_late head) (sym same)
    from false e = ap (is_late head) (order_late keys values (own_name draft.variable) draft.sort fault e)

-- what a draft has no trigger for
make_late : (event : Name) (head : ℕ) (draft : Draft) (fault : TriggerFault) → make_of event head draft ≡ Err fault → is_late head fault ≡ true
make_late event head draft fault e = keyed draft.keys e
  where
    sorted : (keys : List KeyItem) (values : List Item) (sort : Result (List SortItem) TriggerFault) → sort_in draft keys values ≡ sort
        → (sort >>= (λ sort. Ok (made event draft keys values sort None))) ≡ Err fault → is_late head fault ≡ true
    sorted keys values (Ok sort) is e = absurd cc
    sorted keys values (Err found) is e = order_in_late head draft keys values fault (is ∙ (let same : found ≡ fault = cc in ap Err same))

    valued : (keys : List KeyItem) (values : Result (List Item) TriggerFault) → value_items event (own_name draft.variable) (besides_hitcount (unwrap_or draft.values [])) ≡ values
        → (values >>= (λ values. sort_in draft keys values >>= (λ sort. Ok (made event draft keys values sort None)))) ≡ Err fault → is_late head fault ≡ true
    valued keys (Ok values) is e = sorted keys values (sort_in draft keys values) refl e
    valued keys (Err found) is e = ap (is_late head) (values_late event (own_name draft.variable) (besides_hitcount (unwrap_or draft.values [])) fault (is ∙ (let same : found ≡ fault = cc in ap Err same)))

    keyed : (keys : Option (List KeyItem)) → given_or (Syntax head) keys (λ keys. value_items event (own_name draft.variable) (besides_hitcount (unwrap_or draft.values [])) >>= (λ values. sort_in draft keys values >>= (λ sort. Ok (made event draft keys values sort None)))) ≡ Err fault
        → is_late head fault ≡ true
    keyed None e = let same : Syntax head ≡ fault = cc in ap (is_late head) (sym same) ∙ le-leb head head (omega arith)
    keyed (Some keys) e = valued keys (value_items event (own_name draft.variable) (besides_hitcount (unwrap_or draft.values []))) refl e

-- a tail's fault
tail_late : (event : Name) (head place : ℕ) (tail : List ℕ) (fault : TriggerFault) → head ≤ place → tail_filter event place tail ≡ Err fault → is_late head fault ≡ true
unfolding tail_filter
tail_late event head place tail fault le e = from (length tail == 0) e
  where
    answered : (answer : Result Tree FilterFault) → filter_or_fault answer ≡ Err fault → is_late head fault ≡ true
    answered (Ok tree) e = absurd cc
    answered (Err found) e = let same : BadFilter found ≡ fault = cc in ap (is_late head) (sym same)

    behind : (o : Option (List ℕ)) → given_or (Syntax place) o (λ text. filter_or_fault (filter_of event text)) ≡ Err fault → is_late head fault ≡ true
    behind None e = let same : Syntax place ≡ fault = cc in ap (is_late head) (sym same) ∙ le-leb head place le
    behind (Some text) e = answered (filter_of event text) e

    from : (b : Bool) → cond b (Ok None) (given_or (Syntax place) (behind_if tail) (λ text. filter_or_fault (filter_of event text))) ≡ Err fault → is_late head fault ≡ true
    from true e = absurd cc
    from false e = behind (behind_if tail) e

-- a fault that none of these is, the parts have
pub parts_early : (event : Name) (text parts gap tail end : List ℕ) (fault : TriggerFault) → IsCut text (codes "hist:" ++ parts) gap tail end → trigger_of event text ≡ Err fault → is_late (length (codes "hist:" ++ parts)) fault ≡ false → PartsFail event parts fault
parts_early event text parts gap tail end fault cut e early = from (parts_from event empty_draft (pieces 58 5 parts)) refl (sym (cut_by event text (codes "hist:" ++ parts) gap tail end filter cut refl) ∙ e)
  where
    head : ℕ
    head = length (codes "hist:" ++ parts)

    filter : Result (Option Tree) TriggerFault
    filter = tail_filter event (head + length gap) tail

    ended : (f : Result (Option Tree) TriggerFault) (first : Hist) → filter ≡ f → with_made f first ≡ Err fault → is_late head fault ≡ true
    ended (Ok found) first is e = absurd cc
    ended (Err found) first is e = tail_late event head (head + length gap) tail fault (omega arith) (is ∙ (let same : found ≡ fault = cc in ap Err same))

    bare : (draft : Draft) (first : Result Hist TriggerFault) → make_of event head draft ≡ first → (first >>= with_made filter) ≡ Err fault → is_late head fault ≡ true
    bare draft (Ok first) is e = ended filter first refl e
    bare draft (Err found) is e = make_late event head draft fault (is ∙ (let same : found ≡ fault = cc in ap Err same))

    from : (read : Result Draft TriggerFault) → parts_from event empty_draft (pieces 58 5 parts) ≡ read → ((read >>= make_of event head) >>= with_made filter) ≡ Err fault → PartsFail event parts fault
    from (Err found) is e = is ∙ (let same : found ≡ fault = cc in ap Err same)
    from (Ok draft) is e = absurd (let late = bare draft (make_of event head draft) refl e in cc)
