-- What replaying has come to at a place is what the acts before the place come to.
use Rattle.std.proofs.Common.{◌≡◌, ℕ, Bool, true, false, cond, List, [], ◌∷◌, ◌++◌, refl, sym, ap, subst, ◌∙◌, Some, None, Option}
use Rattle.std.specs.Prelude.{fold, filter, option_map, nat_lt, ◌==◌}
use Rattle.std.specs.List.{AllByRecursion, cons_option, flat_map, filter_map}
use Rattle.std.specs.List.Sorted.{IsStrictlySortedBy}
use Rattle.std.specs.Option.{option_map_or}
use Rattle.std.specs.declared.cmp.Ordering.{Ordering}
use Rattle.std.specs.declared.cmp.Ordering.TheVariants.{Less, Equal, Greater}
use Rattle.std.specs.Ordering.{nat_cmp, is_lt, is_eq, ordering_then, ordering_reverse}
use Rattle.std.specs.Cmp.{nat_cmp_total}
use Rattle.std.specs.FinMap as map
use Rattle.std.specs.FinMap.{find, entries_sorted, get-entries, get-retain_keys}
use Rattle.std.specs.FinMap.Entries.{is_sorted-where_key, find-where_key, same_entries}
use Rattle.std.proofs.lemmas.Bool.{true≢false}
use Rattle.std.proofs.lemmas.List.{append-nil, append_assoc}
use Rattle.std.proofs.lemmas.List.Elements.{filter-append}
use Rattle.std.proofs.lemmas.List.Sums.{fold-append}
use Rattle.ft_maps.proofs.Common.{all_filter, all_map}
use Rattle.ft_fields.specs.Traced.{Traced}
use Rattle.ft_fields.specs.declared.pos.Pos.{Pos}
use Rattle.ft_fields.specs.Places.{pos_cmp, pos_cmp_total, pos_same}
use Rattle.ft_hist.specs.Hist.{Hist}
use Rattle.ft_hist.specs.Hit.{hit}
use Rattle.ft_pairs.specs.declared.at.At.{At}
use Rattle.ft_pairs.specs.Order.{at_cmp, at_cmp_total, at_same}
use Rattle.ft_pairs.specs.declared.role.Variable.{Variable}
use Rattle.ft_base.specs.Base.{Triggers}
use Rattle.ft_replay.specs.Merged.{Events}
use Rattle.ft_replay.specs.Hits.{state_before, found_at}
use Rattle.ft_replay.specs.Replay.{State, act_at, started}
use Rattle.ft_base.specs.Roles.{role_at}
use Rattle.ft_replay.proofs.Acts.{Act, made, act_of, acts_at, acts_in, is_before, size_at, growth_at, left_before}
use Rattle.ft_base.proofs.Apart.{AreApart, entries_apart, entries_found}
use Rattle.ft_replay.proofs.Acting.{go, one_event, replay-acts, each_at, acts_there, acts_sorted}
use Rattle.ft_replay.proofs.Telling.{places, none_before, all_told}

-- ---- lists that pass a test as a whole, or not at all

all_pass : {X : Type 0} (p : X → Bool) (xs : List X) → AllByRecursion (λ x. p x ≡ true) xs → filter p xs ≡ xs
all_pass p [] h = refl
all_pass p (x ∷ xs) h = ap (λ b. cond b (x ∷ filter p xs) (filter p xs)) h.0 ∙ ap (λ (ys : List _). x ∷ ys) (all_pass p xs h.1)

none_pass : {X : Type 0} (p : X → Bool) (xs : List X) → AllByRecursion (λ x. p x ≡ false) xs → filter p xs ≡ []
none_pass p [] h = refl
none_pass p (x ∷ xs) h = ap (λ b. cond b (x ∷ filter p xs) (filter p xs)) h.0 ∙ none_pass p xs h.1

pub lower-is : (i j : ℕ) → is_lt (nat_cmp i j) ≡ nat_lt i j
lower-is i j = elim (nat_lt i j) as (λ b. is_lt (cond b Less (cond (i == j) Equal Greater)) ≡ b) [
  | true ↦ refl
  | false ↦ elim (i == j) as (λ b. is_lt (cond b Equal Greater) ≡ false) [ true ↦ refl | false ↦ refl ]
]

module _ (triggers : Triggers) (at : At) where
  -- ---- the acts before the place, event by event

  abbrev pub is_earlier : Pos × Traced → Bool
  is_earlier e = is_lt (pos_cmp e.0 at.pos)

  -- the triggers that act before, if the event is the place's own
  abbrev is_lower : ℕ × Hist → Bool
  is_lower t = nat_lt t.0 at.trigger

  abbrev here : Option Traced → List Act
  here o = option_map_or (λ event. filter_map (act_of (at.pos, event)) (filter is_lower (map.entries triggers))) o []

  before_by : (o : Ordering) (e : Pos × Traced) → pos_cmp e.0 at.pos ≡ o → (Q : Bool → Type 0) → ((i : ℕ) → Q (is_lt (ordering_then o (nat_cmp i at.trigger)))) → AllByRecursion (λ a. Q (is_before at a)) (acts_at triggers e)
  before_by o e is Q h = each_at triggers (λ a. Q (is_before at a)) e (λ id key. subst (λ r. Q (is_lt (ordering_then r (nat_cmp id at.trigger)))) (sym is) (h id))

  all_earlier : (e : Pos × Traced) → pos_cmp e.0 at.pos ≡ Less → filter (is_before at) (acts_at triggers e) ≡ acts_at triggers e
  all_earlier e is = all_pass (is_before at) (acts_at triggers e) (before_by Less e is (λ b. b ≡ true) (λ i. refl))

  none_earlier : (e : Pos × Traced) → pos_cmp e.0 at.pos ≡ Greater → filter (is_before at) (acts_at triggers e) ≡ []
  none_earlier e is = none_pass (is_before at) (acts_at triggers e) (before_by Greater e is (λ b. b ≡ false) (λ i. refl))

  -- at the place's own event
  some_earlier : (e : Pos × Traced) → pos_cmp e.0 at.pos ≡ Equal → (ts : List (ℕ × Hist)) → filter (is_before at) (filter_map (act_of e) ts) ≡ filter_map (act_of e) (filter is_lower ts)
  some_earlier e is [] = refl
  some_earlier e is (t ∷ ts) = elim (hit t.1 e.1) as (λ o. hit t.1 e.1 ≡ o
      → filter (is_before at) (cons_option (option_map (made e t.0) o) (filter_map (act_of e) ts)) ≡ filter_map (act_of e) (cond (is_lower t) (t ∷ filter is_lower ts) (filter is_lower ts))) [
        | None ↦ λ none. some_earlier e is ts
            ∙ elim (is_lower t) as (λ b. filter_map (act_of e) (filter is_lower ts) ≡ filter_map (act_of e) (cond b (t ∷ filter is_lower ts) (filter is_lower ts))) [
              | true ↦ ap (λ o. cons_option (option_map (made e t.0) o) (filter_map (act_of e) (filter is_lower ts))) (sym none)
              | false ↦ refl
            ]
        | Some key ↦ λ some.
            ap (λ r. cond (is_lt (ordering_then r (nat_cmp t.0 at.trigger))) (made e t.0 key ∷ filter (is_before at) (filter_map (act_of e) ts)) (filter (is_before at) (filter_map (act_of e) ts))) is
            ∙ ap (λ b. cond b (made e t.0 key ∷ filter (is_before at) (filter_map (act_of e) ts)) (filter (is_before at) (filter_map (act_of e) ts))) (lower-is t.0 at.trigger)
            ∙ ap (λ (xs : List Act). cond (is_lower t) (made e t.0 key ∷ xs) xs) (some_earlier e is ts)
            ∙ elim (is_lower t) as (λ b. cond b (made e t.0 key ∷ filter_map (act_of e) (filter is_lower ts)) (filter_map (act_of e) (filter is_lower ts))
            ≡ filter_map (act_of e) (cond b (t ∷ filter is_lower ts) (filter is_lower ts))) [
              | true ↦ ap (λ o. cons_option (option_map (made e t.0) o) (filter_map (act_of e) (filter is_lower ts))) (sym some)
              | false ↦ refl
            ]
      ] refl

  -- if all events stand after the place, no act is before it
  later_acts : (es : List (Pos × Traced)) → AllByRecursion (λ e. pos_cmp e.0 at.pos ≡ Greater) es → filter (is_before at) (flat_map (acts_at triggers) es) ≡ []
  later_acts [] h = refl
  later_acts (e ∷ es) h =
      filter-append (is_before at) (acts_at triggers e) (flat_map (acts_at triggers) es)
      ∙ ap (λ (xs : List Act). xs ++ filter (is_before at) (flat_map (acts_at triggers) es)) (none_earlier e h.0)
      ∙ later_acts es h.1

  later_events : (es : List (Pos × Traced)) → AllByRecursion (λ e. pos_cmp e.0 at.pos ≡ Greater) es → filter is_earlier es ≡ []
  later_events es h = none_pass is_earlier es (all_map _ _ (λ e is. ap is_lt is) es h)

  behind : (e : Pos × Traced) (es : List (Pos × Traced)) → pos_cmp e.0 at.pos ≡ Equal → AllByRecursion (λ q. pos_cmp e.0 q.0 ≡ Less) es → AllByRecursion (λ q. pos_cmp q.0 at.pos ≡ Greater) es
  behind e es tie h = all_map _ _ (λ q less. ap (pos_cmp q.0) (sym (pos_same e.0 at.pos tie)) ∙ pos_cmp_total.antisymm q.0 e.0 ∙ ap ordering_reverse less) es h

  -- the place's own event is there if its place ties
  tied : (e : Pos × Traced) (o : Ordering) → pos_cmp e.0 at.pos ≡ o → is_eq (pos_cmp at.pos e.0) ≡ is_eq (ordering_reverse o)
  tied e o is = ap is_eq (pos_cmp_total.antisymm at.pos e.0 ∙ ap ordering_reverse is)

  abbrev Front : List (Pos × Traced) → Type 0
  Front es = filter (is_before at) (flat_map (acts_at triggers) es) ≡ flat_map (acts_at triggers) (filter is_earlier es) ++ here (find pos_cmp at.pos es)

  -- what the two tests on an event's place make of the right side
  abbrev right : Pos × Traced → List (Pos × Traced) → Bool → Bool → List Act
  right e es earlier own = flat_map (acts_at triggers) (cond earlier (e ∷ filter is_earlier es) (filter is_earlier es)) ++ here (cond own (Some e.1) (find pos_cmp at.pos es))

  front_by : (e : Pos × Traced) (es : List (Pos × Traced)) → AllByRecursion (λ q. pos_cmp e.0 q.0 ≡ Less) es → Front es → (o : Ordering) → pos_cmp e.0 at.pos ≡ o
      → filter (is_before at) (acts_at triggers e) ++ filter (is_before at) (flat_map (acts_at triggers) es) ≡ right e es (is_lt o) (is_eq (ordering_reverse o))
  front_by e es apart rest Less is =
      ap (λ (xs : List Act). xs ++ filter (is_before at) (flat_map (acts_at triggers) es)) (all_earlier e is)
      ∙ ap (λ (xs : List Act). acts_at triggers e ++ xs) rest
      ∙ sym (append_assoc (acts_at triggers e) (flat_map (acts_at triggers) (filter is_earlier es)) (here (find pos_cmp at.pos es)))
  front_by e es apart rest Equal is =
      ap (λ (xs : List Act). filter (is_before at) (acts_at triggers e) ++ xs) (later_acts es (behind e es is apart))
      ∙ append-nil _
      ∙ some_earlier e is (map.entries triggers)
      ∙ ap (λ p. filter_map (act_of (p, e.1)) (filter is_lower (map.entries triggers))) (pos_same e.0 at.pos is)
      ∙ ap (λ (xs : List (Pos × Traced)). flat_map (acts_at triggers) xs ++ here (Some e.1)) (sym (later_events es (behind e es is apart)))
  front_by e es apart rest Greater is =
      ap (λ (xs : List Act). xs ++ filter (is_before at) (flat_map (acts_at triggers) es)) (none_earlier e is)
      ∙ rest

  front-is : (es : List (Pos × Traced)) → AreApart pos_cmp es → Front es
  front-is [] h = refl
  front-is (e ∷ es) h =
      filter-append (is_before at) (acts_at triggers e) (flat_map (acts_at triggers) es)
      ∙ front_by e es h.0 (front-is es h.1) (pos_cmp e.0 at.pos) refl
      ∙ ap (right e es (is_earlier e)) (sym (tied e (pos_cmp e.0 at.pos) refl))

  -- ---- the state

  abbrev start : State
  start = record { tallies = started triggers; variables = map.empty }

  pub earlier-entries : (events : Events) → map.entries (map.retain_keys events (λ place. is_lt (pos_cmp place at.pos))) ≡ filter is_earlier (map.entries events)
  earlier-entries events =
      let p : Pos → Bool = λ place. is_lt (pos_cmp place at.pos) in
      let alike : (q x : Pos) → pos_cmp q x ≡ Equal → p x ≡ p q = λ q x tie. ap p (sym (pos_same q x tie)) in
      same_entries pos_cmp pos_cmp_total pos_same _ _ (entries_sorted (map.retain_keys events p)) (is_sorted-where_key pos_cmp p (map.entries events) (entries_sorted events)) (λ q.
      sym (get-entries (map.retain_keys events p) q) ∙ get-retain_keys events p q (alike q) ∙ ap (λ o. cond (p q) o None) (get-entries events q) ∙ sym (find-where_key pos_cmp p q (alike q) (map.entries events)))

  at_own : (o : Option Traced) (state : State) → option_map_or (λ event. fold (act_at triggers (at.pos, event)) state (filter is_lower (map.entries triggers))) o state ≡ go triggers state (here o)
  at_own None state = refl
  at_own (Some event) state = one_event triggers (at.pos, event) state (filter is_lower (map.entries triggers))
      (all_filter _ is_lower (map.entries triggers) (entries_found nat_cmp nat_cmp_total triggers))

  reached : (events : Events) → state_before triggers events at ≡ go triggers start (filter (is_before at) (acts_in triggers events))
  unfolding state_before acts_in
  reached events =
      let earlier : List (Pos × Traced) = filter is_earlier (map.entries events) in
      ap (λ (s : State). option_map_or (λ event. fold (act_at triggers (at.pos, event)) s (filter is_lower (map.entries triggers))) (map.get events at.pos) s)
      (replay-acts triggers (map.retain_keys events (λ place. is_lt (pos_cmp place at.pos)))
      ∙ ap (λ (es : List (Pos × Traced)). go triggers start (flat_map (acts_at triggers) es)) (earlier-entries events))
      ∙ at_own (map.get events at.pos) (go triggers start (flat_map (acts_at triggers) earlier))
      ∙ sym (fold-append _ start (flat_map (acts_at triggers) earlier) (here (map.get events at.pos)))
      ∙ ap (λ (o : Option Traced). go triggers start (flat_map (acts_at triggers) earlier ++ here o)) (get-entries events at.pos)
      ∙ ap (go triggers start) (sym (front-is (map.entries events) (entries_apart pos_cmp events)))

  -- ---- and so what is found there

  -- acts in order: after the first that isn't before the place, none is
  abbrev Split : List Act → Type 0
  Split acts = (rest : List Act) × (acts ≡ filter (is_before at) acts ++ rest)

  not_less : (a : Act) (y : At) → is_before at a ≡ false → at_cmp a.at y ≡ Less → at_cmp at y ≡ Less
  not_less a y is less = elim (at_cmp a.at at) as (λ o. at_cmp a.at at ≡ o → is_lt o ≡ false → at_cmp at y ≡ Less) [
    | Less ↦ λ _ no. absurd (true≢false no)
    | Equal ↦ λ tie _. subst (λ q. at_cmp q y ≡ Less) (at_same a.at at tie) less
    | Greater ↦ λ more _. at_cmp_total.trans at a.at y (at_cmp_total.antisymm at a.at ∙ ap ordering_reverse more) less
  ] refl is

  split : (acts : List Act) → IsStrictlySortedBy at_cmp (places acts) → Split acts
  unfolding IsStrictlySortedBy
  split [] sorted = ([], refl)
  split (a ∷ acts) sorted = elim (is_before at a) as (λ b. is_before at a ≡ b → (rest : List Act) × (a ∷ acts ≡ cond b (a ∷ filter (is_before at) acts) (filter (is_before at) acts) ++ rest)) [
    | true ↦ λ _. let s : Split acts = split acts sorted.1 in (s.0, ap (λ (xs : List Act). a ∷ xs) s.1)
    | false ↦ λ is. (a ∷ acts, ap (λ (xs : List Act). xs ++ a ∷ acts) (sym (none_before at acts (above acts is sorted.0))))
  ] refl
    where
      above : (bs : List Act) → is_before at a ≡ false → AllByRecursion (λ y. at_cmp a.at y ≡ Less) (places bs) → AllByRecursion (λ y. at_cmp at y ≡ Less) (places bs)
      above bs is h = all_map _ _ (λ y less. not_less a y is less) (places bs) h

  -- what a reading at the place finds is what the acts before the place leave
  pub found_at-is : (events : Events) (variable : Variable) → found_at triggers events variable at ≡ left_before (size_at triggers) (role_at triggers) (growth_at triggers) (acts_in triggers events) variable at
  unfolding left_before
  found_at-is events variable =
      let s : Split (acts_in triggers events) = split (acts_in triggers events) (acts_sorted triggers events) in
      ap (λ (t : State). map.get t.variables variable) (reached events)
      ∙ (all_told (size_at triggers) (role_at triggers) (growth_at triggers) (acts_in triggers events) (started triggers) (acts_sorted triggers events) (filter (is_before at) (acts_in triggers events)) s.0 s.1
      (all_filter _ (is_before at) (acts_in triggers events) (acts_there triggers events))).1 variable
