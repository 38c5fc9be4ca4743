-- What is listed of the events of a key, looked up: events, hits, saves, reads, and what readings found.
use Rattle.std.proofs.Common.{◌≡◌, cond, List, [], ◌∷◌, ap, ◌∙◌, Some, Bool, true, false, ◌++◌, refl, sym, None, Option, ◌+◌, ◌<◌, ◌≤◌, ℕ, zero, suc, arith, ℤ, get_or, length, subst, inl, inr}
use Rattle.std.specs.List.{AllByRecursion, filter, list_any}
use Rattle.std.specs.List.Sorted.{IsStrictlySortedBy}
use Rattle.std.specs.Map.{keys_of, update, update_all}
use Rattle.std.specs.declared.cmp.Ordering.{Ordering}
use Rattle.std.specs.declared.cmp.Ordering.TheVariants.{Less}
use Rattle.std.specs.Ordering.{eq_by_cmp, nat_cmp}
use Rattle.std.specs.Cmp.{IsTotalOrder, eq_by_cmp_equiv, tied_then}
use Rattle.std.specs.FinMap as map
use Rattle.std.specs.FinMap.{find, entries_sorted, get-entries, IsAntisymmetric, get-empty, get-from_entries}
use Rattle.std.proofs.lemmas.Map.Keys.{sorted_head, sorted_tail}
use Rattle.ft_maps.specs.Entries.{strictly_sorted}
use Rattle.ft_maps.proofs.Common.{all_map, cond_same, all_filter}
use Rattle.std.specs.Prelude.{◌&&◌, option_and_then, option_map, ◌||◌, is_some}
use Rattle.std.specs.Option.{option_or, option_map_or}
use Rattle.ft_shelves.specs.inner.Joining.{chosen, act_at, found_last, hits_of_run, readings_of_run, reads_of_run, saves_of_run}
use Rattle.std.specs.Borrow.{Bor}
use Rattle.std.specs.FinMap.Entries.{is_some-find}
use Rattle.std.proofs.Math.ListN.{get_or-map}
use Rattle.std.proofs.lemmas.List.{length-map}
use Rattle.ft_fields.specs.Places.{pos_cmp, pos_cmp_total, pos_same}
use Rattle.ft_fields.specs.Orders.{key_cmp_total}
use Rattle.ft_fields.specs.Ties.{key_same}
use Rattle.ft_fields.specs.Traced.{Traced}
use Rattle.ft_fields.specs.Parts.{same_key}
use Rattle.ft_fields.specs.declared.key.Part.{Part}
use Rattle.ft_fields.specs.declared.pos.Pos.{Pos}
use Rattle.ft_groups.specs.Grouped.{Grouped, is_under, referenced_events, run_of}
use Rattle.ft_hist.specs.Hist.{Hist}
use Rattle.ft_hist.specs.Hit.{hit}
use Rattle.ft_hits.specs.declared.spot.Spot.{Spot}
use Rattle.ft_pairs.specs.Edits.{same_at}
use Rattle.ft_pairs.specs.Order.{at_cmp, at_cmp_total}
use Rattle.ft_pairs.specs.declared.at.At.{At}
use Rattle.ft_pairs.specs.declared.at.Op.TheVariants.{Save}
use Rattle.ft_store.specs.Stored.{held}
use Rattle.ft_store.specs.declared.stored.Stored.{Stored}
use Rattle.ft_table.specs.Hits.{Hits}
use Rattle.ft_table.specs.Spots.{spot_cmp, spot_cmp_total, traced}
use Rattle.ft_table.specs.Values.{values_at}
use Rattle.ft_shelves.specs.Joining.{AreGroupsOf, ReadBy, acts_with, event_in, hit_in, reading_in, what_read}
use Rattle.ft_shelves.proofs.Attached.{each_found}
use Rattle.ft_shelves.proofs.Decided.{itself, key_decided, none_not_some, untied}
use Rattle.ft_shelves.proofs.KeyByKey.{IsPut, is_left, left_no_more, left_now, left_still, no_run, none_left, put_none}

-- ---- in order

module _ {K X : Type 0} {R : K → K → Ordering} (total : IsTotalOrder R) (same : IsAntisymmetric R) where
  none_above : (k : K) (es : List (K × X)) → AllByRecursion (λ q. R k q ≡ Less) (keys_of es) → find R k es ≡ None
  none_above k [] above = refl
  none_above k (e ∷ es) above = grind (arith, none_above k es, above.0, above.1)

  -- the first entry's key is at no other
  none_later : (q : K) (e : K × X) (es : List (K × X)) → IsStrictlySortedBy R (keys_of (e ∷ es)) → eq_by_cmp R q e.0 ≡ true → find R q es ≡ None
  none_later q e es sorted tie = grind (arith, none_above e.0 es (sorted_head R e.0 (keys_of es) sorted), same q e.0)

  -- among the entries whose values pass a test, a key has what it had, if that passes
  pub find-filter : (test : X → Bool) (q : K) (es : List (K × X)) → IsStrictlySortedBy R (keys_of es) → find R q (filter (λ e. test e.1) es) ≡ option_and_then (λ x. cond (test x) (Some x) None) (find R q es)
  find-filter test q [] sorted = refl
  find-filter test q (e ∷ es) sorted = let rest = find-filter test q es (sorted_tail R e.0 (keys_of es) sorted) in let none = none_later q e es sorted in grind (arith, rest, none)

module _ {K X : Type 0} (R : K → K → Ordering) (test : K × X → Bool) where
  above_filter : (k : K) (es : List (K × X)) → AllByRecursion (λ q. R k q ≡ Less) (keys_of es) → AllByRecursion (λ q. R k q ≡ Less) (keys_of (filter test es))
  above_filter k [] above = tt
  above_filter k (e ∷ es) above = elim (test e) as (λ b. AllByRecursion (λ q. R k q ≡ Less) (keys_of (cond b (e ∷ filter test es) (filter test es)))) [
    | true ↦ (above.0, above_filter k es above.1)
    | false ↦ above_filter k es above.1
  ]

  -- entries in order stay so, if some are left out
  pub sorted_filter : (es : List (K × X)) → IsStrictlySortedBy R (keys_of es) → IsStrictlySortedBy R (keys_of (filter test es))
  unfolding IsStrictlySortedBy
  sorted_filter [] sorted = tt
  sorted_filter (e ∷ es) sorted = elim (test e) as (λ b. IsStrictlySortedBy R (keys_of (cond b (e ∷ filter test es) (filter test es)))) [
    | true ↦ (above_filter e.0 es sorted.0, sorted_filter es sorted.1)
    | false ↦ sorted_filter es sorted.1
  ]

-- ---- chosen

module _ {K X L Y : Type 0} (into : K → L) (worth : K → X → Option Y) {R : K → K → Ordering} (total : IsTotalOrder R) (same : IsAntisymmetric R) (out : L → K) (fits : L → Bool) (S : L → L → Ordering)
    (ties : (q : L) (k : K) → eq_by_cmp S q (into k) ≡ (eq_by_cmp R (out q) k && fits q)) where
  -- what is found there is what is chosen of the entry that is found at the key that it stands for
  pub find-chosen : (q : L) (es : List (K × X)) → IsStrictlySortedBy R (keys_of es) → find S q (chosen into worth es) ≡ cond (fits q) (option_and_then (worth (out q)) (find R (out q) es)) None
  find-chosen q [] sorted = sym (cond_same (fits q) None)
  find-chosen q (e ∷ es) sorted =
      let rest = find-chosen q es (sorted_tail R e.0 (keys_of es) sorted) in
      let none = none_later total same (out q) e es sorted in
      grind (arith, rest, none, ties q e.0, same (out q) e.0)

module _ {K X Y : Type 0} (worth : K → X → Option Y) {R : K → K → Ordering} (total : IsTotalOrder R) (same : IsAntisymmetric R) where
  -- what is chosen, put in turn over what is there
  pub put-chosen : (es : List (K × X)) → IsStrictlySortedBy R (keys_of es) → (base : K → Option Y) (q : K)
      → update_all (eq_by_cmp R) base (chosen (λ k. k) worth es) q ≡ option_or (option_and_then (worth q) (find R q es)) (base q)
  put-chosen [] sorted base q = refl
  put-chosen (e ∷ es) sorted base q =
      let rest = λ (base : K → Option Y). put-chosen es (sorted_tail R e.0 (keys_of es) sorted) base q in
      let none = none_later total same q e es sorted in
      grind (arith, rest, none, same q e.0, (eq_by_cmp_equiv total).symm e.0 q)

-- a list after another is put last
pub put_behind : {K X : Type 0} (same : K → K → Bool) (base : K → Option X) (es more : List (K × X)) (q : K) → update_all same base (es ++ more) q ≡ update_all same (update_all same base es) more q
put_behind same base [] more q = refl
put_behind same base (e ∷ es) more q = put_behind same (update same base e.0 (Some e.1)) es more q

-- ---- one event

-- there are as many events as references to them
pub length_run : (es : List (Bor (Pos × Stored))) {run : List (Pos × Traced)} → referenced_events es ≡ run → length run ≡ length es
length_run es are = ap (λ (run : List (Pos × Traced)). length run) (sym are) ∙ length-map es _

-- an event that a reference points to is that of the run
pub event_there : (es : List (Bor (Pos × Stored))) {run : List (Pos × Traced)} → referenced_events es ≡ run → (i : ℕ) (e : Bor (Pos × Stored)) → e ≡ get_or es i e
    → get_or run i (e.now.0, held e.now.1) ≡ (e.now.0, held e.now.1)
event_there es are i e is =
    ap (λ (run : List (Pos × Traced)). get_or run i (e.now.0, held e.now.1)) (sym are)
    ∙ get_or-map (λ (b : Bor (Pos × Stored)). (b.now.0, held b.now.1)) es i e
    ∙ ap (λ (b : Bor (Pos × Stored)). (b.now.0, held b.now.1)) (sym is)

all_at : {X : Type 0} (P : X → Type 0) (xs : List X) (i : ℕ) (d : X) → i < length xs → AllByRecursion P xs → P (get_or xs i d)
all_at P [] i d within all = absurd (omega arith)
all_at P (x ∷ xs) zero d within all = all.0
all_at P (x ∷ xs) (suc i) d within all = all_at P xs i d (omega arith) all.1

-- the event of an act, if it has this key
abbrev pub under : List Part → Option (List Part × Traced) → Option Traced
under key act = option_and_then (λ (a : List Part × Traced). cond (same_key key a.0) (Some a.1) None) act

-- its own key has it
pub under_own : (a : List Part × Traced) → under a.0 (Some a) ≡ Some a.1
under_own a = ap (λ b. cond b (Some a.1) None) (itself key_cmp_total a.0)

-- another has none
pub under_other : (key : List Part) (a : List Part × Traced) → (key ≡ a.0 → ⊥) → under key (Some a) ≡ None
under_other key a apart = ap (λ b. cond b (Some a.1) None) (untied key_cmp_total key_same key a.0 apart)

-- a place that was found was read
pub flat : (o : Option At) → option_map (λ (saved : At). saved.pos) o ≡ what_read (option_map (λ (saved : At). Some saved.pos) o)
flat None = refl
flat (Some saved) = refl

-- what the reading of an act found, if its key isn't left
abbrev left_reading : ReadBy → List (List Part) → ℕ → Pos → Option (List Part × Traced) → Option Pos
left_reading read keys n pos act = option_and_then (λ (a : List Part × Traced). cond (is_left keys n a.0) None (what_read (read a.0 pos))) act

-- a list has what readings found, except those of keys that are left
abbrev pub AreGathered : (Pos → Option (List Part × Traced)) → ReadBy → List (List Part) → ℕ → List (Pos × Pos) → Type 0
AreGathered acts read keys n readings = (pos : Pos) → found_last readings pos ≡ left_reading read keys n pos (acts pos)

-- at last it has all
pub gathered_all : (acts : Pos → Option (List Part × Traced)) (read : ReadBy) (keys : List (List Part)) (n : ℕ) → length keys ≤ n
    → (readings : List (Pos × Pos)) → AreGathered acts read keys n readings → (pos : Pos) → found_last readings pos ≡ reading_in read acts pos
gathered_all acts read keys n all readings gathered pos = gathered pos ∙ by (acts pos)
  where
    by : (o : Option (List Part × Traced)) → left_reading read keys n pos o ≡ option_and_then (λ (a : List Part × Traced). what_read (read a.0 pos)) o
    by None = refl
    by (Some a) = ap (λ b. cond b None (what_read (read a.0 pos))) (none_left keys n all a.0)

module _ (hist : Hist) (groups : Grouped) (of : AreGroupsOf hist groups) where
  events_ascend : IsStrictlySortedBy pos_cmp (keys_of (map.entries of.events))
  events_ascend = strictly_sorted pos_cmp (map.entries of.events) (entries_sorted of.events)

  -- the events of a key ascend
  run_ascends : (key : List Part) → IsStrictlySortedBy pos_cmp (keys_of (run_of groups key))
  run_ascends key = subst (λ es. IsStrictlySortedBy pos_cmp (keys_of es)) (sym (of.grouped.runs key)) (sorted_filter pos_cmp (λ e. is_under hist key e.1) (map.entries of.events) events_ascend)

  stamped_run : (key : List Part) → AllByRecursion (λ (e : Pos × Traced). e.1.stamp ≡ e.0.stamp) (run_of groups key)
  stamped_run key = subst (AllByRecursion (λ (e : Pos × Traced). e.1.stamp ≡ e.0.stamp)) (sym (of.grouped.runs key))
      (all_filter _ (λ (e : Pos × Traced). is_under hist key e.1) (map.entries of.events)
      (all_map _ _ (λ e there. of.stamped e.0 e.1 there) (map.entries of.events) (each_found pos_cmp pos_cmp_total of.events)))

  -- each event has the stamp of its place
  pub stamped_there : (key : List Part) (es : List (Bor (Pos × Stored))) → referenced_events es ≡ run_of groups key → (i : ℕ) (e : Bor (Pos × Stored)) → i < length es → e ≡ get_or es i e
      → (held e.now.1).stamp ≡ e.now.0.stamp
  stamped_there key es are i e within is = subst (λ (x : Pos × Traced). x.1.stamp ≡ x.0.stamp) (event_there es are i e is)
      (all_at (λ (x : Pos × Traced). x.1.stamp ≡ x.0.stamp) (run_of groups key) i (e.now.0, held e.now.1) (omega (arith, within, length_run es are)) (stamped_run key))

  counted : (key : List Part) (o : Option Traced) → option_and_then (λ event. cond (is_under hist key event) (Some event) None) o ≡ under key (option_and_then (λ event. option_map (λ k. (k, event)) (hit hist event)) o)
  counted key None = refl
  counted key (Some event) = elim (hit hist event) as (λ h. cond (option_map_or (same_key key) h false) (Some event) None ≡ under key (option_map (λ k. (k, event)) h)) [ None ↦ refl | Some k ↦ refl ]

  -- the event of a key at a place is that of the act there, if the act has the key
  pub event_of : (key : List Part) (pos : Pos) → event_in groups key pos ≡ under key (acts_with hist of.events pos)
  event_of key pos =
      ap (find pos_cmp pos) (of.grouped.runs key)
      ∙ find-filter pos_cmp_total pos_same (is_under hist key) pos (map.entries of.events) events_ascend
      ∙ ap (option_and_then (λ event. cond (is_under hist key event) (Some event) None)) (sym (get-entries of.events pos))
      ∙ counted key (map.get of.events pos)

  -- ---- hits and saves

  pub hit_listed : (read : ReadBy) (key : List Part) (spot : Spot) → map.get (map.from_entries {R = spot_cmp} (hits_of_run hist (read key) (run_of groups key))) spot ≡ hit_in hist groups read key spot
  hit_listed read key spot =
      get-from_entries spot_cmp_total (hits_of_run hist (read key) (run_of groups key)) spot
      ∙ find-chosen traced (λ pos event. option_map (values_at hist pos event) (read key pos)) pos_cmp_total pos_same (λ (s : Spot). s.pos) (λ s. eq_by_cmp nat_cmp s.maker 0) spot_cmp
      (λ s pos. sym (tied_then (pos_cmp s.pos pos) (nat_cmp s.maker 0))) spot (run_of groups key) (run_ascends key)

  -- at first none stands
  pub hits_none : (keys : List (List Part)) → keys ≡ groups.keys → (read : ReadBy) (hits : Hits) → hits ≡ map.empty
      → IsPut keys (λ key spot. None) (hit_in hist groups read) 0 (λ key spot. map.get hits (record { spot = spot; key = key }))
  hits_none keys are read hits empty key spot =
      ap (λ (hs : Hits). map.get hs (record { spot = spot; key = key })) empty
      ∙ get-empty _ _
      ∙ put_none hist groups of keys are (λ k s. None) (hit_in hist groups read)
      (λ k s none. sym (ap (λ run. hit_among read k s run) (no_run hist groups of keys are k none) ∙ cond_same (eq_by_cmp nat_cmp s.maker 0) None)) key spot
    where
      hit_among : ReadBy → List Part → Spot → List (Pos × Traced) → Option (List ℤ)
      hit_among r k s run = cond (eq_by_cmp nat_cmp s.maker 0) (option_and_then (λ event. option_map (values_at hist s.pos event) (r k s.pos)) (find pos_cmp s.pos run)) None

  saves_chosen : (id : ℕ) (run : List (Pos × Traced)) → saves_of_run id run ≡ chosen (λ pos. record { pos = pos; trigger = id }) (λ pos event. Some Save) run
  saves_chosen id [] = refl
  saves_chosen id (e ∷ run) = ap (λ es. (act_at id e, Save) ∷ es) (saves_chosen id run)

  pub save_listed : (id : ℕ) (key : List Part) (at : At) → map.get (map.from_entries {R = at_cmp} (saves_of_run id (run_of groups key))) at
      ≡ cond (eq_by_cmp nat_cmp at.trigger id) (option_and_then (λ event. Some Save) (event_in groups key at.pos)) None
  save_listed id key at =
      get-from_entries at_cmp_total (saves_of_run id (run_of groups key)) at
      ∙ ap (find at_cmp at) (saves_chosen id (run_of groups key))
      ∙ find-chosen {X = Traced} (λ pos. record { pos = pos; trigger = id }) (λ pos event. Some Save) pos_cmp_total pos_same (λ (q : At). q.pos) (λ q. eq_by_cmp nat_cmp q.trigger id) at_cmp
      (λ q pos. sym (tied_then (pos_cmp q.pos pos) (nat_cmp q.trigger id))) at (run_of groups key) (run_ascends key)

  -- ---- readings

  module _ (keys : List (List Part)) (are : keys ≡ groups.keys) where
    pub gathered_none : (read : ReadBy) → AreGathered (acts_with hist of.events) read keys 0 []
    gathered_none read pos = by (acts_with hist of.events pos) refl
      where
        left : (a : List Part × Traced) → acts_with hist of.events pos ≡ Some a → (b : Bool) → is_left keys 0 a.0 ≡ b → None ≡ cond b None (what_read (read a.0 pos))
        left a acting true is = refl
        left a acting false is = absurd (none_not_some (event_in groups a.0 pos) a.1 (ap (find pos_cmp pos) (no_run hist groups of keys are a.0 is)) (event_of a.0 pos ∙ ap (under a.0) acting ∙ under_own a))

        by : (o : Option (List Part × Traced)) → acts_with hist of.events pos ≡ o → None ≡ left_reading read keys 0 pos o
        by None acting = refl
        by (Some a) acting = left a acting (is_left keys 0 a.0) refl

    module _ (read : ReadBy) (n : ℕ) (k : List Part) (within : n < length keys) (is : k ≡ get_or keys n k) where
      -- with those of the next key
      pub gathered_more : (readings : List (Pos × Pos)) → AreGathered (acts_with hist of.events) read keys n readings
          → AreGathered (acts_with hist of.events) read keys (n + 1) (readings ++ readings_of_run (read k) (run_of groups k))
      gathered_more readings before pos =
          put_behind (eq_by_cmp pos_cmp) (λ _. None) readings (readings_of_run (read k) (run_of groups k)) pos
          ∙ put-chosen (λ place event. what_read (read k place)) pos_cmp_total pos_same (run_of groups k) (run_ascends k) (found_last readings) pos
          ∙ (λ i. option_or (Found (event_of k pos i)) (before pos i))
          ∙ by (acts_with hist of.events pos)
        where
          Found : Option Traced → Option Pos
          Found o = option_and_then (λ event. what_read (read k pos)) o

          none_else : (o : Option Pos) → option_or o None ≡ o
          none_else None = refl
          none_else (Some p) = refl

          by : (o : Option (List Part × Traced)) → option_or (Found (under k o)) (left_reading read keys n pos o) ≡ left_reading read keys (n + 1) pos o
          by None = refl
          by (Some a) = elim (key_decided k a.0) [
            | inl own ↦ subst (λ key. option_or (Found (under k (Some (key, a.1)))) (left_reading read keys n pos (Some (key, a.1))) ≡ left_reading read keys (n + 1) pos (Some (key, a.1))) own
                ((λ i. option_or (Found (under_own (k, a.1) i)) (cond (left_now hist groups of keys are n k within is i) None (what_read (read k pos))))
                ∙ none_else (what_read (read k pos))
                ∙ sym (ap (λ b. cond b None (what_read (read k pos))) (left_no_more hist groups of keys are n k within is)))
            | inr apart ↦
                ap (λ o. option_or (Found o) (left_reading read keys n pos (Some a))) (under_other k a apart)
                ∙ ap (λ b. cond b None (what_read (read a.0 pos))) (left_still hist groups of keys are n k within is a.0 (λ e. apart (sym e)))
          ]

-- ---- reads

either_and : (a b t : Bool) → ((a && t) || (b && t)) ≡ ((a || b) && t)
either_and a b t = grind arith

-- a read of a run stands at a place, if an event's place and the trigger's id are there
pub any_read : (id : ℕ) (q : At) (run : List (Pos × Traced)) → list_any (same_at q) (reads_of_run id run) ≡ (is_some (find pos_cmp q.pos run) && eq_by_cmp nat_cmp q.trigger id)
any_read id q run = by run ∙ ap (λ b. b && eq_by_cmp nat_cmp q.trigger id) (sym (is_some-find pos_cmp q.pos run))
  where
    by : (es : List (Pos × Traced)) → list_any (same_at q) (reads_of_run id es) ≡ (list_any (eq_by_cmp pos_cmp q.pos) (keys_of es) && eq_by_cmp nat_cmp q.trigger id)
    by [] = refl
    by (e ∷ es) =
        (λ i. sym (tied_then (pos_cmp q.pos e.0) (nat_cmp q.trigger id)) i || by es i)
        ∙ either_and (eq_by_cmp pos_cmp q.pos e.0) (list_any (eq_by_cmp pos_cmp q.pos) (keys_of es)) (eq_by_cmp nat_cmp q.trigger id)
