-- Replaying with made events comes apart: the held events go past as ever, and each trigger counts the made ones in order of their spots, to the tally of its hits among them.
use Rattle.std.proofs.Common.{◌≡◌, ℕ, Bool, true, false, cond, List, [], ◌∷◌, ◌++◌, map as list_map, refl, sym, ap, subst, ◌∙◌, Some, None, Option}
use Rattle.std.specs.Prelude.{fold, filter, filter_map, nat_lt, option_map, option_and_then, IfSome, is_some}
use Rattle.std.specs.List.{AllByRecursion, cons_option, flat_map, list_any}
use Rattle.std.specs.Option.{option_map_or}
use Rattle.std.specs.declared.cmp.Ordering.{Ordering}
use Rattle.std.specs.declared.cmp.Ordering.TheVariants.{Less}
use Rattle.std.specs.Ordering.{nat_cmp, eq_by_cmp, is_lt, ordering_reverse}
use Rattle.std.specs.Cmp.{IsTotalOrder, nat_cmp_total}
use Rattle.std.specs.FinMap as map
use Rattle.std.specs.FinMap.{find, get-entries, get-insert, nat_cmp-IsAntisymmetric, contains_key-keys, entries_sorted, get-from_entries, same_map}
use Rattle.std.specs.Map.{keys_of}
use Rattle.std.proofs.lemmas.Bool.{or_parts}
use Rattle.std.proofs.lemmas.Cmp.{tied_itself}
use Rattle.std.proofs.lemmas.List.{append_assoc}
use Rattle.std.proofs.lemmas.List.Elements.{filter_map-append}
use Rattle.std.proofs.lemmas.List.Sums.{fold-append}
use Rattle.ft_fields.specs.Traced.{Traced, name_of}
use Rattle.ft_fields.specs.declared.key.Part.{Part}
use Rattle.ft_fields.specs.declared.pos.Pos.{Pos}
use Rattle.ft_fields.specs.Places.{pos_cmp, pos_cmp_total}
use Rattle.ft_hist.specs.Hist.{Hist}
use Rattle.ft_hist.specs.Hit.{hit, same_name}
use Rattle.ft_hist.specs.Made.{made_of}
use Rattle.ft_hist.specs.Triggers.{Triggers}
use Rattle.ft_maps.specs.Entries.{get-insert_same, same_from_tie, strictly_sorted}
use Rattle.ft_maps.proofs.Common.{all_map}
use Rattle.ft_hits.specs.declared.spot.Spot.{Spot}
use Rattle.ft_hits.specs.declared.mark.Mark.{Mark}
use Rattle.ft_table.specs.Spots.{traced, spot_cmp, spot_cmp_total}
use Rattle.ft_table.specs.Values.{values_at}
use Rattle.ft_table.specs.Growth.{InGrows, RowsGrow, TotalsGrow}
use Rattle.ft_table.specs.Marks.{mark_cmp_total, mark_same}
use Rattle.ft_table.specs.Tabled.{Tabled}
use Rattle.ft_pairs.specs.declared.at.At.{At}
use Rattle.ft_pairs.specs.declared.role.Role.{Role}
use Rattle.ft_pairs.specs.declared.role.Variable.{Variable}
use Rattle.ft_base.specs.Roles.{role_of}
use Rattle.ft_base.proofs.Apart.{AreApart, entries_apart, entries_found}
use Rattle.ft_replay.specs.Merged.{Events}
use Rattle.ft_replay.specs.Found.{saving_found}
use Rattle.ft_replay.specs.Hits.{TriggerHit, state_before, found_at, read_as, hit_at, entry_of, pair_of, table_for}
use Rattle.ft_replay.specs.Named.{is_on, is_named, named}
use Rattle.ft_replay.specs.Replay.{State, Tallies, act_at, step, started, replay}
use Rattle.ft_replay.specs.Tally.{Tally, empty_tally, tally_of}
use Rattle.ft_replay.proofs.Naming.{is_kept, entries-named}
use Rattle.ft_replay.proofs.OneByOne.{started-is}
use Rattle.ft_replay.proofs.Reached.{lower-is, earlier-entries}
use Rattle.ft_replay.proofs.Counted.{counted}
use Rattle.ft_replay.proofs.Listed.{Ascend, hit_in, made_ascend, made_in, find-entries, values_under}
use Rattle.ft_replay.proofs.Tallied.{counted-tally}
use Rattle.ft_made.specs.Making.{saving_read, made_now, tell_made, count_made, count_at, goes_past}
use Rattle.ft_made.specs.ReplayMaking.{StateMaking, act_making, step_making, replay_making}
use Rattle.ft_made.specs.MadeEvents.{made_at, made_there, spots_at, spots, made_list, made_events}
use Rattle.ft_made.specs.Laws.{HeldAreCounted, MadeAreCounted, MakeNone, OthersCountNone, KeptAreTallied, MadeAreTallied, ReadingsAreTallied, TablesAreTallied}
use Rattle.ft_made.specs.MadeHits.{made_hit, made_hit_at, made_hits, made_hits_of, values_made, values_of_made}
use Rattle.ft_made.proofs.Order.{entries-made, none_behind, spot_at, get-made}
use Rattle.ft_made.proofs.Same.{none_makes, made_found}
use Rattle.ft_made.proofs.Views.{seen_fold, fold_option, only_some}
use Rattle.ft_made.proofs.MadeTables.{hit_under}

-- ---- the entries in front of one

module _ {K X : Type 0} (R : K → K → Ordering) (total : IsTotalOrder R) where
  abbrev below : K → K × X → Bool
  below k e = is_lt (R e.0 k)

  none_below : (k : K) (es : List (K × X)) → AllByRecursion (λ q. R k q.0 ≡ Less) es → filter (below k) es ≡ []
  none_below k [] h = refl
  none_below k (e ∷ es) h =
      ap (λ o. cond (is_lt o) (e ∷ filter (below k) es) (filter (below k) es)) (total.antisymm e.0 k ∙ ap ordering_reverse h.0)
      ∙ none_below k es h.1

  head_less : (d : K × X) (front : List (K × X)) (e : K × X) (rest : List (K × X)) → AllByRecursion (λ q. R d.0 q.0 ≡ Less) (front ++ e ∷ rest) → R d.0 e.0 ≡ Less
  head_less d [] e rest h = h.0
  head_less d (f ∷ front) e rest h = head_less d front e rest h.1

  front-is : (front : List (K × X)) (e : K × X) (rest : List (K × X)) → AreApart R (front ++ e ∷ rest) → filter (below e.0) (front ++ e ∷ rest) ≡ front
  front-is [] e rest h =
      ap (λ o. cond (is_lt o) (e ∷ filter (below e.0) rest) (filter (below e.0) rest)) (tied_itself total e.0)
      ∙ none_below e.0 rest h.0
  front-is (d ∷ front) e rest h =
      ap (λ o. cond (is_lt o) (d ∷ filter (below e.0) (front ++ e ∷ rest)) (filter (below e.0) (front ++ e ∷ rest))) (head_less d front e rest h.0)
      ∙ ap (λ (xs : List (K × X)). d ∷ xs) (front-is front e rest h.1)

-- ---- the state at a trigger's turn is what the events and triggers in front come to

module _ (triggers : Triggers) where
  abbrev begin : State
  begin = record { tallies = started triggers; variables = map.empty }

  before-is : (events : Events) (past : List (Pos × Traced)) (e : Pos × Traced) (later : List (Pos × Traced)) (done : List (ℕ × Hist)) (t : ℕ × Hist) (rest : List (ℕ × Hist))
      → map.entries events ≡ past ++ e ∷ later → map.entries triggers ≡ done ++ t ∷ rest → map.get events e.0 ≡ Some e.1
      → state_before triggers events (record { pos = e.0; trigger = t.0 }) ≡ fold (act_at triggers e) (fold (step triggers) begin past) done
  unfolding state_before replay
  before-is events past e later done t rest whole all there =
      ap (λ o. option_map_or (λ event. fold (act_at triggers (e.0, event)) (replay triggers (map.retain_keys events (λ place. is_lt (pos_cmp place e.0)))) (filter (λ attached. nat_lt attached.0 t.0) (map.entries triggers))) o
      (replay triggers (map.retain_keys events (λ place. is_lt (pos_cmp place e.0))))) there
      ∙ ap (λ es. fold (act_at triggers e) (fold (step triggers) begin es) (filter (λ attached. nat_lt attached.0 t.0) (map.entries triggers)))
      (earlier-entries triggers (record { pos = e.0; trigger = t.0 }) events ∙ ap (filter (below pos_cmp pos_cmp_total e.0)) whole
      ∙ front-is pos_cmp pos_cmp_total past e later (subst (AreApart pos_cmp) whole (entries_apart pos_cmp events)))
      ∙ ap (fold (act_at triggers e) (fold (step triggers) begin past))
      (ap (λ (p : ℕ × Hist → Bool). filter p (map.entries triggers)) (λ i attached. sym (lower-is attached.0 t.0) i)
      ∙ ap (filter (below nat_cmp nat_cmp_total t.0)) all ∙ front-is nat_cmp nat_cmp_total done t rest (subst (AreApart nat_cmp) all (entries_apart nat_cmp triggers)))

-- ---- what a turn makes

-- a hit's saving is what it read
saved_is : (f : Option Pos → TriggerHit) → ((saved : Option Pos) → (f saved).saved ≡ saved) → (o : Option (Option Pos)) → option_and_then (λ (h : TriggerHit). h.saved) (option_map f o) ≡ option_and_then (λ saved. saved) o
saved_is f same None = refl
saved_is f same (Some saved) = same saved

module _ (triggers : Triggers) (events : Events) (e : Pos × Traced) (t : ℕ × Hist) (there : map.get events e.0 ≡ Some e.1) (attached : map.get triggers t.0 ≡ Some t.1) where
  abbrev at : At
  at = record { pos = e.0; trigger = t.0 }

  abbrev spot : Spot
  spot = record { pos = e.0; maker = t.0 }

  abbrev role : Role
  role = role_of triggers t.1.variable

  abbrev found : Variable → Option Pos
  found variable = found_at triggers events variable at

  saving-is : saving_found triggers events t.0 e.0 ≡ option_and_then (saving_read role found) (hit t.1 e.1)
  unfolding saving_found hit_at
  saving-is = rw (there, attached) elim (hit t.1 e.1) as (λ o. option_and_then (λ (h : TriggerHit). h.saved) (option_and_then (λ key.
      option_map (λ saved. record { spot = traced e.0; key = key; saved = saved; values = values_at t.1 e.0 e.1 saved }) (read_as role found key)) o) ≡ option_and_then (saving_read role found) o) [
        | None ↦ refl
        | Some key ↦ saved_is _ (λ saved. refl) (read_as role found key)
      ]

  made_at-is : made_at triggers events spot ≡ option_and_then (made_of t.1 e.0 e.1) (option_and_then (saving_read role found) (hit t.1 e.1))
  unfolding made_at
  made_at-is = rw (there, attached) (ap (option_and_then (made_of t.1 e.0 e.1)) saving-is)

  -- if the turn finds what stands in front, it makes what is made there
  made_now-is : (state : State) → state ≡ state_before triggers events at → made_now triggers (map.get state.variables) e t ≡ made_there triggers events spot
  made_now-is state before =
      ap (λ (s : State). made_now triggers (map.get s.variables) e t) before
      ∙ ap (option_map (λ made. (spot, made))) (sym made_at-is)

-- ---- the held events

abbrev first_of : StateMaking → State
first_of state = state.first

module _ (triggers : Triggers) where
  first_step : (state : StateMaking) (e : Pos × Traced) → first_of (step_making triggers state e) ≡ step triggers (first_of state) e
  unfolding act_making step_making step
  first_step state e = seen_fold first_of (act_making triggers e) (act_at triggers e) (λ so_far t. refl) state (map.entries triggers)

pub first-is : HeldAreCounted
unfolding replay_making replay
first-is triggers events = seen_fold first_of (step_making triggers) (step triggers) (first_step triggers) _ (map.entries events)

-- ---- the made events

module _ (triggers : Triggers) (events : Events) where
  abbrev there_of : Spot → Option (Spot × Traced)
  there_of = made_there triggers events

  module _ (past : List (Pos × Traced)) (e : Pos × Traced) (later : List (Pos × Traced)) (whole : map.entries events ≡ past ++ e ∷ later) (there : map.get events e.0 ≡ Some e.1) where
    one_event : (done rest : List (ℕ × Hist)) → map.entries triggers ≡ done ++ rest → AllByRecursion (λ t. map.get triggers t.0 ≡ Some t.1) rest
        → (state : StateMaking) → state.first ≡ fold (act_at triggers e) (fold (step triggers) (begin triggers) past) done
        → (fold (act_making triggers e) state rest).made ≡ fold (goes_past triggers) state.made (filter_map there_of (list_map (spot_at e) rest))
    unfolding act_making
    one_event done [] all attached state before = refl
    one_event done (t ∷ rest) all attached state before =
        one_event (done ++ t ∷ []) rest (all ∙ sym (append_assoc done (t ∷ []) rest)) attached.1 (act_making triggers e state t)
        (ap (λ s. act_at triggers e s t) before ∙ sym (fold-append (act_at triggers e) (fold (step triggers) (begin triggers) past) done (t ∷ [])))
        ∙ ap (λ (o : Option (Spot × Traced)). fold (goes_past triggers) (option_map_or (goes_past triggers state.made) o state.made) (filter_map there_of (list_map (spot_at e) rest)))
        (made_now-is triggers events e t there attached.0 state.first (before ∙ sym (before-is triggers events past e later done t rest whole all there)))
        ∙ fold_option (goes_past triggers) state.made (there_of (spot_at e t)) (filter_map there_of (list_map (spot_at e) rest))

  all_events : (past rest : List (Pos × Traced)) → map.entries events ≡ past ++ rest → AllByRecursion (λ e. map.get events e.0 ≡ Some e.1) rest
      → (state : StateMaking) → state.first ≡ fold (step triggers) (begin triggers) past
      → (fold (step_making triggers) state rest).made ≡ fold (goes_past triggers) state.made (filter_map there_of (flat_map (spots_at triggers) rest))
  unfolding step_making
  all_events past [] whole there state before = refl
  all_events past (e ∷ rest) whole there state before =
      all_events (past ++ e ∷ []) rest (whole ∙ sym (append_assoc past (e ∷ []) rest)) there.1 (step_making triggers state e)
      (first_step triggers state e ∙ ap (λ s. step triggers s e) before ∙ sym (fold-append (step triggers) (begin triggers) past (e ∷ [])))
      ∙ ap (λ m. fold (goes_past triggers) m (filter_map there_of (flat_map (spots_at triggers) rest)))
      (one_event past e rest whole there.0 [] (map.entries triggers) refl (entries_found nat_cmp nat_cmp_total triggers) state before)
      ∙ sym (fold-append (goes_past triggers) state.made (filter_map there_of (spots_at triggers e)) (filter_map there_of (flat_map (spots_at triggers) rest)))
      ∙ ap (fold (goes_past triggers) state.made) (sym (filter_map-append there_of (spots_at triggers e) (flat_map (spots_at triggers) rest)))

  -- the tallies of made events are those of their list, in order
  made-is : (replay_making triggers events).made ≡ fold (goes_past triggers) (started triggers) (made_list triggers events)
  unfolding replay_making made_list spots
  made-is = all_events [] (map.entries events) refl (entries_found pos_cmp pos_cmp_total events) _ refl

-- ---- if none is made

module _ (triggers : Triggers) (events : Events) (none : MakeNone triggers) where
  none_listed : (all : List Spot) → filter_map (made_there triggers events) all ≡ []
  unfolding made_at
  none_listed [] = refl
  none_listed (spot ∷ all) =
      ap (λ o. cons_option (option_map (λ made. (spot, made)) o) (filter_map (made_there triggers events) all)) (none_makes triggers events spot none (saving_found triggers events spot.maker spot.pos))
      ∙ none_listed all

  pub none-made : (replay_making triggers events).made ≡ started triggers
  unfolding made_list
  none-made = made-is triggers events ∙ ap (fold (goes_past triggers) (started triggers)) (none_listed (spots triggers events))

-- ---- an event changes nothing if no trigger is on its name

module _ (triggers : Triggers) where
  idle : (entry : Pos × Traced) (state : StateMaking) (attached : ℕ × Hist) → same_name attached.1.event (name_of entry.1.body) ≡ false → act_making triggers entry state attached ≡ state
  unfolding act_making act_at
  idle entry state attached other = rw other

  all_idle : (entry : Pos × Traced) (state : StateMaking) (ts : List (ℕ × Hist)) → list_any (λ attached. same_name attached.1.event (name_of entry.1.body)) ts ≡ false → fold (act_making triggers entry) state ts ≡ state
  all_idle entry state [] none = refl
  all_idle entry state (t ∷ ts) none =
      let here = same_name t.1.event (name_of entry.1.body) in
      let rest = list_any (λ (attached : ℕ × Hist). same_name attached.1.event (name_of entry.1.body)) ts in
      ap (λ (s : StateMaking). fold (act_making triggers entry) s ts) (idle entry state t (or_parts here rest none).0)
      ∙ all_idle entry state ts (or_parts here rest none).1

  unnamed_step : (state : StateMaking) (entry : Pos × Traced) → is_named triggers entry.1 ≡ false → step_making triggers state entry ≡ state
  unfolding step_making is_on
  unnamed_step state entry none = all_idle entry state (map.entries triggers) none

  some_named : (state : StateMaking) (es : List (Pos × Traced)) → fold (step_making triggers) state (filter (is_kept triggers) es) ≡ fold (step_making triggers) state es
  some_named state [] = refl
  some_named state (e ∷ es) =
      elim (is_kept triggers e) as (λ b. is_kept triggers e ≡ b → fold (step_making triggers) state (cond b (e ∷ filter (is_kept triggers) es) (filter (is_kept triggers) es)) ≡ fold (step_making triggers) (step_making triggers state e) es) [
        | true ↦ λ is. some_named (step_making triggers state e) es
        | false ↦ λ is. some_named state es ∙ ap (λ (s : StateMaking). fold (step_making triggers) s es) (sym (unnamed_step state e is))
      ] refl

  pub making-named : (events : Events) → replay_making triggers (named triggers events) ≡ replay_making triggers events
  unfolding replay_making
  making-named events = ap (fold (step_making triggers) _) (entries-named triggers events) ∙ some_named _ (map.entries events)

-- ---- what each trigger counts of the made events

option_same : {X : Type 0} (o : Option X) → o ≡ option_map (λ (x : X). x) o
option_same None = refl
option_same (Some x) = refl

module _ (made : Spot × Traced) where
  -- ---- a made event at one trigger

  abbrev told : Tallies → ℕ × Hist → List Part → Tally → Tallies
  told m t key tally = map.insert m t.0 (tell_made t.1 made key tally)

  own_tally : (m : Tallies) (t : ℕ × Hist) → map.get (count_at made m t) t.0 ≡ option_map (λ tally. count_made t.1 tally made) (map.get m t.0)
  unfolding count_at
  own_tally m t = elim (hit t.1 made.1) as (λ o. map.get (option_map_or (λ key. option_map_or (told m t key) (map.get m t.0) m) o m) t.0
      ≡ option_map (λ tally. option_map_or (λ key. tell_made t.1 made key tally) o tally) (map.get m t.0)) [
        | None ↦ option_same (map.get m t.0)
        | Some key ↦ elim (map.get m t.0) as (λ o. map.get m t.0 ≡ o → map.get (option_map_or (told m t key) o m) t.0 ≡ option_map (λ tally. tell_made t.1 made key tally) o) [
          | None ↦ λ none. none
          | Some tally ↦ λ _. get-insert_same nat_cmp_total m t.0 _
        ] refl
      ]

  other_tally : (q : ℕ) (m : Tallies) (t : ℕ × Hist) → eq_by_cmp nat_cmp q t.0 ≡ false → map.get (count_at made m t) q ≡ map.get m q
  unfolding count_at
  other_tally q m t other = elim (hit t.1 made.1) as (λ o. map.get (option_map_or (λ key. option_map_or (told m t key) (map.get m t.0) m) o m) q ≡ map.get m q) [
    | None ↦ refl
    | Some key ↦ elim (map.get m t.0) as (λ o. map.get (option_map_or (told m t key) o m) q ≡ map.get m q) [
      | None ↦ refl
      | Some tally ↦ (let told_so : Tally = tell_made t.1 made key tally in
          get-insert nat_cmp_total m t.0 told_so q ∙ ap (λ b. cond b (Some told_so) (map.get m q)) other)
    ]
  ]

  -- ---- a made event at all triggers

  -- what a trigger's tally becomes, if it has one
  abbrev counts : Option Tally → Hist → Option Tally
  counts tally hist = option_map (λ so_far. count_made hist so_far made) tally

  all_count : (q : ℕ) (m : Tallies) (ts : List (ℕ × Hist)) → AreApart nat_cmp ts
      → map.get (fold (count_at made) m ts) q ≡ option_map_or (counts (map.get m q)) (find nat_cmp q ts) (map.get m q)
  all_count q m [] apart = refl
  all_count q m (t ∷ ts) apart =
      let come_to : Option Tally → Option Hist → Option Tally = λ tally hist. option_map_or (counts tally) hist tally in
      all_count q (count_at made m t) ts apart.1
      ∙ elim (eq_by_cmp nat_cmp q t.0) as (λ b. eq_by_cmp nat_cmp q t.0 ≡ b
      → come_to (map.get (count_at made m t) q) (find nat_cmp q ts) ≡ come_to (map.get m q) (cond b (Some t.1) (find nat_cmp q ts))) [
        | true ↦ λ tie.
            let is : q ≡ t.0 = same_from_tie nat_cmp-IsAntisymmetric q t.0 tie in
            ap (come_to (map.get (count_at made m t) q)) (none_behind nat_cmp q t ts is apart.0)
            ∙ subst (λ k. map.get (count_at made m t) k ≡ counts (map.get m k) t.1) (sym is) (own_tally m t)
        | false ↦ λ other. ap (λ tally. come_to tally (find nat_cmp q ts)) (other_tally q m t other)
      ] refl

-- ---- all made events

module _ (triggers : Triggers) where
  once : (x : Spot × Traced) (q : ℕ) (m : Tallies) → map.get (goes_past triggers m x) q ≡ option_map_or (counts x (map.get m q)) (map.get triggers q) (map.get m q)
  unfolding goes_past
  once x q m = all_count x q m (map.entries triggers) (entries_apart nat_cmp triggers) ∙ ap (λ o. option_map_or (counts x (map.get m q)) o (map.get m q)) (sym (get-entries triggers q))

  -- a trigger that has a tally counts them one by one
  all_told : (q : ℕ) (hist : Hist) → map.get triggers q ≡ Some hist → (m : Tallies) (tally : Tally) → map.get m q ≡ Some tally
      → (xs : List (Spot × Traced)) → map.get (fold (goes_past triggers) m xs) q ≡ Some (fold (count_made hist) tally xs)
  all_told q hist attached m tally has [] = has
  all_told q hist attached m tally has (x ∷ xs) =
      all_told q hist attached (goes_past triggers m x) (count_made hist tally x) (once x q m ∙ (λ i. option_map_or (counts x (has i)) (attached i) (has i))) xs

  none_told : (q : ℕ) → map.get triggers q ≡ None → (m : Tallies) (xs : List (Spot × Traced)) → map.get (fold (goes_past triggers) m xs) q ≡ map.get m q
  none_told q none m [] = refl
  none_told q none m (x ∷ xs) = none_told q none (goes_past triggers m x) xs ∙ once x q m ∙ ap (λ o. option_map_or (counts x (map.get m q)) o (map.get m q)) none

pub made_count : MadeAreCounted
made_count triggers events id hist attached =
    ap (λ (m : Tallies). map.get m id) (made-is triggers events)
    ∙ all_told triggers id hist attached (started triggers) empty_tally (started-is triggers events id ∙ ap (option_map (λ hist. empty_tally)) attached) (made_list triggers events)
    ∙ ap (λ (xs : List (Spot × Traced)). Some (fold (count_made hist) empty_tally xs)) (sym (entries-made triggers events))

pub made_none : OthersCountNone
made_none triggers events id none =
    ap (λ (m : Tallies). map.get m id) (made-is triggers events)
    ∙ none_told triggers id none (started triggers) (made_list triggers events)
    ∙ started-is triggers events id
    ∙ ap (option_map (λ hist. empty_tally)) none

module _ (triggers : Triggers) (events : Events) (hist : Hist) where
  abbrev hit_of : Spot → Option TriggerHit
  hit_of = made_hit_at triggers events hist

  -- ---- where the hits stand

  -- what holds of a hit of every key holds of the hit at a spot
  each_hit : (P : TriggerHit → Type 0) (s : Spot) → ((event : Traced) (key : List Part) → P (hit_under hist s event key)) → IfSome (hit_of s) P
  unfolding made_hit_at
  each_hit P s h = elim (made_at triggers events s) as (λ o. IfSome (option_and_then (made_hit hist s) o) P) [
    | None ↦ tt
    | Some event ↦ elim (hit hist event) as (λ o. IfSome (option_map (hit_under hist s event) o) P) [ None ↦ tt | Some key ↦ h event key ]
  ]

  hit-spot : (s : Spot) → IfSome (hit_of s) (λ found. found.spot ≡ s)
  hit-spot s = each_hit (λ found. found.spot ≡ s) s (λ event key. refl)

  hits_ascend : Ascend (made_hits triggers events hist)
  unfolding made_hits
  hits_ascend = made_ascend hit_of hit-spot (map.keys (made_events triggers events)) (strictly_sorted spot_cmp (map.entries (made_events triggers events)) (entries_sorted (made_events triggers events)))

  -- ---- what is found among them

  hit_in-hits : (s : Spot) → hit_in (made_hits triggers events hist) s ≡ hit_of s
  unfolding made_hits made_hit_at
  hit_in-hits s =
      made_in hit_of hit-spot s (map.keys (made_events triggers events))
      ∙ ap (λ b. cond b (hit_of s) None) (sym (contains_key-keys (made_events triggers events) s) ∙ ap is_some (get-made triggers events s))
      ∙ only_some (made_hit hist s) (made_at triggers events s)

  -- the map of the hits holds what each of them adds
  pub get-made_hits_of : (m : Mark) → map.get (made_hits_of triggers events hist) m ≡ values_made triggers events hist m
  unfolding made_hits_of values_made made_hit_at
  get-made_hits_of m =
      get-from_entries mark_cmp_total (list_map entry_of (made_hits triggers events hist)) m
      ∙ find-entries m (made_hits triggers events hist) hits_ascend ∙ ap (values_under m.key) (hit_in-hits m.spot)

  -- ---- what they come to

  one_counted : (tally : Tally) (e : Spot × Traced) → made_at triggers events e.0 ≡ Some e.1 → count_made hist tally e ≡ option_map_or (counted hist.size tally) (hit_of e.0) tally
  unfolding made_hit_at
  one_counted tally e there =
      elim (hit hist e.1) as (λ o. option_map_or (λ key. tell_made hist e key tally) o tally ≡ option_map_or (counted hist.size tally) (option_map (hit_under hist e.0 e.1) o) tally) [ None ↦ refl | Some key ↦ refl ]
      ∙ ap (λ o. option_map_or (counted hist.size tally) (option_and_then (made_hit hist e.0) o) tally) (sym there)

  all_counted : (tally : Tally) (es : List (Spot × Traced)) → AllByRecursion (λ e. made_at triggers events e.0 ≡ Some e.1) es
      → fold (count_made hist) tally es ≡ fold (counted hist.size) tally (filter_map hit_of (keys_of es))
  all_counted tally [] there = refl
  all_counted tally (e ∷ es) there =
      all_counted (count_made hist tally e) es there.1
      ∙ ap (λ t. fold (counted hist.size) t (filter_map hit_of (keys_of es))) (one_counted tally e there.0)
      ∙ fold_option (counted hist.size) tally (hit_of e.0) (filter_map hit_of (keys_of es))

  -- they read nothing, so they have no pairs
  no_pairs : (spots : List Spot) → filter_map pair_of (filter_map hit_of spots) ≡ []
  no_pairs [] = refl
  no_pairs (s ∷ spots) = elim (hit_of s) as (λ o. IfSome o (λ found. found.saved ≡ None) → filter_map pair_of (cons_option o (filter_map hit_of spots)) ≡ []) [
    | None ↦ λ _. no_pairs spots
    | Some found ↦ λ is.
        ap (λ (saved : Option Pos). cons_option (option_map (λ place. record { saved = place; read = found.spot.pos }) saved) (filter_map pair_of (filter_map hit_of spots))) is
        ∙ no_pairs spots
  ] (each_hit (λ found. found.saved ≡ None) s (λ event key. refl))

-- ---- the tallies of attached triggers

module _ (rows : RowsGrow) (totals : TotalsGrow) (members : InGrows) where
  -- what a trigger counts is the tally of its hits among the made events
  pub tally-made : MadeAreTallied
  unfolding made_hits made_hits_of
  tally-made triggers events id hist attached =
      made_count triggers events id hist attached
      ∙ ap Some (all_counted triggers events hist empty_tally (map.entries (made_events triggers events))
      (all_map _ _ (λ e found. sym (get-made triggers events e.0) ∙ found) (map.entries (made_events triggers events)) (entries_found spot_cmp spot_cmp_total (made_events triggers events)))
      ∙ counted-tally rows totals members hist.size (made_hits triggers events hist) (hits_ascend triggers events hist)
      ∙ ap (tally_of (table_for hist (made_hits_of triggers events hist))) (no_pairs triggers events hist (map.keys (made_events triggers events))))

  -- and so the tally of a map with the right look-ups
  pub tally-made_kept : KeptAreTallied
  tally-made_kept triggers events id hist attached values is =
      tally-made triggers events id hist attached
      ∙ ap (λ hits. Some (tally_of (table_for hist hits) [])) (same_map mark_cmp_total mark_same _ _ (λ m. get-made_hits_of triggers events hist m ∙ sym (is m)))

  -- and that of a map that holds what the events made of the readings add
  pub tally-made_found : ReadingsAreTallied
  unfolding values_made
  tally-made_found triggers events found are id hist attached values is =
      tally-made_kept triggers events id hist attached values (λ m. is m ∙ ap (values_of_made hist m) (made_found triggers events found are m.spot))

  -- and that of a table that holds just this
  pub tally-made_table : TablesAreTallied
  tally-made_table triggers events found are id hist attached table is =
      tally-made_found triggers events found are id hist attached table.hits is.hits
      ∙ ap (λ (n : ℕ). let same : Tabled = record { hits = table.hits; size = n } in Some (tally_of same [])) (sym is.size)
