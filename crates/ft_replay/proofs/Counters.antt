-- Replaying counter by counter is replaying tally by tally.
use Rattle.std.proofs.Common.{◌≡◌, ℕ, Bool, true, false, cond, List, [], ◌∷◌, refl, sym, ap, subst, ◌∙◌, Some, None, Option, if◌then◌else◌, eqb-true}
use Rattle.std.specs.Prelude.{ℤ, ◌==◌, fold, option_map, option_and_then, unwrap_or, IsSome}
use Rattle.std.specs.Option.{option_map_or}
use Rattle.std.specs.Ordering.{nat_cmp, eq_by_cmp}
use Rattle.std.specs.Cmp.{nat_cmp_total}
use Rattle.std.specs.List.{AllByRecursion}
use Rattle.std.specs.List.Sorted.{IsStrictlySortedBy}
use Rattle.std.specs.Map.{keys_of}
use Rattle.std.specs.FinMap as map
use Rattle.std.specs.FinMap.{FinMap, find, get-insert, get-empty, get-entries, entries_sorted, nat_cmp-IsAntisymmetric}
use Rattle.std.proofs.lemmas.Map.Keys.{sorted_tail}
use Rattle.ft_fields.specs.Traced.{Traced}
use Rattle.ft_fields.specs.Places.{pos_cmp, pos_cmp_total}
use Rattle.ft_fields.specs.declared.pos.Pos.{Pos}
use Rattle.ft_hist.specs.Hist.{Hist}
use Rattle.ft_hist.specs.Hit.{hit}
use Rattle.ft_fields.specs.declared.key.Part.{Part}
use Rattle.ft_maps.specs.Entries.{strictly_sorted, insert_same}
use Rattle.ft_maps.specs.Mapped.{map_by, map_by-insert, map_by-empty, get-map_by}
use Rattle.ft_maps.proofs.Common.{all_map}
use Rattle.ft_pairs.specs.declared.at.At.{At}
use Rattle.ft_table.specs.Growth.{ComesLast, InGrows, RowsGrow, TotalsGrow, with_hit}
use Rattle.ft_table.specs.Marks.{mark_cmp}
use Rattle.ft_table.specs.Tabled.{is_in}
use Rattle.ft_hits.specs.declared.mark.Mark.{Mark}
use Rattle.ft_lanes.specs.Held.{Lanes, event_at}
use Rattle.ft_table.specs.Spots.{traced}
use Rattle.ft_base.specs.Base.{Triggers}
use Rattle.ft_replay.specs.Merged.{Events, merged, held_at}
use Rattle.ft_replay.specs.Replay.{State, act_as, act, act_at, step, started, replay, growth_by}
use Rattle.ft_table.specs.Values.{values_at}
use Rattle.ft_base.specs.Roles.{role_of}
use Rattle.ft_replay.specs.Counters.{Counting, Counters, tally_in, HasCounter, HaveCounters}
use Rattle.ft_replay.specs.inner.Replaying.{Saved, state_in, new_counter, with_counter, new_counters, counter_with, after_hit, after_act, AllBefore}
use Rattle.ft_replay.specs.Tally.{Tally, empty_tally, has_place, tell}
use Rattle.ft_pairs.specs.declared.role.Role.{Role}
use Rattle.ft_pairs.specs.declared.role.Role.TheVariants.{Plain, Saves, Reads}
use Rattle.ft_pairs.specs.declared.role.Variable.{Variable}
use Rattle.ft_replay.proofs.Counting.{after_act-no_hit, after_act-hit}
use Rattle.ft_base.proofs.Apart.{entries_found}
use Rattle.ft_replay.proofs.Growing.{place_is_counted, in_where_counted, tally_grows_with, tally-empty}
use Rattle.ft_replay.proofs.Standing.{comes_last, none_before, each_counter}
use Rattle.ft_replay.proofs.Places.{merged_at, none_later}

-- ---- the outcomes of one event at one attached trigger

module _ (triggers : Triggers) (entry : Pos × Traced) (state : State) (id : ℕ) (hist : Hist) where
  abbrev acting : List Part → State
  acting key = act hist.size (role_of triggers hist.variable) (growth_by hist entry.0 entry.1 key) state (record { pos = entry.0; trigger = id }) key

  pub act_at-no_hit : hit hist entry.1 ≡ None → act_at triggers entry state (id, hist) ≡ state
  unfolding act_at
  act_at-no_hit none = ap (λ o. option_map_or acting o state) none

  pub act_at-hit : (key : List Part) (tally : Tally) → hit hist entry.1 ≡ Some key → map.get state.tallies id ≡ Some tally
      → act_at triggers entry state (id, hist) ≡ act_as hist.size (growth_by hist entry.0 entry.1 key) (role_of triggers hist.variable) state (record { pos = entry.0; trigger = id }) key tally
  unfolding act_at act
  act_at-hit key tally is has =
      ap (λ o. option_map_or acting o state) is
      ∙ ap (λ o. option_map_or (act_as hist.size (growth_by hist entry.0 entry.1 key) (role_of triggers hist.variable) state (record { pos = entry.0; trigger = id }) key) o state) has

module _ (rows : RowsGrow) (totals : TotalsGrow) (members : InGrows) where
  -- ---- a hit

  module _ (hist : Hist) (event : Traced) (at : At) (key : List Part) (counter : Counting) (last : ComesLast counter.table (record { spot = traced at.pos; key = key })) where
    abbrev mark : Mark
    mark = record { spot = traced at.pos; key = key }

    abbrev values : Option Pos → List ℤ
    values = values_at hist at.pos event

    -- the counter's tally is told of the hit
    tells : (read : Option Pos) → tally_in (counter_with mark read (values read) counter) ≡ tell counter.table.size (growth_by hist at.pos event key) at.pos key read (tally_in counter)
    tells read = tally_grows_with rows totals members counter.table mark (values read) last at.pos read counter.pairs

    -- its key is then in the table exactly if the hit had a place
    admits : is_in (with_hit counter.table mark (values None)) key ≡ has_place counter.table.size (tally_in counter).table key
    admits = in_where_counted rows totals members counter.table mark (values None) last ∙ sym (place_is_counted counter.table counter.pairs key)

    -- the state after a hit, by the counter and the variables that it leaves
    abbrev state_with : State → Counting × Saved → State
    state_with state after = record { tallies = map.insert state.tallies at.trigger (tally_in after.0); variables = after.1 }

    module _ (state : State) (has : map.get state.tallies at.trigger ≡ Some (tally_in counter)) where
      abbrev acts_as : Role → State
      acts_as role = act_as counter.table.size (growth_by hist at.pos event key) role state at key (tally_in counter)

      hit-acts : (role : Role) → state_with state (after_hit values role at key (counter, state.variables)) ≡ acts_as role
      hit-acts Plain = ap (λ (t : Tally). record state { tallies = map.insert state.tallies at.trigger t }) (tells None)
      hit-acts Saves = λ i. record {
        tallies = map.insert state.tallies at.trigger (tells None i);
        variables = if admits i then map.insert state.variables (record { saver = at.trigger; key = key }) at.pos else state.variables;
      }
      hit-acts (Reads saver) =
          let variable : Variable = record { saver = saver; key = key } in
          elim (map.get state.variables variable) as (λ o. map.get state.variables variable ≡ o → state_with state (after_hit values (Reads saver) at key (counter, state.variables)) ≡ acts_as (Reads saver)) [
            | None ↦ λ none. rw none (ap (λ tallies. record state { tallies = tallies }) (insert_same nat_cmp_total nat_cmp-IsAntisymmetric state.tallies at.trigger (tally_in counter) has))
            | Some place ↦ λ is. rw is (ap (λ (t : Tally). record { tallies = map.insert state.tallies at.trigger t; variables = map.remove state.variables variable }) (tells (Some place)))
          ] refl

  -- ---- an event

  -- one event at one attached trigger, whose hits stand before
  pub after_act-acts : (triggers : Triggers) (hist : Hist) (event : Traced) (at : At) (counters : Counters) (saved : Saved)
      → map.get triggers at.trigger ≡ Some hist → HaveCounters triggers counters → AllBefore at counters
      → state_in (after_act hist event at (counters, saved)) ≡ act_at triggers (at.pos, event) (state_in (counters, saved)) (at.trigger, hist)
  after_act-acts triggers hist event at counters saved attached complete before =
      let state : State = state_in (counters, saved) in
      let has : HasCounter triggers counters at.trigger hist = complete at.trigger hist attached in
      let counter : Counting = has.counter in
      elim (hit hist event) as (λ h. hit hist event ≡ h → state_in (after_act hist event at (counters, saved)) ≡ act_at triggers (at.pos, event) state (at.trigger, hist)) [
        | None ↦ λ none. ap state_in (after_act-no_hit hist event at counters saved none) ∙ sym (act_at-no_hit triggers (at.pos, event) state at.trigger hist none)
        | Some key ↦ λ is.
            let after : Counting × Saved = after_hit (values_at hist at.pos event) counter.role at key (counter, saved) in
            let told : map.get state.tallies at.trigger ≡ Some (tally_in counter) = get-map_by tally_in nat_cmp_total counters at.trigger ∙ ap (option_map tally_in) has.there in
            ap state_in (after_act-hit hist event at counters saved key counter is has.there)
            ∙ ap (λ tallies. record { tallies = tallies; variables = after.1 }) (map_by-insert tally_in nat_cmp_total nat_cmp-IsAntisymmetric counters at.trigger after.0)
            ∙ hit-acts hist event at key counter (comes_last at counters before counter key has.there) state told counter.role
            ∙ (λ i. act_as (has.suits.size i) (growth_by hist at.pos event key) (has.suits.role i) state at key (tally_in counter))
            ∙ sym (act_at-hit triggers (at.pos, event) state at.trigger hist key (tally_in counter) is told)
      ] refl

-- ---- the folds that are walked

pub step-fold : (triggers : Triggers) (state : State) (entry : Pos × Traced) → fold (act_at triggers entry) state (map.entries triggers) ≡ step triggers state entry
unfolding step
step-fold triggers state entry = refl

pub replay-fold : (triggers : Triggers) (events m : Events) → m ≡ events → fold (step triggers) (record { tallies = started triggers; variables = map.empty }) (map.entries m) ≡ replay triggers events
unfolding replay
replay-fold triggers events m is = ap (λ (n : Events). fold (step triggers) (record { tallies = started triggers; variables = map.empty }) (map.entries n)) is

pub new_counters-fold : (triggers : Triggers) → fold (with_counter triggers) map.empty (map.entries triggers) ≡ new_counters triggers
unfolding new_counters
new_counters-fold triggers = refl

-- ---- at the start

module _ (triggers : Triggers) where
  abbrev with_tally : FinMap nat_cmp Tally → ℕ × Hist → FinMap nat_cmp Tally
  with_tally tallies attached = map.insert tallies attached.0 empty_tally

  tallies_of_new : (counters : Counters) (es : List (ℕ × Hist)) → map_by tally_in (fold (with_counter triggers) counters es) ≡ fold with_tally (map_by tally_in counters) es
  tallies_of_new counters [] = refl
  tallies_of_new counters (e ∷ es) =
      tallies_of_new (with_counter triggers counters e) es
      ∙ ap (λ (tallies : FinMap nat_cmp Tally). fold with_tally tallies es)
      (map_by-insert tally_in nat_cmp_total nat_cmp-IsAntisymmetric counters e.0 (new_counter triggers e.1) ∙ ap (map.insert (map_by tally_in counters) e.0) (tally-empty e.1.size))

  -- counters without hits have the tallies of the start
  pub new_counters-started : map_by tally_in (new_counters triggers) ≡ started triggers
  unfolding new_counters started
  new_counters-started = tallies_of_new map.empty (map.entries triggers) ∙ ap (λ (tallies : FinMap nat_cmp Tally). fold with_tally tallies (map.entries triggers)) (map_by-empty tally_in nat_cmp)

  get_kept : (q : ℕ) (es : List (ℕ × Hist)) (counters : Counters) → find nat_cmp q es ≡ None → map.get (fold (with_counter triggers) counters es) q ≡ map.get counters q
  get_kept q [] counters none = refl
  get_kept q (e ∷ es) counters none =
      elim (eq_by_cmp nat_cmp q e.0) as (λ b. eq_by_cmp nat_cmp q e.0 ≡ b → map.get (fold (with_counter triggers) (with_counter triggers counters e) es) q ≡ map.get counters q) [
        | true ↦ λ at. let both : ◌≡◌ {A = Option Hist} (Some e.1) None = sym (ap (λ b. cond b (Some e.1) (find nat_cmp q es)) at) ∙ none in absurd cc
        | false ↦ λ apart.
            get_kept q es (with_counter triggers counters e) (sym (ap (λ b. cond b (Some e.1) (find nat_cmp q es)) apart) ∙ none)
            ∙ get-insert nat_cmp_total counters e.0 (new_counter triggers e.1) q ∙ ap (λ b. cond b (Some (new_counter triggers e.1)) (map.get counters q)) apart
      ] refl

  get_new : (q : ℕ) (hist : Hist) (es : List (ℕ × Hist)) (counters : Counters) → IsStrictlySortedBy nat_cmp (keys_of es) → find nat_cmp q es ≡ Some hist
      → map.get (fold (with_counter triggers) counters es) q ≡ Some (new_counter triggers hist)
  get_new q hist [] counters sorted is = let both : ◌≡◌ {A = Option Hist} None (Some hist) = is in absurd cc
  get_new q hist (e ∷ es) counters sorted is =
      elim (eq_by_cmp nat_cmp q e.0) as (λ b. eq_by_cmp nat_cmp q e.0 ≡ b → map.get (fold (with_counter triggers) (with_counter triggers counters e) es) q ≡ Some (new_counter triggers hist)) [
        | true ↦ λ at.
            get_kept q es (with_counter triggers counters e) (none_later q e es sorted at)
            ∙ get-insert nat_cmp_total counters e.0 (new_counter triggers e.1) q ∙ ap (λ b. cond b (Some (new_counter triggers e.1)) (map.get counters q)) at
            ∙ ap (option_map (new_counter triggers)) (sym (ap (λ b. cond b (Some e.1) (find nat_cmp q es)) at) ∙ is)
        | false ↦ λ apart. get_new q hist es (with_counter triggers counters e) (sorted_tail nat_cmp e.0 (keys_of es) sorted) (sym (ap (λ b. cond b (Some e.1) (find nat_cmp q es)) apart) ∙ is)
      ] refl

  -- each trigger has its counter
  pub new_counters-complete : HaveCounters triggers (new_counters triggers)
  unfolding new_counters
  new_counters-complete id hist attached = record {
    counter = new_counter triggers hist;
    there = get_new id hist (map.entries triggers) map.empty (strictly_sorted nat_cmp (map.entries triggers) (entries_sorted triggers)) (sym (get-entries triggers id) ∙ attached);
    suits = record {
      role = refl;
      size = refl;
      fit = λ m is. let none : ◌≡◌ {A = Bool} false true = subst IsSome (get-empty {X = List ℤ} mark_cmp m) is in absurd cc;
    };
  }

  none_yet : (counters : Counters) (es : List (ℕ × Hist)) → ((id : ℕ) (counter : Counting) → map.get counters id ≡ Some counter → counter.table.hits ≡ map.empty)
      → (id : ℕ) (counter : Counting) → map.get (fold (with_counter triggers) counters es) id ≡ Some counter → counter.table.hits ≡ map.empty
  none_yet counters [] all = all
  none_yet counters (e ∷ es) all = none_yet (with_counter triggers counters e) es (each_counter (λ id counter. counter.table.hits ≡ map.empty) counters e.0 (new_counter triggers e.1) all refl)

  -- and no counter has a hit
  pub new_counters-before : (at : At) → AllBefore at (new_counters triggers)
  unfolding new_counters
  new_counters-before at id counter there =
      none_before at counter id (none_yet map.empty (map.entries triggers)
      (λ q s is. let both : ◌≡◌ {A = Option Counting} None (Some s) = sym (get-empty {X = Counting} nat_cmp q) ∙ is in absurd cc) id counter there)

-- ---- events in order

-- the place of an event has its stamp
held_stamp : (lanes : Lanes) (pos : Pos) (event : Traced) → held_at lanes pos ≡ Some event → pos.stamp ≡ event.stamp
held_stamp lanes pos event held =
    elim (event_at lanes pos.cpu pos.line) as (λ o. option_and_then (λ e. if e.stamp == pos.stamp then Some e else None) o ≡ Some event → pos.stamp ≡ event.stamp) [
      | None ↦ λ is. let both : ◌≡◌ {A = Option Traced} None (Some event) = is in absurd cc
      | Some e ↦ λ is. elim (e.stamp == pos.stamp) as (λ b. (e.stamp == pos.stamp) ≡ b → (if b then Some e else None) ≡ Some event → pos.stamp ≡ event.stamp) [
        | true ↦ λ same found. sym (eqb-true e.stamp pos.stamp same) ∙ ap (λ (o : Option Traced). (unwrap_or o e).stamp) found
        | false ↦ λ other found. let both : ◌≡◌ {A = Option Traced} None (Some event) = found in absurd cc
      ] refl is
    ] held

-- and so has each of the merged events
pub merged_stamped : (lanes : Lanes) → AllByRecursion (λ e. e.0.stamp ≡ e.1.stamp) (map.entries (merged lanes))
merged_stamped lanes = all_map _ _ (λ e is. held_stamp lanes e.0 e.1 (sym (merged_at e.0 lanes) ∙ is)) (map.entries (merged lanes)) (entries_found pos_cmp pos_cmp_total (merged lanes))
