-- What a waking and a switch change of the variables that are set and of the pairs.
use Rattle.std.proofs.Common.{◌≡◌, ◌+◌, ℕ, ℤ, Bool, true, false, cond, List, [], ◌∷◌, ◌++◌, refl, sym, ap, ◌∙◌, arith, append_assoc, Some, None, Option}
use Rattle.std.specs.Prelude.{pos, not, fold, filter, filter_map, option_map, reverse}
use Rattle.std.specs.List.{cons_option}
use Rattle.std.specs.Option.{option_map_or}
use Rattle.std.specs.Ordering.{int_eq, eq_by_cmp}
use Rattle.std.specs.Cmp.{nat_cmp_total, eq_by_cmp_equiv, signed_Decides}
use Rattle.std.specs.FinMap as map
use Rattle.std.specs.FinMap.{get-insert, get-remove, nat_cmp-IsAntisymmetric}
use Rattle.std.proofs.lemmas.Bool.{true≢false}
use Rattle.std.proofs.lemmas.List.{append-nil, reverse-append}
use Rattle.std.proofs.lemmas.List.Elements.{filter-append, filter_map-append}
use Rattle.ft_fields.specs.Traced.{Traced}
use Rattle.ft_fields.specs.declared.pos.Pos.{Pos}
use Rattle.ft_fields.specs.declared.key.Part.{Part}
use Rattle.ft_fields.specs.declared.key.Part.TheVariants as parts
use Rattle.ft_maps.specs.Entries.{same_from_tie, get-insert_same, get-insert_other}
use Rattle.ft_pairs.specs.Variables.{variable_cmp, variable_cmp_total, variable_same}
use Rattle.ft_pairs.specs.declared.at.At.{At}
use Rattle.ft_pairs.specs.declared.role.Role.TheVariants.{Saves, Reads}
use Rattle.ft_pairs.specs.declared.role.Variable.{Variable}
use Rattle.ft_replay.specs.Merged.{Events}
use Rattle.ft_replay.specs.Replay.{State, act_as}
use Rattle.ft_replay.specs.Tally.{Tally, RowGrowth, count, has_place, tell}
use Rattle.ft_replay.specs.declared.pair.Pair.{Pair}
use Rattle.ft_dispatch.specs.Acts.{Act, Waking, Creation, Wakeup, Switch, Handover}
use Rattle.ft_dispatch.specs.Dispatches.{wakes, last_since_run, place_of, runnable_since, ended_by, blocked_at, dispatch_at, dispatches}
use Rattle.ft_dispatch.specs.declared.dispatch.Since.{Since}
use Rattle.ft_held_waits.specs.Held.{placed_act, acts_of_entries}
use Rattle.ft_held_waits.specs.Latencies.{runs_task, woken_pair}

-- ---- variables of tasks

-- what is saved for a task
abbrev pub for_task : ℕ → ℤ → Variable
for_task saver pid = record { saver = saver; key = parts.Num pid ∷ [] }

abbrev number_in : List Part → ℤ
number_in (parts.Num z ∷ rest) = z
number_in (parts.Log2 n ∷ rest) = pos 0
number_in (parts.Bucket b ∷ rest) = pos 0
number_in (parts.Text t ∷ rest) = pos 0
number_in [] = pos 0

same_task : (saver : ℕ) (p q : ℤ) → eq_by_cmp variable_cmp (for_task saver p) (for_task saver q) ≡ int_eq q p
same_task saver p q = from (eq_by_cmp variable_cmp (for_task saver p) (for_task saver q)) (int_eq q p) refl refl
  where
    from : (b c : Bool) → eq_by_cmp variable_cmp (for_task saver p) (for_task saver q) ≡ b → int_eq q p ≡ c → b ≡ c
    from true true tie is = refl
    from false false tie is = refl
    from true false tie is =
        absurd (true≢false (sym ((signed_Decides q p).1 (ap (λ v. number_in v.key) (sym (same_from_tie variable_same (for_task saver p) (for_task saver q) tie)))) ∙ is))
    from false true tie is =
        absurd (true≢false (sym ((eq_by_cmp_equiv variable_cmp_total).refl (for_task saver p)) ∙ ap (λ z. eq_by_cmp variable_cmp (for_task saver p) (for_task saver z)) (sym ((signed_Decides q p).0 is)) ∙ tie))

-- ---- tallies and dispatches

-- counting changes no pairs
count-pairs : (size : ℕ) (key : List Part) (grow : Option _ → _) (tally : Tally) → (count size key grow tally).pairs ≡ tally.pairs
unfolding count
count-pairs size key grow tally = elim (has_place size tally.table key) as (λ b.
    (cond b (record tally { table = map.insert tally.table key (grow (map.get tally.table key)) }) (record tally { dropped = tally.dropped + 1 })).pairs ≡ tally.pairs) [ true ↦ refl | false ↦ refl ]

-- the pair of a switch to a task, by whether that is task 0, and by its waking
abbrev pairs_at : Pos → Bool → Option Pos → List Pair
pairs_at place idle woken = cond idle [] (cons_option (option_map (λ saved. record { saved = saved; read = place }) woken) [])

ended-woken : (place : Pos) (turn : Handover) (since : Since) → (ended_by place turn since).woken ≡ since.woken
ended-woken place turn since = elim (int_eq turn.prev_pid turn.next_pid) as (λ b. (cond b (blocked_at place since) since).woken ≡ since.woken) [ true ↦ refl | false ↦ refl ]

dispatch-pairs : (place : Pos) (turn : Handover) (since : Since) → filter_map woken_pair (dispatch_at place turn since) ≡ pairs_at place (int_eq turn.next_pid (pos 0)) since.woken
dispatch-pairs place turn since = elim (int_eq turn.next_pid (pos 0)) as (λ b.
    filter_map woken_pair (cond b [] (record { pid = turn.next_pid; prio = turn.next_prio; name = turn.next_comm; place = place; since = ended_by place turn since } ∷ [])) ≡ pairs_at place b since.woken) [
      | true ↦ refl
      | false ↦ ap (pairs_at place false) (ended-woken place turn since)
    ]

found-place : (b : Bool) (entry : Pos × Act) (o : Option (Pos × Act)) → cond b (Some entry.0) (place_of o) ≡ place_of (cond b (Some entry) o)
found-place true entry o = refl
found-place false entry o = refl

-- ---- acts

-- acts with that of one event more
abbrev pub with_act : List (Pos × Act) → Pos × Traced → List (Pos × Act)
with_act before entry = cons_option (placed_act entry) before

pub acts-from : (before : List (Pos × Act)) (es : List (Pos × Traced)) → fold with_act before es ≡ acts_of_entries es ++ before
acts-from before [] = refl
acts-from before (e ∷ es) = acts-from (with_act before e) es ∙ elim (placed_act e) as (λ o. acts_of_entries es ++ cons_option o before ≡ reverse (cons_option o (filter_map placed_act es)) ++ before) [
  | None ↦ refl
  | Some entry ↦ sym (append_assoc (acts_of_entries es) (entry ∷ []) before) ∙ ap (λ (xs : List (Pos × Act)). xs ++ before) (sym (reverse-append (entry ∷ []) (filter_map placed_act es)))
]

module _ (events : Events) (saver reader : ℕ) (apart : saver ≡ reader → ⊥) where
  -- a pair whose reading is a switch to a task other than 0
  abbrev pub at_task : Pair → Bool
  at_task pair = runs_task events pair.read

  apart_back : reader ≡ saver → ⊥
  apart_back same = apart (sym same)

  -- ---- what holds along a replay

  -- after events whose acts are these, newest first: both triggers have a tally; and as long as the saver dropped no hit, the variables that are set are the last wakings, and the pairs are those of the dispatches
  pub record Follows (state : State) (before : List (Pos × Act)) : Type 0 where
    pub saving : Tally
    pub counts : map.get state.tallies saver ≡ Some saving
    pub reading : Tally
    pub reads : map.get state.tallies reader ≡ Some reading
    pub saved : saving.dropped ≡ 0 → (pid : ℤ) → map.get state.variables (for_task saver pid) ≡ place_of (last_since_run (wakes pid) pid before)
    pub pairs : saving.dropped ≡ 0 → filter at_task reading.pairs ≡ filter_map woken_pair (dispatches before)

  -- ---- a waking

  module _ (place : Pos) (by pid : ℤ) (size : ℕ) (growth : RowGrowth) (state : State) (before : List (Pos × Act)) (f : Follows state before) where
    abbrev waking_at : At
    waking_at = record { pos = place; trigger = saver }

    abbrev waking_key : List Part
    waking_key = parts.Num pid ∷ []

    abbrev told_by : Bool → Tally
    told_by room = cond room
        (record f.saving { table = map.insert f.saving.table waking_key (growth None (map.get f.saving.table waking_key)) })
        (record f.saving { dropped = f.saving.dropped + 1 })

    abbrev saved_by : Bool → State
    saved_by room = record {
      tallies = map.insert state.tallies saver (told_by room);
      variables = cond room (map.insert state.variables (for_task saver pid) place) state.variables;
    }

    woken-by : (room : Bool) → Follows (saved_by room) ((place, Waking by pid) ∷ before)
    unfolding last_since_run dispatches
    woken-by true = record {
      saving = told_by true;
      counts = get-insert_same nat_cmp_total state.tallies saver (told_by true);
      reading = f.reading;
      reads = get-insert_other nat_cmp_total nat_cmp-IsAntisymmetric state.tallies saver (told_by true) reader apart_back ∙ f.reads;
      saved = λ none q.
          get-insert variable_cmp_total state.variables (for_task saver pid) place (for_task saver q)
          ∙ ap (λ b. cond b (Some place) (map.get state.variables (for_task saver q))) (same_task saver q pid)
          ∙ ap (cond (int_eq pid q) (Some place)) (f.saved none q)
          ∙ found-place (int_eq pid q) (place, Waking by pid) (last_since_run (wakes q) q before);
      pairs = λ none. f.pairs none ∙ ap (filter_map woken_pair) (sym (append-nil (dispatches before)));
    }
    woken-by false = record {
      saving = told_by false;
      counts = get-insert_same nat_cmp_total state.tallies saver (told_by false);
      reading = f.reading;
      reads = get-insert_other nat_cmp_total nat_cmp-IsAntisymmetric state.tallies saver (told_by false) reader apart_back ∙ f.reads;
      saved = λ none. absurd (omega (arith, none));
      pairs = λ none. absurd (omega (arith, none));
    }

    pub woken : Follows (act_as size growth Saves state waking_at waking_key f.saving) ((place, Waking by pid) ∷ before)
    unfolding count
    woken = woken-by (has_place size f.saving.table waking_key)

  -- ---- a switch

  module _ (place : Pos) (turn : Handover) (size : ℕ) (growth : RowGrowth) (state : State) (before : List (Pos × Act)) (f : Follows state before)
      (there : runs_task events place ≡ not (int_eq turn.next_pid (pos 0))) where
    abbrev switch_at : At
    switch_at = record { pos = place; trigger = reader }

    abbrev switch_key : List Part
    switch_key = parts.Num turn.next_pid ∷ []

    -- the task's last waking
    abbrev waking : Option Pos
    waking = place_of (last_since_run (wakes turn.next_pid) turn.next_pid before)

    more-pairs : filter_map woken_pair (dispatches ((place, Switch turn) ∷ before)) ≡ filter_map woken_pair (dispatches before) ++ pairs_at place (int_eq turn.next_pid (pos 0)) waking
    unfolding dispatches runnable_since
    more-pairs =
        filter_map-append woken_pair (dispatches before) (dispatch_at place turn (runnable_since turn.next_pid before))
        ∙ ap (λ (ps : List Pair). filter_map woken_pair (dispatches before) ++ ps) (dispatch-pairs place turn (runnable_since turn.next_pid before))

    no-pair : (idle : Bool) → pairs_at place idle None ≡ []
    no-pair true = refl
    no-pair false = refl

    one-pair : (saved : Pos) (idle : Bool) → filter at_task (record { saved = saved; read = place } ∷ []) ≡ cond (not idle) (record { saved = saved; read = place } ∷ []) []
        → filter at_task (record { saved = saved; read = place } ∷ []) ≡ pairs_at place idle (Some saved)
    one-pair saved true is = is
    one-pair saved false is = is

    -- nothing is saved for the task that runs
    abbrev unset : ℤ → Option Pos → Option Pos
    unset q o = cond (int_eq turn.next_pid q) None o

    read-none : map.get state.variables (for_task saver turn.next_pid) ≡ None → Follows state ((place, Switch turn) ∷ before)
    unfolding last_since_run
    read-none is = record {
      saving = f.saving;
      counts = f.counts;
      reading = f.reading;
      reads = f.reads;
      saved = λ none q. f.saved none q ∙ still none q (int_eq turn.next_pid q) refl;
      pairs = λ none. f.pairs none ∙ sym (append-nil (filter_map woken_pair (dispatches before)))
          ∙ ap (λ (ps : List Pair). filter_map woken_pair (dispatches before) ++ ps) (sym (ap (pairs_at place (int_eq turn.next_pid (pos 0))) (sym (f.saved none turn.next_pid) ∙ is) ∙ no-pair (int_eq turn.next_pid (pos 0))))
          ∙ sym more-pairs;
    }
      where
        still : f.saving.dropped ≡ 0 → (q : ℤ) (b : Bool) → int_eq turn.next_pid q ≡ b
            → place_of (last_since_run (wakes q) q before) ≡ place_of (cond b None (last_since_run (wakes q) q before))
        still none q true same = ap (λ z. place_of (last_since_run (wakes z) z before)) (sym ((signed_Decides turn.next_pid q).0 same)) ∙ sym (f.saved none turn.next_pid) ∙ is
        still none q false other = refl

    abbrev told_of : Pos → Tally
    told_of saved = tell size growth place switch_key (Some saved) f.reading

    read-some : (saved : Pos) → map.get state.variables (for_task saver turn.next_pid) ≡ Some saved
        → Follows (record { tallies = map.insert state.tallies reader (told_of saved); variables = map.remove state.variables (for_task saver turn.next_pid) }) ((place, Switch turn) ∷ before)
    unfolding last_since_run
    read-some saved is = record {
      saving = f.saving;
      counts = get-insert_other nat_cmp_total nat_cmp-IsAntisymmetric state.tallies reader (told_of saved) saver apart ∙ f.counts;
      reading = told_of saved;
      reads = get-insert_same nat_cmp_total state.tallies reader (told_of saved);
      saved = λ none q.
          get-remove variable_cmp_total state.variables (for_task saver turn.next_pid) (for_task saver q)
          ∙ ap (λ b. cond b None (map.get state.variables (for_task saver q))) (same_task saver q turn.next_pid)
          ∙ ap (cond (int_eq turn.next_pid q) None) (f.saved none q)
          ∙ cleared (int_eq turn.next_pid q) (last_since_run (wakes q) q before);
      pairs = λ none.
          ap (filter at_task) (count-pairs size switch_key (growth (Some saved)) (record f.reading { pairs = f.reading.pairs ++ record { saved = saved; read = place } ∷ [] }))
          ∙ filter-append at_task f.reading.pairs (record { saved = saved; read = place } ∷ [])
          ∙ ap (λ (ps : List Pair). ps ++ filter at_task (record { saved = saved; read = place } ∷ [])) (f.pairs none)
          ∙ ap (λ (ps : List Pair). filter_map woken_pair (dispatches before) ++ ps)
          (one-pair saved (int_eq turn.next_pid (pos 0)) (ap (λ b. cond b (record { saved = saved; read = place } ∷ []) []) there)
          ∙ ap (pairs_at place (int_eq turn.next_pid (pos 0))) (sym is ∙ f.saved none turn.next_pid))
          ∙ sym more-pairs;
    }
      where
        cleared : (b : Bool) (o : Option (Pos × Act)) → cond b None (place_of o) ≡ place_of (cond b None o)
        cleared true o = refl
        cleared false o = refl

    pub switched : Follows (act_as size growth (Reads saver) state switch_at switch_key f.reading) ((place, Switch turn) ∷ before)
    switched = from (map.get state.variables (for_task saver turn.next_pid)) refl
      where
        from : (o : Option Pos) → map.get state.variables (for_task saver turn.next_pid) ≡ o
            → Follows (option_map_or (λ saved. record {
              tallies = map.insert state.tallies reader (told_of saved);
              variables = map.remove state.variables (for_task saver turn.next_pid);
            }) o state) ((place, Switch turn) ∷ before)
        from None is = read-none is
        from (Some saved) is = read-some saved is

  -- ---- a creation

  pub created : (place : Pos) (by pid : ℤ) (state : State) (before : List (Pos × Act)) → Follows state before → Follows state ((place, Creation by pid) ∷ before)
  unfolding last_since_run dispatches
  created place by pid state before f = record {
    saving = f.saving;
    counts = f.counts;
    reading = f.reading;
    reads = f.reads;
    saved = f.saved;
    pairs = λ none. f.pairs none ∙ ap (filter_map woken_pair) (sym (append-nil (dispatches before)));
  }

  -- ---- the end of a waking

  pub roused : (place : Pos) (by pid : ℤ) (state : State) (before : List (Pos × Act)) → Follows state before → Follows state ((place, Wakeup by pid) ∷ before)
  unfolding last_since_run dispatches
  roused place by pid state before f = record {
    saving = f.saving;
    counts = f.counts;
    reading = f.reading;
    reads = f.reads;
    saved = f.saved;
    pairs = λ none. f.pairs none ∙ ap (filter_map woken_pair) (sym (append-nil (dispatches before)));
  }
