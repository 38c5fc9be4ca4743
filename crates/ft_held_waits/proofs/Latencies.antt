-- Two triggers that match wakings with switches come to the dispatches that have a waking, whatever other triggers do.
use Rattle.std.proofs.Common.{◌≡◌, ◌≢◌, ℕ, ℤ, Bool, true, false, cond, List, [], ◌∷◌, refl, sym, ap, subst, ◌∙◌, inl, inr, Some, None, Option}
use Rattle.std.specs.Prelude.{pos, not, fold, filter, option_map, unwrap_or, is_some}
use Rattle.std.specs.List.{AllByRecursion}
use Rattle.std.specs.Option.{option_map_or}
use Rattle.std.specs.declared.cmp.Ordering.TheVariants.{Less}
use Rattle.std.specs.Ordering.{nat_cmp, int_eq, eq_by_cmp, is_eq, is_lt}
use Rattle.std.specs.Cmp.{nat_cmp_total}
use Rattle.std.specs.FinMap as map
use Rattle.std.specs.FinMap.{find, get-empty, get-entries, nat_cmp-IsAntisymmetric}
use Rattle.std.proofs.lemmas.Bool.{cases_eq, true≢false}
use Rattle.std.proofs.lemmas.Cmp.{tied_itself}
use Rattle.std.proofs.lemmas.List.{append-nil}
use Rattle.ft_fields.specs.Traced.{Traced}
use Rattle.ft_fields.specs.Fields.{turn_of}
use Rattle.ft_fields.specs.Places.{pos_cmp, pos_cmp_total}
use Rattle.ft_fields.specs.declared.pos.Pos.{Pos}
use Rattle.ft_fields.specs.declared.event.Body.{Body}
use Rattle.ft_fields.specs.declared.event.Body.TheVariants as bodies
use Rattle.ft_fields.specs.declared.event.Turn.{Turn}
use Rattle.ft_fields.specs.declared.key.Part.{Part}
use Rattle.ft_fields.specs.declared.key.Part.TheVariants as parts
use Rattle.ft_hist.specs.Hist.{Hist}
use Rattle.ft_hist.specs.Hit.{hit}
use Rattle.ft_hist.specs.declared.label.Var.{Var}
use Rattle.ft_hist.specs.declared.label.Var.TheVariants as vars
use Rattle.ft_maps.specs.Entries.{same_from_tie, get-insert_other, get-remove_other}
use Rattle.ft_pairs.specs.Variables.{variable_cmp, variable_cmp_total, variable_same}
use Rattle.ft_pairs.specs.declared.at.At.{At}
use Rattle.ft_pairs.specs.declared.role.Role.{Role}
use Rattle.ft_pairs.specs.declared.role.Role.TheVariants.{Plain, Saves, Reads}
use Rattle.ft_pairs.specs.declared.role.Variable.{Variable}
use Rattle.ft_base.specs.Base.{Triggers}
use Rattle.ft_base.specs.Roles.{role_of, role_at}
use Rattle.ft_base.proofs.Apart.{AreApart, entries_apart, entries_found}
use Rattle.ft_replay.specs.Merged.{Events}
use Rattle.ft_replay.specs.Replay.{State, act_as, act, act_at, growth_by, step, started, replay}
use Rattle.ft_replay.specs.Tally.{Tally, RowGrowth, empty_tally, has_place, tell}
use Rattle.ft_replay.proofs.OneByOne.{started-is}
use Rattle.ft_dispatch.specs.Acts.{Act, Waking, Switch, handover}
use Rattle.ft_dispatch.specs.Dispatches.{last_since_run, dispatches}
use Rattle.ft_held_waits.specs.Held.{acts_of_events}
use Rattle.ft_held_waits.specs.Latencies.{saver_of_wakings, reader_of_switches, AreLatencyTriggers, dropped_by, task_pairs, woken_pairs}
use Rattle.ft_held_waits.proofs.Matching.{for_task, with_act, acts-from, at_task, Follows, woken, switched, created, roused}

abbrev is_saved : Option Var → Bool
is_saved (Some (vars.Saves label)) = true
is_saved (Some (vars.Reads own source)) = false
is_saved None = false

module _ (triggers : Triggers) (events : Events) (saver reader : ℕ) (two : AreLatencyTriggers triggers saver reader) where
  abbrev saving_hist : Hist
  saving_hist = saver_of_wakings two.name two.saving

  abbrev reading_hist : Hist
  reading_hist = reader_of_switches two.own two.name two.reading

  apart : saver ≡ reader → ⊥
  apart same = true≢false (ap (λ (o : Option Hist). option_map_or (λ hist. is_saved hist.variable) o false) (sym two.saves ∙ ap (map.get triggers) same ∙ two.reads))

  abbrev Holds : State → List (Pos × Act) → Type 0
  Holds state before = Follows events saver reader apart state before

  reading-role : role_of triggers reading_hist.variable ≡ Reads saver
  unfolding role_at
  reading-role = ap (λ (o : Option Hist). option_map_or (λ hist. role_of triggers hist.variable) o Plain) (sym two.reads) ∙ two.source

  other-role : (id : ℕ) (hist : Hist) → map.get triggers id ≡ Some hist → id ≢ reader → role_of triggers hist.variable ≢ Reads saver
  unfolding role_at
  other-role id hist attached other reads = other (two.only id (ap (λ (o : Option Hist). option_map_or (λ h. role_of triggers h.variable) o Plain) attached ∙ reads))

  -- ---- what other triggers leave

  -- a state keeps the two tallies, and what is saved for tasks
  record Keeps (old new : State) : Type 0 where
    counts : map.get new.tallies saver ≡ map.get old.tallies saver
    reads : map.get new.tallies reader ≡ map.get old.tallies reader
    saved : (pid : ℤ) → map.get new.variables (for_task saver pid) ≡ map.get old.variables (for_task saver pid)

  nothing-changes : (state : State) → Keeps state state
  nothing-changes state = record { counts = refl; reads = refl; saved = λ pid. refl }

  still-follows : (old new : State) (before : List (Pos × Act)) → Keeps old new → Holds old before → Holds new before
  still-follows old new before keeps f = record {
    saving = f.saving;
    counts = keeps.counts ∙ f.counts;
    reading = f.reading;
    reads = keeps.reads ∙ f.reads;
    saved = λ none pid. keeps.saved pid ∙ f.saved none pid;
    pairs = f.pairs;
  }

  module _ (id : ℕ) (not_saver : id ≢ saver) (not_reader : id ≢ reader) (place : Pos) (size : ℕ) (growth : RowGrowth) (key : List Part) (state : State) where
    abbrev acting : At
    acting = record { pos = place; trigger = id }

    counts-kept : (tally : Tally) → map.get (map.insert state.tallies id tally) saver ≡ map.get state.tallies saver
    counts-kept tally = get-insert_other nat_cmp_total nat_cmp-IsAntisymmetric state.tallies id tally saver (λ same. not_saver (sym same))

    reads-kept : (tally : Tally) → map.get (map.insert state.tallies id tally) reader ≡ map.get state.tallies reader
    reads-kept tally = get-insert_other nat_cmp_total nat_cmp-IsAntisymmetric state.tallies id tally reader (λ same. not_reader (sym same))

    saves-own : (tally : Tally) (room : Bool) → Keeps state (record { tallies = map.insert state.tallies id tally; variables = cond room (map.insert state.variables (record { saver = id; key = key }) place) state.variables })
    saves-own tally true = record {
      counts = counts-kept tally;
      reads = reads-kept tally;
      saved = λ pid. get-insert_other variable_cmp_total variable_same state.variables (record { saver = id; key = key }) place (for_task saver pid) (λ same. not_saver (sym (ap (λ (v : Variable). v.saver) same)));
    }
    saves-own tally false = record { counts = counts-kept tally; reads = reads-kept tally; saved = λ pid. refl }

    reads-other : (source : ℕ) → source ≢ saver → (tally : Tally) (o : Option Pos) → Keeps state (option_map_or (λ saved. record {
      tallies = map.insert state.tallies id (tell size growth place key (Some saved) tally);
      variables = map.remove state.variables (record { saver = source; key = key });
    }) o state)
    reads-other source other tally None = nothing-changes state
    reads-other source other tally (Some saved) = record {
      counts = counts-kept (tell size growth place key (Some saved) tally);
      reads = reads-kept (tell size growth place key (Some saved) tally);
      saved = λ pid. get-remove_other variable_cmp_total variable_same state.variables (record { saver = source; key = key }) (for_task saver pid) (λ same. other (sym (ap (λ (v : Variable). v.saver) same)));
    }

    acts-apart : (role : Role) → role ≢ Reads saver → (tally : Tally) → Keeps state (act_as size growth role state acting key tally)
    acts-apart Plain other tally = record { counts = counts-kept (tell size growth place key None tally); reads = reads-kept (tell size growth place key None tally); saved = λ pid. refl }
    acts-apart Saves other tally = saves-own (tell size growth place key None tally) (has_place size tally.table key)
    acts-apart (Reads source) other tally = reads-other source (λ same. other (ap Reads same)) tally (map.get state.variables (record { saver = source; key = key }))

    keeps-apart : (role : Role) → role ≢ Reads saver → Keeps state (act size role growth state acting key)
    unfolding act
    keeps-apart role other = elim (map.get state.tallies id) as (λ o. Keeps state (option_map_or (act_as size growth role state acting key) o state)) [
      | None ↦ nothing-changes state
      | Some tally ↦ acts-apart role other tally
    ]

  -- a trigger's act at an event, by the key that the event is a hit of
  abbrev acted : Pos → Traced → ℕ → Hist → State → Option (List Part) → State
  acted place event id hist state found =
      option_map_or (λ key. act hist.size (role_of triggers hist.variable) (growth_by hist place event key) state (record { pos = place; trigger = id }) key) found state

  -- a trigger that is neither of the two, or that an event is no hit of
  keeps : (place : Pos) (event : Traced) (id : ℕ) (hist : Hist) → map.get triggers id ≡ Some hist → (id ≡ saver → hit saving_hist event ≡ None) → (id ≡ reader → hit reading_hist event ≡ None)
      → (state : State) → Keeps state (act_at triggers (place, event) state (id, hist))
  unfolding act_at
  keeps place event id hist attached no_saving no_reading state = elim (cases_eq id saver) [
    | inl same ↦ idle (ap (λ h. hit h event) (named saver saving_hist two.saves same) ∙ no_saving same)
    | inr not_saver ↦ elim (cases_eq id reader) [
      | inl same ↦ idle (ap (λ h. hit h event) (named reader reading_hist two.reads same) ∙ no_reading same)
      | inr not_reader ↦ elim (hit hist event) as (λ o. Keeps state (acted place event id hist state o)) [
        | None ↦ nothing-changes state
        | Some key ↦ keeps-apart id not_saver not_reader place hist.size (growth_by hist place event key) key state (role_of triggers hist.variable) (other-role id hist attached not_reader)
      ]
    ]
  ]
    where
      named : (other : ℕ) (its : Hist) → map.get triggers other ≡ Some its → id ≡ other → hist ≡ its
      named other its is same = ap (λ (o : Option Hist). unwrap_or o hist) (sym attached ∙ ap (map.get triggers) same ∙ is)

      idle : hit hist event ≡ None → Keeps state (acted place event id hist state (hit hist event))
      idle none = subst (λ o. Keeps state (acted place event id hist state o)) (sym none) (nothing-changes state)

  -- ---- all triggers at one event

  module _ (place : Pos) (event : Traced) where
    abbrev at_all : State → List (ℕ × Hist) → State
    at_all state ts = fold (act_at triggers (place, event)) state ts

    -- a trigger at this event keeps what is known
    abbrev KeepsAll : ℕ × Hist → Type 0
    KeepsAll t = (state : State) → Keeps state (act_at triggers (place, event) state t)

    all-keep : (acts : List (Pos × Act)) (ts : List (ℕ × Hist)) → AllByRecursion KeepsAll ts → (state : State) → Holds state acts → Holds (at_all state ts) acts
    all-keep acts [] keep state f = f
    all-keep acts (t ∷ ts) keep state f = all-keep acts ts keep.1 (act_at triggers (place, event) state t) (still-follows state (act_at triggers (place, event) state t) acts (keep.0 state) f)

    abbrev AreAttached : List (ℕ × Hist) → Type 0
    AreAttached ts = AllByRecursion (λ t. map.get triggers t.0 ≡ Some t.1) ts

    -- the event is no hit of either
    none-acts : hit saving_hist event ≡ None → hit reading_hist event ≡ None → (ts : List (ℕ × Hist)) → AreAttached ts → AllByRecursion KeepsAll ts
    none-acts no_saving no_reading [] attached = tt
    none-acts no_saving no_reading (t ∷ ts) attached = (keeps place event t.0 t.1 attached.0 (λ _. no_saving) (λ _. no_reading), none-acts no_saving no_reading ts attached.1)

    -- one trigger acts, and what it does leads from one to the other; no other trigger changes what is known
    module _ (one : ℕ) (hist : Hist) (before acts : List (Pos × Act)) (others : (id : ℕ) (h : Hist) → map.get triggers id ≡ Some h → id ≢ one → KeepsAll (id, h)) where
      not_below : (id : ℕ) → nat_cmp one id ≡ Less → id ≢ one
      not_below id less same = true≢false (sym (ap is_lt (ap (nat_cmp one) (sym same) ∙ less)) ∙ ap is_lt (tied_itself nat_cmp_total one))

      others-keep : (ts : List (ℕ × Hist)) → AreAttached ts → AllByRecursion (λ t. nat_cmp one t.0 ≡ Less) ts → AllByRecursion KeepsAll ts
      others-keep [] attached above = tt
      others-keep (t ∷ ts) attached above = (others t.0 t.1 attached.0 (not_below t.0 above.0), others-keep ts attached.1 above.1)

      one-acts : ((state : State) → Holds state before → Holds (act_at triggers (place, event) state (one, hist)) acts)
          → (ts : List (ℕ × Hist)) → AreAttached ts → AreApart nat_cmp ts → find nat_cmp one ts ≡ Some hist → (state : State) → Holds state before → Holds (at_all state ts) acts
      one-acts does [] attached rising found state f = absurd (true≢false (sym (ap is_some found)))
      one-acts does (t ∷ ts) attached rising found state f = elim (eq_by_cmp nat_cmp one t.0) as (λ b. eq_by_cmp nat_cmp one t.0 ≡ b → cond b (Some t.1) (find nat_cmp one ts) ≡ Some hist → Holds (at_all state (t ∷ ts)) acts) [
        | true ↦ λ tie is.
            let same : one ≡ t.0 = same_from_tie nat_cmp-IsAntisymmetric one t.0 tie in
            let its : hist ≡ t.1 = sym (ap (λ (o : Option Hist). unwrap_or o hist) is) in
            let after : Holds (act_at triggers (place, event) state t) acts = subst (λ (u : ℕ × Hist). Holds (act_at triggers (place, event) state u) acts) (λ i. (same i, its i)) (does state f) in
            all-keep acts ts (others-keep ts attached.1 (subst (λ n. AllByRecursion (λ (q : ℕ × Hist). nat_cmp n q.0 ≡ Less) ts) (sym same) rising.0)) (act_at triggers (place, event) state t) after
        | false ↦ λ tie is.
            let other : t.0 ≢ one = λ same. true≢false (sym (ap (λ o. eq_by_cmp nat_cmp one o) same ∙ itself) ∙ tie) in
            one-acts does ts attached.1 rising.1 is (act_at triggers (place, event) state t) (still-follows state (act_at triggers (place, event) state t) before (others t.0 t.1 attached.0 other state) f)
      ] refl found
        where
          itself : eq_by_cmp nat_cmp one one ≡ true
          itself = ap is_eq (tied_itself nat_cmp_total one)

  -- ---- one event

  module _ (place : Pos) (event : Traced) (before : List (Pos × Act)) where
    abbrev told_event : Body → Traced
    told_event body = record event { body = body }

    abbrev after_event : Body → State → State
    after_event body state = fold (act_at triggers (place, told_event body)) state (map.entries triggers)

    abbrev waking_key : ℤ → List Part
    waking_key pid = parts.Num pid ∷ []

    each-attached : AllByRecursion (λ t. map.get triggers t.0 ≡ Some t.1) (map.entries triggers)
    each-attached = entries_found nat_cmp nat_cmp_total triggers

    -- neither trigger acts
    quiet : (body : Body) → hit saving_hist (told_event body) ≡ None → hit reading_hist (told_event body) ≡ None → (state : State) → Holds state before → Holds (after_event body state) before
    quiet body no_saving no_reading = all-keep place (told_event body) before (map.entries triggers) (none-acts place (told_event body) no_saving no_reading (map.entries triggers) each-attached)

    saves-waking : (pid : ℤ) (growth : RowGrowth) (state : State) → Holds state before → Holds (act saving_hist.size Saves growth state (record { pos = place; trigger = saver }) (waking_key pid)) ((place, Waking event.pid pid) ∷ before)
    unfolding act
    saves-waking pid growth state f = subst (λ o. Holds (option_map_or (act_as saving_hist.size growth Saves state (record { pos = place; trigger = saver }) (waking_key pid)) o state) ((place, Waking event.pid pid) ∷ before)) (sym f.counts)
        (woken events saver reader apart place event.pid pid saving_hist.size growth state before f)

    reads-switch : (turn : Turn) → map.get events place ≡ Some (told_event (bodies.Switch turn)) → (role : Role) → role ≡ Reads saver → (growth : RowGrowth) (state : State) → Holds state before
        → Holds (act reading_hist.size role growth state (record { pos = place; trigger = reader }) (waking_key turn.next_pid)) ((place, Switch (handover event.pid turn)) ∷ before)
    unfolding act
    reads-switch turn there role is growth state f = subst (λ r. Holds (act reading_hist.size r growth state (record { pos = place; trigger = reader }) (waking_key turn.next_pid)) ((place, Switch (handover event.pid turn)) ∷ before)) (sym is)
        (subst (λ o. Holds (option_map_or (act_as reading_hist.size growth (Reads saver) state (record { pos = place; trigger = reader }) (waking_key turn.next_pid)) o state) ((place, Switch (handover event.pid turn)) ∷ before)) (sym f.reads)
        (switched events saver reader apart place (handover event.pid turn) reading_hist.size growth state before f
        (ap (λ o. option_map_or (λ (e : Traced). option_map_or (λ (t : Turn). not (int_eq t.next_pid (pos 0))) (turn_of e.body) false) o false) there)))

    event-follows : (body : Body) → map.get events place ≡ Some (told_event body) → (state : State) → Holds state before → Holds (after_event body state) (with_act before (place, told_event body))
    unfolding act_at
    event-follows (bodies.Waking wake) there = one-acts place (told_event (bodies.Waking wake)) saver saving_hist before ((place, Waking event.pid wake.pid) ∷ before)
        (λ id h attached other. keeps place (told_event (bodies.Waking wake)) id h attached (λ same. absurd (other same)) (λ _. refl))
        (saves-waking wake.pid (growth_by saving_hist place (told_event (bodies.Waking wake)) (waking_key wake.pid)))
        (map.entries triggers) each-attached (entries_apart nat_cmp triggers) (sym (get-entries triggers saver) ∙ two.saves)
    event-follows (bodies.Switch turn) there = one-acts place (told_event (bodies.Switch turn)) reader reading_hist before ((place, Switch (handover event.pid turn)) ∷ before)
        (λ id h attached other. keeps place (told_event (bodies.Switch turn)) id h attached (λ _. refl) (λ same. absurd (other same)))
        (reads-switch turn there (role_of triggers reading_hist.variable) reading-role (growth_by reading_hist place (told_event (bodies.Switch turn)) (waking_key turn.next_pid)))
        (map.entries triggers) each-attached (entries_apart nat_cmp triggers) (sym (get-entries triggers reader) ∙ two.reads)
    event-follows (bodies.WakeupNew wake) there = λ state f. created events saver reader apart place event.pid wake.pid (after_event (bodies.WakeupNew wake) state) before (quiet (bodies.WakeupNew wake) refl refl state f)
    event-follows (bodies.Wakeup wake) there = λ state f. roused events saver reader apart place event.pid wake.pid (after_event (bodies.Wakeup wake) state) before (quiet (bodies.Wakeup wake) refl refl state f)
    event-follows (bodies.WakeupLatency matched) there = quiet (bodies.WakeupLatency matched) refl refl
    event-follows bodies.Other there = quiet bodies.Other refl refl

  -- ---- all events

  all-follow : (es : List (Pos × Traced)) (state : State) (before : List (Pos × Act)) → AllByRecursion (λ e. map.get events e.0 ≡ Some e.1) es → Holds state before
      → Holds (fold (step triggers) state es) (fold with_act before es)
  unfolding step
  all-follow [] state before there f = f
  all-follow (e ∷ es) state before there f = all-follow es (step triggers state e) (with_act before e) there.1 (event-follows e.0 e.1 before e.1.body there.0 state f)

  start-follows : Holds (record { tallies = started triggers; variables = map.empty }) []
  unfolding last_since_run dispatches
  start-follows = record {
    saving = empty_tally;
    counts = started-is triggers events saver ∙ ap (option_map (λ (hist : Hist). empty_tally)) two.saves;
    reading = empty_tally;
    reads = started-is triggers events reader ∙ ap (option_map (λ (hist : Hist). empty_tally)) two.reads;
    saved = λ none pid. get-empty variable_cmp (for_task saver pid);
    pairs = λ none. refl;
  }

  replay-follows : Holds (replay triggers events) (acts_of_events events)
  unfolding replay
  replay-follows = subst (Holds (replay triggers events)) (acts-from [] (map.entries events) ∙ append-nil (acts_of_events events))
      (all-follow (map.entries events) (record { tallies = started triggers; variables = map.empty }) [] (entries_found pos_cmp pos_cmp_total events) start-follows)

  latencies-are : dropped_by (replay triggers events) saver ≡ Some 0 → task_pairs triggers events reader ≡ Some (woken_pairs events)
  latencies-are none =
      let f = replay-follows in
      let kept : f.saving.dropped ≡ 0 = ap (λ (o : Option ℕ). unwrap_or o 0) (sym (ap (option_map (λ (t : Tally). t.dropped)) f.counts) ∙ none) in
      ap (option_map (λ (t : Tally). filter (at_task events saver reader apart) t.pairs)) f.reads ∙ ap Some (f.pairs kept)

pub latencies-matched : (triggers : Triggers) (events : Events) (saver reader : ℕ) → AreLatencyTriggers triggers saver reader
    → dropped_by (replay triggers events) saver ≡ Some 0 → task_pairs triggers events reader ≡ Some (woken_pairs events)
latencies-matched triggers events saver reader two = latencies-are triggers events saver reader two
