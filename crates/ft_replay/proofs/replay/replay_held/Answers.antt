use Rattle.std.proofs.Common.{◌≡◌, ◌+◌, ◌<◌, ℕ, List, ◌∷◌, drop, get_or, length, refl, sym, ap, subst, ◌∙◌}
use Rattle.std.specs.Prelude.{fold}
use Rattle.std.specs.Ordering.{nat_cmp}
use Rattle.std.specs.List.{AllByRecursion}
use Rattle.std.specs.List.Sorted.{IsStrictlySortedBy}
use Rattle.std.specs.Map.{keys_of}
use Rattle.std.specs.FinMap as map
use Rattle.std.specs.FinMap.{entries_sorted}
use Rattle.std.proofs.lemmas.List.{drop_more, drop_all}
use Rattle.std.proofs.lemmas.Map.Keys.{sorted_head, sorted_tail}
use Rattle.ft_fields.specs.Traced.{Traced}
use Rattle.ft_fields.specs.Places.{pos_cmp}
use Rattle.ft_fields.specs.declared.pos.Pos.{Pos}
use Rattle.ft_maps.specs.Entries.{strictly_sorted}
use Rattle.ft_maps.specs.Mapped.{entries_by}
use Rattle.ft_maps.specs.Seen.{seen, seen-empty}
use Rattle.ft_store.specs.Stored.{held}
use Rattle.ft_store.specs.declared.stored.Stored.{Stored}
use Rattle.ft_base.specs.Base.{Triggers}
use Rattle.ft_replay.specs.Merged.{Events, merged}
use Rattle.ft_replay.specs.Named.{named}
use Rattle.ft_replay.specs.Replay.{State, step}
use Rattle.ft_replay.specs.Counters.{HaveCounters}
use Rattle.ft_replay.specs.inner.Replaying.{state_in, new_counters, AllBeforePlace}
use Rattle.ft_pairs.specs.Variables.{variable_cmp}
use Rattle.ft_replay.proofs.Earlier.{act_of, all_above}
use Rattle.ft_base.proofs.Apart.{all_of}
use Rattle.ft_replay.proofs.Naming.{named_all, replay-named}
use Rattle.ft_replay.proofs.Counters.{replay-fold, new_counters-started, new_counters-complete, new_counters-before, merged_stamped}
use Rattle.ft_replay.proofs.Stepping.{grow_none, grow_more}
use Rattle.ft_replay.proofs.replay.replay_held.Goals as goal

-- the first of the events that are left
first : (es : List (Pos × Stored)) (i : ℕ) (e : Pos × Stored) → i < length es → e ≡ get_or es i e → entries_by held (drop i es) ≡ (e.0, held e.1) ∷ entries_by held (drop (i + 1) es)
first es i e within is = ap (entries_by held) (drop_more es i e within ∙ ap (λ (x : Pos × Stored). x ∷ drop (i + 1) es) (sym is))

pub loop-pos-init : goal.loop-pos-init
loop-pos-init c =
    let triggers : Triggers = c.args.triggers.now in
    let events : Events = named triggers (merged c.args.lanes.now) in
    let items : List (Pos × Stored) = c.deref-pos-items.result.now in
    let all : entries_by held items ≡ map.entries events = ap (entries_by held) c.deref-pos-items.ensures.value ∙ c.in_ok-merged.ensures in
    let counters : seen nat_cmp c.in_ok-counters.counters ≡ new_counters triggers = c.in_ok-counters.ensures in
    let saved : seen variable_cmp c.new-saved.result ≡ map.empty = seen-empty variable_cmp c.new-saved.result c.new-saved.ensures.empty in
    record {
      rest =
          (λ i. fold (step triggers) (state_in (counters i, saved i)) (all i))
          ∙ ap (λ tallies. fold (step triggers) (record { tallies = tallies; variables = map.empty }) (map.entries events)) (new_counters-started triggers);
      sorted = subst (λ (es : List (Pos × Traced)). IsStrictlySortedBy pos_cmp (keys_of es)) (sym all) (strictly_sorted pos_cmp (map.entries events) (entries_sorted events));
      stamped = subst (AllByRecursion (λ (e : Pos × Traced). e.0.stamp ≡ e.1.stamp)) (sym all) (named_all triggers (λ e. e.0.stamp ≡ e.1.stamp) (merged c.args.lanes.now) (merged_stamped c.args.lanes.now));
      complete = subst (HaveCounters triggers) (sym counters) (new_counters-complete triggers);
      before = all_of (λ (e : Pos × Traced). AllBeforePlace e.0 (seen nat_cmp c.in_ok-counters.counters))
          (λ e. subst (AllBeforePlace e.0) (sym counters) (λ id. new_counters-before triggers (act_of e.0 id))) (entries_by held items);
      grow = grow_none _;
    }

pub loop-pos-preserved : goal.loop-pos-preserved
loop-pos-preserved c =
    let triggers : Triggers = c.args.triggers.now in
    let items : List (Pos × Stored) = c.deref-pos-items.result.now in
    let item : Pos × Stored = c.loop-pos-item.result in
    let e : Pos × Traced = (item.0, held item.1) in
    let rest : List (Pos × Traced) = entries_by held (drop (c.loop-pos.pos-index + 1) items) in
    let more : entries_by held (drop c.loop-pos.pos-index items) ≡ e ∷ rest = first items c.loop-pos.pos-index item c.loop-pos-test.true c.loop-pos-item.is in
    let sorted : IsStrictlySortedBy pos_cmp (keys_of (e ∷ rest)) = subst (λ (es : List (Pos × Traced)). IsStrictlySortedBy pos_cmp (keys_of es)) more c.loop-pos.invariant.sorted in
    record {
      rest =
          ap (λ (s : State). fold (step triggers) s rest) (c.in_ok-step.ensures.state ∙ ap (λ (event : Traced). step triggers (state_in (seen nat_cmp c.loop-pos.counters, seen variable_cmp c.loop-pos.saved)) (item.0, event)) c.event-event.ensures)
          ∙ sym (ap (fold (step triggers) (state_in (seen nat_cmp c.loop-pos.counters, seen variable_cmp c.loop-pos.saved))) more) ∙ c.loop-pos.invariant.rest;
      sorted = sorted_tail pos_cmp e.0 (keys_of rest) sorted;
      stamped = (subst (AllByRecursion (λ (x : Pos × Traced). x.0.stamp ≡ x.1.stamp)) more c.loop-pos.invariant.stamped).1;
      complete = c.in_ok-step.ensures.complete;
      before = all_above pos_cmp e.0 (λ pos. AllBeforePlace pos (seen nat_cmp c.step.new.counters)) c.in_ok-step.ensures.before rest (sorted_head pos_cmp e.0 (keys_of rest) sorted);
      grow = grow_more _ _ _ c.loop-pos.invariant.grow c.in_ok-step.ensures.grow;
    }

pub step-requires-clause-stamped : goal.step-requires-clause-stamped
step-requires-clause-stamped c =
    let more = first c.deref-pos-items.result.now c.loop-pos.pos-index c.loop-pos-item.result c.loop-pos-test.true c.loop-pos-item.is in
    (subst (AllByRecursion (λ (x : Pos × Traced). x.0.stamp ≡ x.1.stamp)) more c.loop-pos.invariant.stamped).0 ∙ ap (λ (event : Traced). event.stamp) (sym c.event-event.ensures)

pub step-requires-clause-before : goal.step-requires-clause-before
step-requires-clause-before c =
    let more = first c.deref-pos-items.result.now c.loop-pos.pos-index c.loop-pos-item.result c.loop-pos-test.true c.loop-pos-item.is in
    (subst (AllByRecursion (λ (x : Pos × Traced). AllBeforePlace x.0 (seen nat_cmp c.loop-pos.counters))) more c.loop-pos.invariant.before).0

pub returns-clause-tallies : goal.returns-clause-tallies
returns-clause-tallies c =
    let triggers : Triggers = c.args.triggers.now in
    let events : Events = named triggers (merged c.args.lanes.now) in
    let items : List (Pos × Stored) = c.deref-pos-items.result.now in
    ap (λ (s : State). s.tallies)
    (sym (ap (λ (es : List (Pos × Stored)). fold (step triggers) (state_in (seen nat_cmp c.loop-pos.counters, seen variable_cmp c.loop-pos.saved)) (entries_by held es)) (drop_all c.loop-pos.pos-index items c.loop-pos-test.false))
    ∙ c.loop-pos.invariant.rest
    ∙ replay-fold triggers events events refl
    ∙ replay-named triggers (merged c.args.lanes.now))
