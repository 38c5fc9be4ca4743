-- What a summary tells after one act more.
use Rattle.std.specs.Prelude.{◌≡◌, ◌+◌, ◌-◌, ◌<◌, ℕ, ℤ, Bool, true, false, ◌&&◌, List, [], ◌∷◌, length, reverse, take, Option, Some, None, max, nat_lt, option_map, OnOk}
use Rattle.std.specs.Option.{unwrap_or}
use Rattle.std.specs.Ordering.{int_eq}
use Rattle.std.specs.declared.result.Result.{Result}
use Rattle.std.specs.declared.result.Result.TheVariants.{Ok, Err}
use Rattle.std.specs.BTreeMap.{IsOrdered}
use Rattle.std.specs.Ordering.{nat_cmp}
use Rattle.std.proofs.Common.{ap, arith, cond, get_or, refl, subst, sym, ◌∙◌}
use Rattle.std.proofs.lemmas.Bool.Decides.{nat_tests}
use Rattle.std.proofs.lemmas.List.{take_more, reverse-append, map-append}
use Rattle.ft_fields.specs.declared.pos.Pos.{Pos}
use Rattle.ft_dispatch.specs.Acts.{Act, Waking, Creation, Wakeup, Switch, Handover}
use Rattle.ft_dispatch.specs.Telling.{entries_of, entry_of, handover_of}
use Rattle.ft_dispatch.specs.declared.act.PlacedAct.{PlacedAct}
use Rattle.ft_summary.specs.Runs.{last_switch, run_begun, run_ended, lasted, total}
use Rattle.ft_summary.specs.Telling.{Tells, cpu_since, standing_if_named, waited}
use Rattle.ft_summary.specs.Waiting.{is_counted, latest, some_task_waits, waited_up_to}
use Rattle.ft_summary.specs.inner.Changes.{Switches, changed, changed_in, found_cpu, found_task, left_in, none, number_waiting, run_of, task_cmp}
use Rattle.ft_summary.specs.declared.clock.Clock.{Clock}
use Rattle.ft_summary.specs.declared.standing.Change.{Change}
use Rattle.ft_summary.specs.declared.standing.Change.TheVariants as changes
use Rattle.ft_summary.specs.declared.standing.Standing.{Standing}
use Rattle.ft_summary.specs.declared.summary.Summary.{Summary}
use Rattle.ft_summary.proofs.Anyone.{none-left, some-counted}
use Rattle.ft_summary.proofs.Naming.{told-created, told-roused, told-turned, told-woken}
use Rattle.ft_summary.proofs.Turning.{cpu-created, cpu-roused, cpu-turned, cpu-woken}

abbrev Entry : Type 0
Entry = Pos × Act

-- ---- results

pub on_ok_both : {T E : Type 0} (P Q : Type 0) (r : Result T E) → OnOk r P → OnOk r Q → OnOk r (P × Q)
on_ok_both P Q (Ok x) p q = (p, q)
on_ok_both P Q (Err e) p q = tt

-- ---- time

tested : (b : Bool) (n : ℕ) → (b ≡ true → 0 < n) → (b ≡ false → n ≡ 0) → nat_lt 0 n ≡ b
tested true n h k =
    let above : 0 < n = h refl in
    grind (arith, nat_tests)
tested false n h k = ap (nat_lt 0) (k refl)

-- whether some task waits, by the number that is kept
pub some-waits : (old : Summary) (before : List Entry) → Tells old before → nat_lt 0 old.waiting ≡ some_task_waits before
some-waits old before tells =
    ap (nat_lt 0) tells.waiting
    ∙ tested (some_task_waits before) (number_waiting old.tasks) (some-counted old.tasks before tells.tasks) (none-left old.tasks before tells.tasks tells.tasks_ascend)

-- a clock that goes on to an act
pub record GoesOn (old new : Clock) (place : Pos) (some : Bool) : Type 0 where
  pub latest : new.latest ≡ max old.latest place.stamp
  pub waited : new.waited ≡ old.waited + cond some (place.stamp - old.latest) 0

pub goes-on : (old new : Clock) (place : Pos) (tested some : Bool) → tested ≡ some → new.latest ≡ max old.latest place.stamp → new.waited ≡ old.waited + cond tested (place.stamp - old.latest) 0 → GoesOn old new place some
goes-on old new place tested some same latest waited = record { latest = latest; waited = waited ∙ ap (λ b. old.waited + cond b (place.stamp - old.latest) 0) same }

waited-more : (old : Summary) (before : List Entry) (clock : Clock) (place : Pos) → Tells old before → GoesOn old.clock clock place (nat_lt 0 old.waiting) → clock.waited ≡ waited before + waited_up_to place before
waited-more old before clock place tells goes =
    goes.waited ∙ ap (λ b. old.clock.waited + cond b (place.stamp - old.clock.latest) 0) (some-waits old before tells)
    ∙ ap (λ w. w + cond (some_task_waits before) (place.stamp - old.clock.latest) 0) tells.waited
    ∙ ap (λ l. waited before + cond (some_task_waits before) (place.stamp - l) 0) tells.latest

-- ---- acts

pub tells-woken : (old new : Summary) (place : Pos) (by woken : ℤ) (before : List Entry) → Tells old before → GoesOn old.clock new.clock place (nat_lt 0 old.waiting)
    → ((q : ℤ) → found_task new.tasks q ≡ changed_in (found_task old.tasks) changes.Awoken woken q) → (old.waiting ≡ number_waiting old.tasks → new.waiting ≡ number_waiting new.tasks)
    → (IsOrdered task_cmp old.tasks → IsOrdered task_cmp new.tasks) → new.cpus ≡ old.cpus → Tells new ((place, Waking by woken) ∷ before)
unfolding latest total
tells-woken old new place by woken before tells goes finds counts ordered same = record {
  latest = goes.latest ∙ ap (λ l. max l place.stamp) tells.latest;
  waited = waited-more old before new.clock place tells goes;
  tasks = told-woken (found_task old.tasks) (found_task new.tasks) place by woken before tells.tasks finds;
  waiting = counts tells.waiting;
  cpus = λ cpu. ap (λ m. found_cpu m cpu) same ∙ tells.cpus cpu ∙ sym (cpu-woken cpu place by woken before);
  tasks_ascend = ordered tells.tasks_ascend;
  cpus_ascend = subst (IsOrdered nat_cmp) (sym same) tells.cpus_ascend;
}

pub tells-created : (old new : Summary) (place : Pos) (by created : ℤ) (before : List Entry) → Tells old before → GoesOn old.clock new.clock place (nat_lt 0 old.waiting)
    → ((q : ℤ) → found_task new.tasks q ≡ changed_in (found_task old.tasks) changes.Awoken created q) → (old.waiting ≡ number_waiting old.tasks → new.waiting ≡ number_waiting new.tasks)
    → (IsOrdered task_cmp old.tasks → IsOrdered task_cmp new.tasks) → new.cpus ≡ old.cpus → Tells new ((place, Creation by created) ∷ before)
unfolding latest total
tells-created old new place by created before tells goes finds counts ordered same = record {
  latest = goes.latest ∙ ap (λ l. max l place.stamp) tells.latest;
  waited = waited-more old before new.clock place tells goes;
  tasks = told-created (found_task old.tasks) (found_task new.tasks) place by created before tells.tasks finds;
  waiting = counts tells.waiting;
  cpus = λ cpu. ap (λ m. found_cpu m cpu) same ∙ tells.cpus cpu ∙ sym (cpu-created cpu place by created before);
  tasks_ascend = ordered tells.tasks_ascend;
  cpus_ascend = subst (IsOrdered nat_cmp) (sym same) tells.cpus_ascend;
}

-- the end of a waking changes only the time
pub tells-roused : (old new : Summary) (place : Pos) (by woken : ℤ) (before : List Entry) → Tells old before → GoesOn old.clock new.clock place (nat_lt 0 old.waiting)
    → new.tasks ≡ old.tasks → new.waiting ≡ old.waiting → new.cpus ≡ old.cpus → Tells new ((place, Wakeup by woken) ∷ before)
unfolding latest total
tells-roused old new place by woken before tells goes tasks waiting cpus = record {
  latest = goes.latest ∙ ap (λ l. max l place.stamp) tells.latest;
  waited = waited-more old before new.clock place tells goes;
  tasks = λ q. ap (λ m. found_task m q) tasks ∙ told-roused (found_task old.tasks) place by woken before tells.tasks q;
  waiting = waiting ∙ tells.waiting ∙ ap number_waiting (sym tasks);
  cpus = λ cpu. ap (λ m. found_cpu m cpu) cpus ∙ tells.cpus cpu ∙ sym (cpu-roused cpu place by woken before);
  tasks_ascend = subst (IsOrdered task_cmp) (sym tasks) tells.tasks_ascend;
  cpus_ascend = subst (IsOrdered nat_cmp) (sym cpus) tells.cpus_ascend;
}

run-begun : (z : Bool) (begun place : Pos) → cond z (place.stamp - begun.stamp) 0 ≡ lasted (cond z (Some begun) None) place
run-begun true begun place = refl
run-begun false begun place = refl

-- how long the run lasted
run-lasted : (cpu : ℕ) (prev : ℤ) (place : Pos) (before : List Entry) (last : Option (Pos × Handover)) → run_of (option_map (cpu_since cpu before) last) prev place.stamp ≡ lasted (run_begun prev last) place
run-lasted cpu prev place before None = refl
run-lasted cpu prev place before (Some last) = run-begun (int_eq last.1.next_pid prev) last.0 place

pub tells-turned : (old mid new : Summary) (act : PlacedAct) (before : List Entry) → Tells old before → GoesOn old.clock mid.clock act.place (nat_lt 0 old.waiting)
    → mid.waiting ≡ old.waiting → mid.tasks ≡ old.tasks → mid.cpus ≡ old.cpus → Switches mid new act → Tells new ((act.place, Switch (handover_of act)) ∷ before)
unfolding latest total
tells-turned old mid new act before tells goes waiting tasks cpus switches =
    let cpu = act.place.cpu in
    let waited-now = waited-more old before mid.clock act.place tells goes in
    let kept-cpus : (c : ℕ) → found_cpu mid.cpus c ≡ option_map (cpu_since c before) (last_switch c before) = λ c. ap (λ m. found_cpu m c) cpus ∙ tells.cpus c in
    let kept-tasks : (q : ℤ) → found_task mid.tasks q ≡ standing_if_named q before = λ q. ap (λ m. found_task m q) tasks ∙ tells.tasks q in
    let ran-for : run_of (found_cpu mid.cpus cpu) act.prev_pid act.place.stamp ≡ run_ended act.place (handover_of act) before =
    ap (λ o. run_of o act.prev_pid act.place.stamp) (kept-cpus cpu) ∙ run-lasted cpu act.prev_pid act.place before (last_switch cpu before) in
    record {
      latest = ap (λ (c : Clock). c.latest) switches.clock ∙ goes.latest ∙ ap (λ l. max l act.place.stamp) tells.latest;
      waited = ap (λ (c : Clock). c.waited) switches.clock ∙ waited-now;
      tasks = told-turned (found_task mid.tasks) (left_in (found_task mid.tasks) act (run_of (found_cpu mid.cpus cpu) act.prev_pid act.place.stamp)) (found_task new.tasks) act.place (handover_of act) before kept-tasks
          (λ q. ap (λ r. left_in (found_task mid.tasks) act r q) ran-for) switches.tasks;
      waiting = switches.counts (waiting ∙ tells.waiting ∙ ap number_waiting (sym tasks));
      cpus = cpu-turned (found_cpu mid.cpus) (found_cpu new.cpus) act before mid.clock.waited waited-now kept-cpus switches.cpus;
      tasks_ascend = switches.tasks_ascend (subst (IsOrdered task_cmp) (sym tasks) tells.tasks_ascend);
      cpus_ascend = switches.cpus_ascend;
    }

-- a change, if each task stood the same before
pub changed-same : (f g : ℤ → Option Standing) (change : Change) (pid q : ℤ) → ((p : ℤ) → f p ≡ g p) → changed_in f change pid q ≡ changed_in g change pid q
changed-same f g change pid q same =
    ap (λ o. cond (is_counted pid && int_eq pid q) (Some (changed change (unwrap_or o (none pid)))) (f q)) (same pid)
    ∙ ap (λ o. cond (is_counted pid && int_eq pid q) (Some (changed change (unwrap_or (g pid) (none pid)))) o) (same q)

-- held acts with one more, the newest first
pub entries-more : (xs : List PlacedAct) (i : ℕ) (x : PlacedAct) → i < length xs → x ≡ get_or xs i x → reverse (entries_of (take (i + 1) xs)) ≡ entry_of x ∷ reverse (entries_of (take i xs))
entries-more xs i x within is =
    ap (λ (ys : List PlacedAct). reverse (entries_of ys)) (take_more xs i x within)
    ∙ ap reverse (map-append entry_of (take i xs) (get_or xs i x ∷ []))
    ∙ reverse-append (entries_of (take i xs)) (entry_of (get_or xs i x) ∷ [])
    ∙ ap (λ (y : PlacedAct). entry_of y ∷ reverse (entries_of (take i xs))) (sym is)
