-- How a task stands after one act more.
use Rattle.std.specs.Prelude.{◌≡◌, ◌+◌, ℕ, ℤ, Bool, true, false, not, ◌&&◌, ◌||◌, List, ◌∷◌, Option, Some, nat_eq}
use Rattle.std.specs.Cmp.{nat_eq_equiv}
use Rattle.std.specs.Ordering.{int_eq}
use Rattle.std.proofs.Common.{ap, arith, cond, refl, sym, ◌∙◌}
use Rattle.ft_fields.specs.declared.pos.Pos.{Pos}
use Rattle.ft_dispatch.specs.Acts.{Act, Waking, Creation, Wakeup, Switch, Handover, can_run}
use Rattle.ft_dispatch.specs.declared.act.PrevState.{PrevState}
use Rattle.ft_summary.specs.Figures.{is_another, is_asleep, is_blocked, last_cpu, left_for_another, moved_to, ran_for, switched_to, task_sum}
use Rattle.ft_summary.specs.Runs.{capped, one_if, run_ended, total}
use Rattle.ft_summary.specs.Telling.{standing}
use Rattle.ft_summary.specs.Waiting.{is_runnable, is_running}
use Rattle.ft_summary.specs.inner.Changes.{awoken_now, ran_on, summed, left_by as leaves_it}
use Rattle.ft_summary.specs.declared.standing.Leaving.{Leaving}
use Rattle.ft_summary.specs.declared.standing.Standing.{Standing}
use Rattle.ft_summary.specs.declared.sums.TaskSum.{TaskSum}

abbrev Entry : Type 0
Entry = Pos × Act

-- ---- sums that stop

pub capped-more : (t p : ℕ) → capped (t + p) ≡ summed (capped t) p
capped-more t p = omega arith

pub capped-none : (t : ℕ) → capped (t + 0) ≡ capped t
capped-none t = omega arith

-- ---- how it stands

abbrev sum_of : ℤ → ℕ → ℕ → ℕ → ℕ → ℕ → ℕ → TaskSum
sum_of pid a b c d e f = record { pid = pid; run_time = a; switches = b; preempted = c; slept = d; blocked = e; moved = f }

sums : {a b c d e f a2 b2 c2 d2 e2 f2 : ℕ} (pid : ℤ) → a ≡ a2 → b ≡ b2 → c ≡ c2 → d ≡ d2 → e ≡ e2 → f ≡ f2 → sum_of pid a b c d e f ≡ sum_of pid a2 b2 c2 d2 e2 f2
sums pid p q r s t u = cc

abbrev stands : TaskSum → Option ℕ → Bool → Bool → Standing
stands sum cpu running runnable = record { sum = sum; cpu = cpu; running = running; runnable = runnable }

-- by a waking or a creation
awoken-step : (b : Bool) (s : Standing) (sum : TaskSum) (runnable : Bool) → sum ≡ s.sum → runnable ≡ cond b true s.runnable → stands sum s.cpu s.running runnable ≡ cond b (awoken_now s) s
awoken-step true s sum runnable p q = ap (λ x. stands x s.cpu s.running runnable) p ∙ ap (λ x. stands s.sum s.cpu s.running x) q
awoken-step false s sum runnable p q = ap (λ x. stands x s.cpu s.running runnable) p ∙ ap (λ x. stands s.sum s.cpu s.running x) q

or-none : (b x : Bool) → cond (b || false) true x ≡ cond b true x
or-none true x = refl
or-none false x = refl

pub woken-step : (pid : ℤ) (place : Pos) (by woken : ℤ) (before : List Entry) → standing pid ((place, Waking by woken) ∷ before) ≡ cond (int_eq woken pid) (awoken_now (standing pid before)) (standing pid before)
unfolding standing task_sum total last_cpu is_running is_runnable
woken-step pid place by woken before =
    awoken-step (int_eq woken pid) (standing pid before) (task_sum pid ((place, Waking by woken) ∷ before)) _
    (sums pid (capped-none _) (capped-none _) (capped-none _) (capped-none _) (capped-none _) (capped-none _))
    (or-none (int_eq woken pid) (is_runnable pid before))

pub created-step : (pid : ℤ) (place : Pos) (by created : ℤ) (before : List Entry) → standing pid ((place, Creation by created) ∷ before) ≡ cond (int_eq created pid) (awoken_now (standing pid before)) (standing pid before)
unfolding standing task_sum total last_cpu is_running is_runnable
created-step pid place by created before =
    awoken-step (int_eq created pid) (standing pid before) (task_sum pid ((place, Creation by created) ∷ before)) _
    (sums pid (capped-none _) (capped-none _) (capped-none _) (capped-none _) (capped-none _) (capped-none _))
    refl

-- the end of a waking changes nothing
pub roused-step : (pid : ℤ) (place : Pos) (by woken : ℤ) (before : List Entry) → standing pid ((place, Wakeup by woken) ∷ before) ≡ standing pid before
unfolding standing task_sum total last_cpu is_running is_runnable
roused-step pid place by woken before =
    ap (λ x. stands x (last_cpu pid before) (is_running pid before) (is_runnable pid before))
    (sums pid (capped-none _) (capped-none _) (capped-none _) (capped-none _) (capped-none _) (capped-none _))

same-cpu : (cpu : ℕ) → nat_eq cpu cpu ≡ true
same-cpu cpu = nat_eq_equiv.refl cpu

not-another : (t cpu : ℕ) → capped (t + 0) ≡ summed (capped t) (one_if (is_another (Some cpu) cpu))
not-another t cpu = capped-none t ∙ sym (ap (λ b. summed (capped t) (one_if (not b))) (same-cpu cpu) ∙ sym (capped-more t 0) ∙ capped-none t)

switch-step : (b d o : Bool) (pid : ℤ) (t1 t2 t3 t4 t5 t6 r : ℕ) (st : PrevState) (cpu : ℕ) (last : Option ℕ) (running runnable : Bool) →
    stands (sum_of pid (capped (t1 + cond b r 0)) (capped (t2 + one_if d)) (capped (t3 + one_if (b && (not o && can_run st)))) (capped (t4 + one_if (b && (not o && is_asleep st)))) (capped (t5 + one_if (b && (not o && is_blocked st)))) (capped (t6 + one_if (d && (not b && is_another last cpu)))))
    (cond (d || b) (Some cpu) last) (cond d true (cond b false running)) (cond d true (cond b (can_run st) runnable))
    ≡ (let s = stands (sum_of pid (capped t1) (capped t2) (capped t3) (capped t4) (capped t5) (capped t6)) last running runnable in
    let l = cond b (leaves_it (record { cpu = cpu; ran_for = r; state = st; for_another = not o }) s) s in
    cond d (ran_on cpu l) l)
switch-step false false o pid t1 t2 t3 t4 t5 t6 r st cpu last running runnable =
    ap (λ x. stands x last running runnable) (sums pid (capped-none t1) (capped-none t2) (capped-none t3) (capped-none t4) (capped-none t5) (capped-none t6))
switch-step true false o pid t1 t2 t3 t4 t5 t6 r st cpu last running runnable =
    ap (λ x. stands x (Some cpu) false (can_run st)) (sums pid (capped-more t1 r) (capped-none t2) (capped-more t3 _) (capped-more t4 _) (capped-more t5 _) (capped-none t6))
switch-step false true o pid t1 t2 t3 t4 t5 t6 r st cpu last running runnable =
    ap (λ x. stands x (Some cpu) true true) (sums pid (capped-none t1) (capped-more t2 1) (capped-none t3) (capped-none t4) (capped-none t5) (capped-more t6 _))
switch-step true true o pid t1 t2 t3 t4 t5 t6 r st cpu last running runnable =
    ap (λ x. stands x (Some cpu) true true) (sums pid (capped-more t1 r) (capped-more t2 1) (capped-more t3 _) (capped-more t4 _) (capped-more t5 _) (not-another t6 cpu))

-- how a switch leaves a task
abbrev pub leaving : Pos → Handover → List Entry → Leaving
leaving place turn before = record { cpu = place.cpu; ran_for = run_ended place turn before; state = turn.prev_state; for_another = not (int_eq turn.prev_pid turn.next_pid) }

-- a task that a switch may leave, and may run
abbrev pub left_and_run : Bool → Bool → Leaving → ℕ → Standing → Standing
left_and_run leaves_one runs_one leaving cpu s = cond runs_one (ran_on cpu (cond leaves_one (leaves_it leaving s) s)) (cond leaves_one (leaves_it leaving s) s)

pub turned-step : (pid : ℤ) (place : Pos) (turn : Handover) (before : List Entry) →
    standing pid ((place, Switch turn) ∷ before) ≡ left_and_run (int_eq turn.prev_pid pid) (int_eq turn.next_pid pid) (leaving place turn before) place.cpu (standing pid before)
unfolding standing task_sum total last_cpu is_running is_runnable
turned-step pid place turn before =
    switch-step (int_eq turn.prev_pid pid) (int_eq turn.next_pid pid) (int_eq turn.prev_pid turn.next_pid) pid
    (total (ran_for pid) before) (total (switched_to pid) before) (total (left_for_another can_run pid) before) (total (left_for_another is_asleep pid) before) (total (left_for_another is_blocked pid) before) (total (moved_to pid) before)
    (run_ended place turn before) turn.prev_state place.cpu (last_cpu pid before) (is_running pid before) (is_runnable pid before)
