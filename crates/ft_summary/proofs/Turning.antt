-- What a CPU runs after one act more.
use Rattle.std.specs.Prelude.{◌≡◌, ◌+◌, ◌-◌, ◌≤◌, ℕ, ℤ, pos, Bool, true, false, ◌&&◌, List, [], ◌∷◌, Option, Some, None, is_some, max, option_map, nat_eq, nat_lt}
use Rattle.std.specs.Cmp.{unsigned_Decides}
use Rattle.std.specs.Option.{option_or}
use Rattle.std.specs.Ordering.{int_eq}
use Rattle.std.proofs.Common.{ap, arith, cond, refl, sym, ◌∙◌}
use Rattle.ft_fields.specs.declared.pos.Pos.{Pos}
use Rattle.ft_dispatch.specs.Acts.{Act, Waking, Creation, Wakeup, Switch, Handover}
use Rattle.ft_dispatch.specs.Telling.{handover_of}
use Rattle.ft_dispatch.specs.declared.act.PlacedAct.{PlacedAct}
use Rattle.ft_summary.specs.Figures.{cpu_sum, idled_for, idled_with_waiters, unknown_for, waited_in_run}
use Rattle.ft_summary.specs.Runs.{capped, last_switch, lasted, most, run_begun, run_ended, total, unknown_ended, unknown_since}
use Rattle.ft_summary.specs.Telling.{cpu_since, waited}
use Rattle.ft_summary.specs.Waiting.{waited_since_switch, waited_up_to}
use Rattle.ft_summary.specs.inner.Changes.{cpu_from, idled, not_known}
use Rattle.ft_summary.specs.declared.cpus.Cpu.{Cpu}
use Rattle.ft_summary.specs.declared.sums.CpuSum.{CpuSum}
use Rattle.ft_summary.proofs.Longest.{from-none, longest-more, longest_from_of, longest_of, most-within, none-from, stamp_of}
use Rattle.ft_summary.proofs.Summing.{capped-more, capped-none}

abbrev Entry : Type 0
Entry = Pos × Act

abbrev Told : Type 0
Told = Option (Pos × Handover)

abbrev sum_at : ℕ → ℕ → ℕ → ℕ → ℕ → ℕ → CpuSum
sum_at cpu idle unknown waited longest from = record { cpu = cpu; idle = idle; unknown = unknown; idle_with_waiters = waited; longest = longest; longest_from = from }

abbrev cpu_at : ℤ → ℕ → ℕ → CpuSum → Cpu
cpu_at pid stamp waited sum = record { pid = pid; stamp = stamp; waited = waited; sum = sum }

-- ---- time

within : (b : Bool) (s w g : ℕ) → s ≤ w → cond b 0 (s + g) ≤ w + g
within true s w g h = omega arith
within false s w g h = omega arith

-- the time since a switch is no longer than all
pub since-within : (cpu : ℕ) (acts : List Entry) → waited_since_switch cpu acts ≤ waited acts
unfolding waited_since_switch total
since-within cpu [] = omega arith
since-within cpu (entry ∷ before) = within _ (waited_since_switch cpu before) (waited before) (waited_up_to entry.0 before) (since-within cpu before)

nothing-more : (t : ℕ) → t ≡ 0 → t + 0 ≡ 0
nothing-more t h = omega arith

no-turn : (b y : Bool) (r t : ℕ) (one : Pos × Handover) (last : Told) → option_or (cond b (Some one) None) last ≡ None → (last ≡ None → t ≡ 0) → t + cond (b && y) r 0 ≡ 0
no-turn true y r t one last h more = cc
no-turn false y r t one last h more = nothing-more t (more h)

-- a CPU on which no switch stands has no idle time
pub never-idle : (cpu : ℕ) (acts : List Entry) → last_switch cpu acts ≡ None → total (idled_for cpu) acts ≡ 0
unfolding last_switch total
never-idle cpu [] h = refl
never-idle cpu ((place, Waking by woken) ∷ before) h = nothing-more (total (idled_for cpu) before) (never-idle cpu before h)
never-idle cpu ((place, Creation by created) ∷ before) h = nothing-more (total (idled_for cpu) before) (never-idle cpu before h)
never-idle cpu ((place, Wakeup by woken) ∷ before) h = nothing-more (total (idled_for cpu) before) (never-idle cpu before h)
never-idle cpu ((place, Switch turn) ∷ before) h =
    no-turn (nat_eq place.cpu cpu) (int_eq turn.prev_pid (pos 0)) (run_ended place turn before) (total (idled_for cpu) before) (place, turn) (last_switch cpu before) h (never-idle cpu before)

no-turn-of : (b : Bool) (r t : ℕ) (one : Pos × Handover) (last : Told) → option_or (cond b (Some one) None) last ≡ None → (last ≡ None → t ≡ 0) → t + cond b r 0 ≡ 0
no-turn-of true r t one last h more = cc
no-turn-of false r t one last h more = nothing-more t (more h)

-- nor unknown time
pub never-unknown : (cpu : ℕ) (acts : List Entry) → last_switch cpu acts ≡ None → total (unknown_for cpu) acts ≡ 0
unfolding last_switch total
never-unknown cpu [] h = refl
never-unknown cpu ((place, Waking by woken) ∷ before) h = nothing-more (total (unknown_for cpu) before) (never-unknown cpu before h)
never-unknown cpu ((place, Creation by created) ∷ before) h = nothing-more (total (unknown_for cpu) before) (never-unknown cpu before h)
never-unknown cpu ((place, Wakeup by woken) ∷ before) h = nothing-more (total (unknown_for cpu) before) (never-unknown cpu before h)
never-unknown cpu ((place, Switch turn) ∷ before) h =
    no-turn-of (nat_eq place.cpu cpu) (unknown_ended place turn before) (total (unknown_for cpu) before) (place, turn) (last_switch cpu before) h (never-unknown cpu before)

pub never-waited : (cpu : ℕ) (acts : List Entry) → last_switch cpu acts ≡ None → total (idled_with_waiters cpu) acts ≡ 0
unfolding last_switch total
never-waited cpu [] h = refl
never-waited cpu ((place, Waking by woken) ∷ before) h = nothing-more (total (idled_with_waiters cpu) before) (never-waited cpu before h)
never-waited cpu ((place, Creation by created) ∷ before) h = nothing-more (total (idled_with_waiters cpu) before) (never-waited cpu before h)
never-waited cpu ((place, Wakeup by woken) ∷ before) h = nothing-more (total (idled_with_waiters cpu) before) (never-waited cpu before h)
never-waited cpu ((place, Switch turn) ∷ before) h =
    no-turn (nat_eq place.cpu cpu) (int_eq turn.prev_pid (pos 0)) (waited_in_run (run_begun turn.prev_pid (last_switch place.cpu before)) place before) (total (idled_with_waiters cpu) before) (place, turn) (last_switch cpu before) h (never-waited cpu before)

most-none : (m t : ℕ) → m ≤ t → t ≡ 0 → m ≡ 0
most-none m t h e = omega arith

pub never-longest : (cpu : ℕ) (acts : List Entry) → last_switch cpu acts ≡ None → longest_of cpu acts ≡ 0
never-longest cpu acts h = most-none (longest_of cpu acts) (total (idled_with_waiters cpu) acts) (most-within (idled_with_waiters cpu) acts) (never-waited cpu acts h)

-- ---- another act, or a switch of another CPU

same-since : (w s g : ℕ) → (w + g) - (s + g) ≡ w - s
same-since w s g = omega arith

longest-none : (m : ℕ) → max m 0 ≡ m
longest-none m = omega arith

sum-none : (cpu i u j m f : ℕ) → sum_at cpu (capped i) (capped u) (capped j) m f ≡ sum_at cpu (capped (i + 0)) (capped (u + 0)) (capped (j + 0)) (max m 0) (cond (nat_lt m 0) 0 f)
sum-none cpu i u j m f =
    ap (λ x. sum_at cpu x (capped u) (capped j) m f) (sym (capped-none i)) ∙ ap (λ x. sum_at cpu (capped (i + 0)) x (capped j) m f) (sym (capped-none u))
    ∙ ap (λ x. sum_at cpu (capped (i + 0)) (capped (u + 0)) x m f) (sym (capped-none j))
    ∙ ap (λ x. sum_at cpu (capped (i + 0)) (capped (u + 0)) (capped (j + 0)) x f) (sym (longest-none m)) ∙ ap (λ x. sum_at cpu (capped (i + 0)) (capped (u + 0)) (capped (j + 0)) (max m 0) x) (sym (from-none m f))

-- what a CPU runs after an act that is no switch of it
abbrev unturned_by : ℕ → ℕ → ℕ → ℕ → ℕ → ℕ → ℕ → ℕ → Told → ℕ → Option Cpu
unturned_by cpu w s g i u j m last from = option_map (λ (l : Pos × Handover). cpu_at l.1.next_pid l.0.stamp ((w + g) - (s + g)) (sum_at cpu (capped (i + 0)) (capped (u + 0)) (capped (j + 0)) (max m 0) from)) last

unturned : (cpu w s g i u j m f : ℕ) (last : Told) →
    unturned_by cpu w s g i u j m last (cond (nat_lt m 0) 0 f) ≡ option_map (λ l. cpu_at l.1.next_pid l.0.stamp (w - s) (sum_at cpu (capped i) (capped u) (capped j) m f)) last
unturned cpu w s g i u j m f None = refl
unturned cpu w s g i u j m f (Some l) =
    ap (λ x. Some (cpu_at l.1.next_pid l.0.stamp ((w + g) - (s + g)) x)) (sym (sum-none cpu i u j m f))
    ∙ ap (λ x. Some (cpu_at l.1.next_pid l.0.stamp x (sum_at cpu (capped i) (capped u) (capped j) m f))) (same-since w s g)

unturned-at : (cpu g : ℕ) (before : List Entry) →
    unturned_by cpu (waited before) (waited_since_switch cpu before) g (total (idled_for cpu) before) (total (unknown_for cpu) before) (total (idled_with_waiters cpu) before) (longest_of cpu before) (last_switch cpu before) (cond (nat_lt (longest_of cpu before) 0) 0 (longest_from_of cpu before))
    ≡ option_map (cpu_since cpu before) (last_switch cpu before)
unfolding cpu_sum
unturned-at cpu g before =
    unturned cpu (waited before) (waited_since_switch cpu before) g (total (idled_for cpu) before) (total (unknown_for cpu) before) (total (idled_with_waiters cpu) before) (longest_of cpu before) (longest_from_of cpu before) (last_switch cpu before)

pub cpu-woken : (cpu : ℕ) (place : Pos) (by woken : ℤ) (before : List Entry) →
    option_map (cpu_since cpu ((place, Waking by woken) ∷ before)) (last_switch cpu ((place, Waking by woken) ∷ before)) ≡ option_map (cpu_since cpu before) (last_switch cpu before)
unfolding last_switch total most cpu_sum waited_since_switch
cpu-woken cpu place by woken before =
    ap (unturned_by cpu (waited before) (waited_since_switch cpu before) (waited_up_to place before) (total (idled_for cpu) before) (total (unknown_for cpu) before) (total (idled_with_waiters cpu) before) (longest_of cpu before) (last_switch cpu before))
    (longest-more cpu place (Waking by woken) before)
    ∙ unturned-at cpu (waited_up_to place before) before

pub cpu-created : (cpu : ℕ) (place : Pos) (by created : ℤ) (before : List Entry) →
    option_map (cpu_since cpu ((place, Creation by created) ∷ before)) (last_switch cpu ((place, Creation by created) ∷ before)) ≡ option_map (cpu_since cpu before) (last_switch cpu before)
unfolding last_switch total most cpu_sum waited_since_switch
cpu-created cpu place by created before =
    ap (unturned_by cpu (waited before) (waited_since_switch cpu before) (waited_up_to place before) (total (idled_for cpu) before) (total (unknown_for cpu) before) (total (idled_with_waiters cpu) before) (longest_of cpu before) (last_switch cpu before))
    (longest-more cpu place (Creation by created) before)
    ∙ unturned-at cpu (waited_up_to place before) before

pub cpu-roused : (cpu : ℕ) (place : Pos) (by woken : ℤ) (before : List Entry) →
    option_map (cpu_since cpu ((place, Wakeup by woken) ∷ before)) (last_switch cpu ((place, Wakeup by woken) ∷ before)) ≡ option_map (cpu_since cpu before) (last_switch cpu before)
unfolding last_switch total most cpu_sum waited_since_switch
cpu-roused cpu place by woken before =
    ap (unturned_by cpu (waited before) (waited_since_switch cpu before) (waited_up_to place before) (total (idled_for cpu) before) (total (unknown_for cpu) before) (total (idled_with_waiters cpu) before) (longest_of cpu before) (last_switch cpu before))
    (longest-more cpu place (Wakeup by woken) before)
    ∙ unturned-at cpu (waited_up_to place before) before

-- ---- a switch of the CPU

-- the run of task 0 that a switch ends: where it began, and how long some task waited in it
abbrev begun_by : Bool → Pos → Handover → List Entry → Option Pos
begun_by b place turn before = cond (b && int_eq turn.prev_pid (pos 0)) (run_begun turn.prev_pid (last_switch place.cpu before)) None

abbrev waited_by : Bool → Pos → Handover → List Entry → ℕ
waited_by b place turn before = cond (b && int_eq turn.prev_pid (pos 0)) (waited_in_run (run_begun turn.prev_pid (last_switch place.cpu before)) place before) 0

-- what a CPU runs after a switch at a place, by whether that is on the CPU, and by when the longest run began
abbrev after_from : Bool → ℕ → Pos → Handover → List Entry → ℕ → Option Cpu
after_from b cpu place turn before from =
    option_map (λ (l : Pos × Handover). cpu_at l.1.next_pid l.0.stamp ((waited before + waited_up_to place before) - cond (is_some {T = Pos × Handover} (cond b (Some (place, turn)) None)) 0 (waited_since_switch cpu before + waited_up_to place before))
    (sum_at cpu (capped (total (idled_for cpu) before + cond (b && int_eq turn.prev_pid (pos 0)) (run_ended place turn before) 0))
    (capped (total (unknown_for cpu) before + cond b (unknown_ended place turn before) 0))
    (capped (total (idled_with_waiters cpu) before + waited_by b place turn before))
    (max (longest_of cpu before) (waited_by b place turn before)) from))
    (option_or (cond b (Some (place, turn)) None) (last_switch cpu before))

abbrev after_switch : Bool → ℕ → Pos → Handover → List Entry → Option Cpu
after_switch b cpu place turn before = after_from b cpu place turn before (cond (nat_lt (longest_of cpu before) (waited_by b place turn before)) (stamp_of (begun_by b place turn before)) (longest_from_of cpu before))

by-place : (cpu : ℕ) (place : Pos) (turn : Handover) (before : List Entry) →
    after_switch (nat_eq place.cpu cpu) cpu place turn before ≡ option_map (cpu_since cpu ((place, Switch turn) ∷ before)) (last_switch cpu ((place, Switch turn) ∷ before))
unfolding last_switch total most cpu_sum waited_since_switch
by-place cpu place turn before = ap (after_from (nat_eq place.cpu cpu) cpu place turn before) (sym (longest-more cpu place (Switch turn) before))

minus-none : (n : ℕ) → n ≡ n - 0
minus-none n = omega arith

either-none : (y : Bool) (t : ℕ) → t ≡ 0 → 0 ≡ capped (t + cond y 0 0)
either-none true t h = omega arith
either-none false t h = omega arith

none-longest : (y : Bool) (m : ℕ) → m ≡ 0 → 0 ≡ max m (cond y 0 0)
none-longest true m h = omega arith
none-longest false m h = omega arith

no-longest-from : (y : Bool) (m f : ℕ) → f ≡ 0 → 0 ≡ cond (nat_lt m (cond y 0 0)) (stamp_of (cond y None None)) f
no-longest-from true m f h = sym (from-none m f ∙ h)
no-longest-from false m f h = sym (from-none m f ∙ h)

-- the time since the last switch
time-since : (w s g now : ℕ) → s ≤ w → now ≡ w + g → now - (w - s) ≡ s + g
time-since w s g now h e = omega arith

-- what is summed up after a switch, by whether it leaves task 0, where the run began that it ends, how long some task waited in it, and how long it isn't known what ran
abbrev after_run : ℕ → ℕ → ℕ → ℕ → ℕ → ℕ → Bool → Option Pos → Pos → ℕ → ℕ → CpuSum
after_run cpu i u j m f y run place waited unknown =
    sum_at cpu (capped (i + cond y (lasted run place) 0)) (capped (u + unknown)) (capped (j + cond y waited 0)) (max m (cond y waited 0)) (cond (nat_lt m (cond y waited 0)) (stamp_of (cond y run None)) f)

-- a switch is missing
sum-unknown : (cpu i u j m f r : ℕ) → not_known r (sum_at cpu (capped i) (capped u) (capped j) m f) ≡ sum_at cpu (capped (i + 0)) (capped (u + r)) (capped (j + 0)) (max m 0) (cond (nat_lt m 0) 0 f)
sum-unknown cpu i u j m f r =
    ap (not_known r) (sum-none cpu i u j m f)
    ∙ ap (λ x. sum_at cpu (capped (i + 0)) (capped (x + r)) (capped (j + 0)) (max m 0) (cond (nat_lt m 0) 0 f)) (capped-none u)
    ∙ ap (λ x. sum_at cpu (capped (i + 0)) x (capped (j + 0)) (max m 0) (cond (nat_lt m 0) 0 f)) (sym (capped-more u r))

run-sum : (z y : Bool) (cpu i u j m f : ℕ) (begun place : Pos) (w s g now : ℕ) → s ≤ w → now ≡ w + g →
    cond z (cond y (idled begun.stamp (place.stamp - begun.stamp) (now - (w - s)) (sum_at cpu (capped i) (capped u) (capped j) m f)) (sum_at cpu (capped i) (capped u) (capped j) m f))
    (not_known (place.stamp - begun.stamp) (sum_at cpu (capped i) (capped u) (capped j) m f))
    ≡ after_run cpu i u j m f y (cond z (Some begun) None) place (cond z (s + g) 0) (cond z 0 (place.stamp - begun.stamp))
run-sum true true cpu i u j m f begun place w s g now h e =
    ap (λ x. idled begun.stamp (place.stamp - begun.stamp) x (sum_at cpu (capped i) (capped u) (capped j) m f)) (time-since w s g now h e)
    ∙ ap (λ x. sum_at cpu x (capped u) (capped (capped j + (s + g))) (max m (s + g)) (cond (nat_lt m (s + g)) begun.stamp f)) (sym (capped-more i (place.stamp - begun.stamp)))
    ∙ ap (λ x. sum_at cpu (capped (i + (place.stamp - begun.stamp))) x (capped (capped j + (s + g))) (max m (s + g)) (cond (nat_lt m (s + g)) begun.stamp f)) (sym (capped-none u))
    ∙ ap (λ x. sum_at cpu (capped (i + (place.stamp - begun.stamp))) (capped (u + 0)) x (max m (s + g)) (cond (nat_lt m (s + g)) begun.stamp f)) (sym (capped-more j (s + g)))
run-sum true false cpu i u j m f begun place w s g now h e = sum-none cpu i u j m f
run-sum false true cpu i u j m f begun place w s g now h e = sum-unknown cpu i u j m f (place.stamp - begun.stamp)
run-sum false false cpu i u j m f begun place w s g now h e = sum-unknown cpu i u j m f (place.stamp - begun.stamp)

waited-run : (z : Bool) (begun place : Pos) (before : List Entry) → waited_in_run (cond z (Some begun) None) place before ≡ cond z (waited_since_switch place.cpu before + waited_up_to place before) 0
waited-run true begun place before = refl
waited-run false begun place before = refl

-- at its own CPU
own-switch : (last : Told) (act : PlacedAct) (before : List Entry) (now : ℕ) → last ≡ last_switch act.place.cpu before → now ≡ waited before + waited_up_to act.place before →
    Some (cpu_from (option_map (cpu_since act.place.cpu before) last) act now) ≡ after_switch true act.place.cpu act.place (handover_of act) before
unfolding cpu_sum
own-switch None act before now is e =
    let cpu = act.place.cpu in
    let y = int_eq act.prev_pid (pos 0) in
    let i = total (idled_for cpu) before in
    let u = total (unknown_for cpu) before in
    let j = total (idled_with_waiters cpu) before in
    let m = longest_of cpu before in
    let f = longest_from_of cpu before in
    let none = never-longest cpu before (sym is) in
    let since = waited before + waited_up_to act.place before - 0 in
    ap (λ x. Some (cpu_at act.pid act.place.stamp x (sum_at cpu 0 0 0 0 0))) (e ∙ minus-none _)
    ∙ ap (λ x. Some (cpu_at act.pid act.place.stamp since (sum_at cpu x 0 0 0 0))) (either-none y i (never-idle cpu before (sym is)))
    ∙ ap (λ x. Some (cpu_at act.pid act.place.stamp since (sum_at cpu (capped (i + cond y 0 0)) x 0 0 0))) (either-none true u (never-unknown cpu before (sym is)))
    ∙ ap (λ x. Some (cpu_at act.pid act.place.stamp since (sum_at cpu (capped (i + cond y 0 0)) (capped (u + 0)) x 0 0))) (either-none y j (never-waited cpu before (sym is)))
    ∙ ap (λ x. Some (cpu_at act.pid act.place.stamp since (sum_at cpu (capped (i + cond y 0 0)) (capped (u + 0)) (capped (j + cond y 0 0)) x 0))) (none-longest y m none)
    ∙ ap (λ x. Some (cpu_at act.pid act.place.stamp since (sum_at cpu (capped (i + cond y 0 0)) (capped (u + 0)) (capped (j + cond y 0 0)) (max m (cond y 0 0)) x))) (no-longest-from y m f (none-from cpu before none))
    ∙ ap (λ l. Some (cpu_at act.pid act.place.stamp since (after_run cpu i u j m f y (run_begun act.prev_pid l) act.place (waited_in_run (run_begun act.prev_pid l) act.place before) (unknown_since act.prev_pid act.place l)))) is
own-switch (Some last) act before now is e =
    let cpu = act.place.cpu in
    let y = int_eq act.prev_pid (pos 0) in
    let z = int_eq last.1.next_pid act.prev_pid in
    let i = total (idled_for cpu) before in
    let u = total (unknown_for cpu) before in
    let j = total (idled_with_waiters cpu) before in
    let m = longest_of cpu before in
    let f = longest_from_of cpu before in
    let begun : Option Pos = cond z (Some last.0) None in
    let unknown : ℕ = cond z 0 (act.place.stamp - last.0.stamp) in
    ap (λ x. Some (cpu_at act.pid act.place.stamp now x)) (run-sum z y cpu i u j m f last.0 act.place (waited before) (waited_since_switch cpu before) (waited_up_to act.place before) now (since-within cpu before) e)
    ∙ ap (λ x. Some (cpu_at act.pid act.place.stamp now (after_run cpu i u j m f y begun act.place x unknown))) (sym (waited-run z last.0 act.place before))
    ∙ ap (λ x. Some (cpu_at act.pid act.place.stamp x (after_run cpu i u j m f y begun act.place (waited_in_run begun act.place before) unknown))) (e ∙ minus-none _)
    ∙ ap (λ l. Some (cpu_at act.pid act.place.stamp (waited before + waited_up_to act.place before - 0) (after_run cpu i u j m f y (run_begun act.prev_pid l) act.place (waited_in_run (run_begun act.prev_pid l) act.place before) (unknown_since act.prev_pid act.place l)))) is

by-cpu : (b : Bool) (cpu : ℕ) (act : PlacedAct) (before : List Entry) (now : ℕ) (own rest : Option Cpu) → nat_eq act.place.cpu cpu ≡ b
    → (act.place.cpu ≡ cpu → own ≡ after_switch true cpu act.place (handover_of act) before) → rest ≡ option_map (cpu_since cpu before) (last_switch cpu before)
    → cond b own rest ≡ after_switch b cpu act.place (handover_of act) before
unfolding cpu_sum
by-cpu true cpu act before now own rest is same other = same ((unsigned_Decides act.place.cpu cpu).0 is)
by-cpu false cpu act before now own rest is same other = other ∙ sym (unturned-at cpu (waited_up_to act.place before) before)

-- what each CPU runs after a switch
pub cpu-turned : (cpus new : ℕ → Option Cpu) (act : PlacedAct) (before : List Entry) (now : ℕ) → now ≡ waited before + waited_up_to act.place before
    → ((cpu : ℕ) → cpus cpu ≡ option_map (cpu_since cpu before) (last_switch cpu before))
    → ((cpu : ℕ) → new cpu ≡ cond (nat_eq act.place.cpu cpu) (Some (cpu_from (cpus act.place.cpu) act now)) (cpus cpu))
    → (cpu : ℕ) → new cpu ≡ option_map (cpu_since cpu ((act.place, Switch (handover_of act)) ∷ before)) (last_switch cpu ((act.place, Switch (handover_of act)) ∷ before))
cpu-turned cpus new act before now e told is cpu =
    let here = act.place.cpu in
    is cpu
    ∙ by-cpu (nat_eq here cpu) cpu act before now (Some (cpu_from (cpus here) act now)) (cpus cpu) refl
    (λ same. ap (λ o. Some (cpu_from o act now)) (told here) ∙ own-switch (last_switch here before) act before now refl e
    ∙ ap (λ c. after_switch true c act.place (handover_of act) before) same) (told cpu)
    ∙ by-place cpu act.place (handover_of act) before
