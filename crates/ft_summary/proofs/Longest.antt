-- In which run of task 0 some task waited for longest, after one act more.
use Rattle.std.specs.Prelude.{◌≡◌, ◌+◌, ◌<◌, ◌≤◌, ℕ, Bool, true, false, List, [], ◌∷◌, Option, Some, None, is_some, max, nat_eq, nat_lt}
use Rattle.std.specs.Option.{option_map_or, option_or}
use Rattle.std.proofs.Common.{ap, arith, cond, refl, sym, ◌∙◌}
use Rattle.std.proofs.lemmas.Bool.{eq-eqb, eqb-false, le-ltb, ltb-false, ltb-true, ne_eqb}
use Rattle.ft_fields.specs.declared.pos.Pos.{Pos}
use Rattle.ft_dispatch.specs.Acts.{Act, Waking, Creation, Wakeup, Switch}
use Rattle.ft_summary.specs.Figures.{ends_idling, first_idle_begun, idle_begun, idle_from, idled_with_waiters, waited_in_run}
use Rattle.ft_summary.specs.Runs.{last_switch, most, run_begun, total}

abbrev Entry : Type 0
Entry = Pos × Act

-- the stamp of a place, if there is one
abbrev pub stamp_of : Option Pos → ℕ
stamp_of place = option_map_or (λ (p : Pos). p.stamp) place 0

-- the most that one act adds, and where the first run began that has it
abbrev pub longest_of : ℕ → List Entry → ℕ
longest_of cpu acts = most (idled_with_waiters cpu) acts

abbrev pub longest_from_of : ℕ → List Entry → ℕ
longest_from_of cpu acts = idle_from (longest_of cpu acts) (first_idle_begun cpu (longest_of cpu acts) acts)

-- ---- the most

not-more : (m t p : ℕ) → m ≤ t → max m p ≤ t + p
not-more m t p h = omega arith

-- one act adds no more than all
pub most-within : (part : Pos → Act → List Entry → ℕ) (acts : List Entry) → most part acts ≤ total part acts
unfolding most total
most-within part [] = omega arith
most-within part (entry ∷ before) = not-more (most part before) (total part before) (part entry.0 entry.1 before) (most-within part before)

-- ---- a run that has more than all before

lower : (m p w : ℕ) → max m p < w → m < w
lower m p w h = omega arith

other : (m p w : ℕ) → max m p < w → p ≡ w → ⊥
other m p w h e = omega arith

none-so-long : (b : Bool) (first begun : Option Pos) → first ≡ None → b ≡ false → option_or first (cond b begun None) ≡ None
none-so-long true first begun h k = cc
none-so-long false first begun h k = ap (λ o. option_or o None) h

no-longer : (cpu : ℕ) (acts : List Entry) (w : ℕ) → longest_of cpu acts < w → first_idle_begun cpu w acts ≡ None
unfolding most first_idle_begun
no-longer cpu [] w h = refl
no-longer cpu (entry ∷ before) w h =
    let m = longest_of cpu before in
    let p = idled_with_waiters cpu entry.0 entry.1 before in
    none-so-long (nat_eq p w) (first_idle_begun cpu w before) (idle_begun cpu entry.0 entry.1 before)
    (no-longer cpu before w (lower m p w h)) (ne_eqb p w (other m p w h))

-- ---- a run that has the most

not-above : (w : ℕ) → w ≡ 0 → 0 < w → ⊥
not-above w e h = omega arith

begun-known : (b : Bool) (begun : Option Pos) (place : Pos) (before : List Entry) → 0 < cond b (waited_in_run begun place before) 0 → is_some (cond b begun None) ≡ true
begun-known true (Some p) place before h = refl
begun-known true None place before h = absurd (not-above 0 refl h)
begun-known false begun place before h = absurd (not-above 0 refl h)

-- it is known where a run began in which some task waited
waited-begun : (cpu : ℕ) (place : Pos) (act : Act) (before : List Entry) → 0 < idled_with_waiters cpu place act before → is_some (idle_begun cpu place act before) ≡ true
waited-begun cpu place (Waking by woken) before h = absurd (not-above 0 refl h)
waited-begun cpu place (Creation by created) before h = absurd (not-above 0 refl h)
waited-begun cpu place (Wakeup by woken) before h = absurd (not-above 0 refl h)
waited-begun cpu place (Switch turn) before h = begun-known (ends_idling cpu place turn) (run_begun turn.prev_pid (last_switch place.cpu before)) place before h

found-first : (b : Bool) (first begun : Option Pos) → is_some first ≡ true → is_some (option_or first (cond b begun None)) ≡ true
found-first b (Some x) begun h = refl
found-first b None begun h = cc

found-last : (b : Bool) (first begun : Option Pos) → b ≡ true → is_some begun ≡ true → is_some (option_or first (cond b begun None)) ≡ true
found-last true (Some x) begun h k = refl
found-last true None begun h k = k
found-last false first begun h k = cc

found-one : (t b : Bool) (m p w : ℕ) (first begun : Option Pos) → nat_lt m p ≡ t → nat_eq p w ≡ b → w ≡ max m p → 0 < w
    → (w ≡ m → is_some first ≡ true) → (0 < p → is_some begun ≡ true) → is_some (option_or first (cond b begun None)) ≡ true
found-one true b m p w first begun more same is h old new =
    let above = ltb-true m p more in
    found-last b first begun (sym same ∙ eq-eqb p w (omega arith)) (new (omega arith))
found-one false b m p w first begun more same is h old new =
    let below = ltb-false m p more in
    found-first b first begun (old (omega arith))

longest-found : (cpu : ℕ) (acts : List Entry) (w : ℕ) → w ≡ longest_of cpu acts → 0 < w → is_some (first_idle_begun cpu w acts) ≡ true
unfolding most first_idle_begun
longest-found cpu [] w e h = absurd (not-above w e h)
longest-found cpu (entry ∷ before) w e h =
    let m = longest_of cpu before in
    let p = idled_with_waiters cpu entry.0 entry.1 before in
    found-one (nat_lt m p) (nat_eq p w) m p w (first_idle_begun cpu w before) (idle_begun cpu entry.0 entry.1 before) refl refl e h
    (λ same. longest-found cpu before w same h) (waited-begun cpu entry.0 entry.1 before)

-- ---- where it began

max-more : (m p : ℕ) → m < p → max m p ≡ p
max-more m p h = omega arith

max-same : (m p : ℕ) → p ≤ m → max m p ≡ m
max-same m p h = omega arith

not-none : (m p : ℕ) → m < p → p ≡ 0 → ⊥
not-none m p h e = omega arith

above-none : (m : ℕ) → nat_eq m 0 ≡ false → 0 < m
above-none m h = let some = eqb-false m 0 h in omega arith

is-kept : (z b : Bool) (m : ℕ) (first begun : Option Pos) → nat_eq m 0 ≡ z → (0 < m → is_some first ≡ true) → cond z 0 (stamp_of (option_or first (cond b begun None))) ≡ cond z 0 (stamp_of first)
is-kept true b m first begun h some = refl
is-kept false b m (Some x) begun h some = refl
is-kept false b m None begun h some = let absent = some (above-none m h) in cc

from-step : (t : Bool) (m p : ℕ) (F : ℕ → Option Pos) (begun : Option Pos) → nat_lt m p ≡ t → ((w : ℕ) → m < w → F w ≡ None) → (0 < m → is_some (F m) ≡ true)
    → idle_from (max m p) (option_or (F (max m p)) (cond (nat_eq p (max m p)) begun None)) ≡ cond t (stamp_of begun) (idle_from m (F m))
from-step true m p F begun more none some =
    let above = ltb-true m p more in
    ap (λ w. idle_from w (option_or (F w) (cond (nat_eq p w) begun None))) (max-more m p above)
    ∙ ap (λ o. idle_from p (option_or o (cond (nat_eq p p) begun None))) (none p above)
    ∙ ap (λ b. idle_from p (cond b begun None)) (eq-eqb p p refl)
    ∙ ap (λ b. cond b 0 (stamp_of begun)) (ne_eqb p 0 (not-none m p above))
from-step false m p F begun more none some =
    ap (λ w. idle_from w (option_or (F w) (cond (nat_eq p w) begun None))) (max-same m p (ltb-false m p more))
    ∙ is-kept (nat_eq m 0) (nat_eq p m) m (F m) begun refl some

-- the longest run after one act more is the same one, or the run that the act ends
pub longest-more : (cpu : ℕ) (place : Pos) (act : Act) (before : List Entry) →
    longest_from_of cpu ((place, act) ∷ before) ≡ cond (nat_lt (longest_of cpu before) (idled_with_waiters cpu place act before)) (stamp_of (idle_begun cpu place act before)) (longest_from_of cpu before)
unfolding most first_idle_begun
longest-more cpu place act before =
    let m = longest_of cpu before in
    let p = idled_with_waiters cpu place act before in
    from-step (nat_lt m p) m p (λ w. first_idle_begun cpu w before) (idle_begun cpu place act before) refl (no-longer cpu before) (longest-found cpu before m refl)

-- no run, or none in which some task waited
pub from-none : (m f : ℕ) → cond (nat_lt m 0) 0 f ≡ f
from-none m f = ap (λ b. cond b 0 f) (le-ltb m 0 (omega arith))

pub none-from : (cpu : ℕ) (acts : List Entry) → longest_of cpu acts ≡ 0 → longest_from_of cpu acts ≡ 0
none-from cpu acts h = ap (λ w. idle_from w (first_idle_begun cpu w acts)) h
