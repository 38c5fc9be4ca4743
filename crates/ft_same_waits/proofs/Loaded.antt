-- Events that are loaded stand where a stream puts them.
use Rattle.std.proofs.Common.{◌≡◌, ◌≢◌, ◌+◌, ◌<◌, ◌≤◌, ℕ, suc, Bool, true, false, cond, List, [], ◌∷◌, ◌++◌, refl, sym, ap, subst, ◌∙◌, arith, inl, inr, Some, None, Option}
use Rattle.std.specs.Prelude.{◌==◌, fold, filter_map, reverse, unwrap_or, option_and_then, option_map}
use Rattle.std.specs.List.{AllByRecursion, IsDistinct, cons_option, count_by}
use Rattle.std.specs.Map.{keys_of}
use Rattle.std.specs.Ordering.{nat_cmp, eq_by_cmp}
use Rattle.std.specs.Cmp.{nat_cmp_total, eq_by_cmp_equiv}
use Rattle.std.specs.FinMap as map
use Rattle.std.specs.FinMap.{find, get-empty, get-from_entries, get-insert, nat_cmp-IsAntisymmetric, same_map}
use Rattle.std.proofs.lemmas.Bool.{cases_eq, eq-eqb, eqb-true, false_from_ne_true, true≢false}
use Rattle.std.proofs.lemmas.List.{reverse-append}
use Rattle.std.proofs.lemmas.List.Sums.{sum_by-cons}
use Rattle.ft_fields.specs.Traced.{Traced}
use Rattle.ft_fields.specs.Places.{pos_cmp, pos_cmp_total, pos_same}
use Rattle.ft_fields.specs.declared.pos.Pos.{Pos}
use Rattle.ft_maps.specs.Entries.{same_from_tie, get-insert_same, get-insert_other}
use Rattle.ft_lanes.specs.Edits.{new_lane, lane_or_new, lane_with, lanes_with}
use Rattle.ft_lanes.specs.Held.{Lane, Lanes, event_at}
use Rattle.ft_lanes.proofs.Loads.{with_lanes-fold}
use Rattle.ft_replay.specs.Merged.{Events, merged, held_at}
use Rattle.ft_replay.proofs.Places.{merged_at}
use Rattle.ft_dispatch.specs.Acts.{Act, act_of}
use Rattle.ft_dispatch.specs.Dispatches.{dispatches}
use Rattle.ft_waits.specs.Reading.{place_after, act_at, acts_of, in_order}
use Rattle.ft_held_waits.specs.Held.{placed_act, dispatches_held}
use Rattle.ft_same_waits.specs.Loaded.{loaded}
use Rattle.ft_same_waits.proofs.Filtered.{seen_in_order}

-- ---- how many events a CPU has

abbrev of_cpu : ℕ → List Traced → ℕ
of_cpu cpu before = count_by (λ e. e.cpu == cpu) before

of_own : (e : Traced) (cpu : ℕ) (before : List Traced) → e.cpu ≡ cpu → of_cpu cpu (e ∷ before) ≡ suc (of_cpu cpu before)
of_own e cpu before same =
    let parts = sum_by-cons (λ (x : Traced). cond (x.cpu == cpu) 1 0) e before in
    let one : ◌≡◌ {A = ℕ} (cond (e.cpu == cpu) 1 0) 1 = ap (λ b. cond b 1 0) (eq-eqb e.cpu cpu same) in
    omega (arith, parts, one)

of_other : (e : Traced) (cpu : ℕ) (before : List Traced) → e.cpu ≢ cpu → of_cpu cpu (e ∷ before) ≡ of_cpu cpu before
of_other e cpu before apart =
    let parts = sum_by-cons (λ (x : Traced). cond (x.cpu == cpu) 1 0) e before in
    let none : ◌≡◌ {A = ℕ} (cond (e.cpu == cpu) 1 0) 0 = ap (λ b. cond b 1 0) (false_from_ne_true (e.cpu == cpu) (λ hit. apart (eqb-true _ _ hit))) in
    omega (arith, parts, none)

of_more : (e : Traced) (cpu : ℕ) (before : List Traced) → of_cpu cpu before ≤ of_cpu cpu (e ∷ before)
of_more e cpu before =
    let parts = sum_by-cons (λ (x : Traced). cond (x.cpu == cpu) 1 0) e before in
    omega (arith, parts)

-- ---- events at their places

-- events, newest first, each at its place
placed_events : List Traced → List (Pos × Traced)
placed_events [] = []
placed_events (e ∷ before) = (place_after before e, e) ∷ placed_events before

acts-placed : (events : List Traced) → acts_of [] events ≡ filter_map placed_act (placed_events events)
unfolding acts_of placed_events
acts-placed [] = refl
acts-placed (e ∷ before) = ap (λ (acts : List (Pos × Act)). act_at (place_after before e) (act_of e.pid e.body) ++ acts) (acts-placed before)
    ∙ elim (act_of e.pid e.body) as (λ o. act_at (place_after before e) o ++ filter_map placed_act (placed_events before) ≡ cons_option (option_map (λ act. (place_after before e, act)) o) (filter_map placed_act (placed_events before))) [
      | None ↦ refl
      | Some act ↦ refl
    ]

-- a place's line is at most the number of its CPU's events
abbrev IsWithin : List Traced → Pos → Type 0
IsWithin events place = place.line ≤ of_cpu place.cpu events

later : (e : Traced) (before : List Traced) (places : List Pos) → AllByRecursion (IsWithin before) places → AllByRecursion (IsWithin (e ∷ before)) places
later e before [] within = tt
later e before (x ∷ places) within =
    let more = of_more e x.cpu before in
    let low = within.0 in
    (omega (arith, low, more), later e before places within.1)

all-within : (events : List Traced) → AllByRecursion (IsWithin events) (keys_of (placed_events events))
unfolding placed_events
all-within [] = tt
all-within (e ∷ before) =
    let own = of_own e e.cpu before refl in
    (omega (arith, own), later e before (keys_of (placed_events before)) (all-within before))

past : (e : Traced) (before : List Traced) (places : List Pos) → AllByRecursion (IsWithin before) places → AllByRecursion (λ q. eq_by_cmp pos_cmp (place_after before e) q ≡ false) places
past e before [] within = tt
past e before (x ∷ places) within = (
  false_from_ne_true (eq_by_cmp pos_cmp (place_after before e) x) (λ tie.
      let same = same_from_tie pos_same (place_after before e) x tie in
      let line = ap (λ (p : Pos). p.line) same in
      let most : x.line ≤ of_cpu e.cpu before = subst (λ (cpu : ℕ). x.line ≤ of_cpu cpu before) (sym (ap (λ (p : Pos). p.cpu) same)) within.0 in
      omega (arith, line, most)),
  past e before places within.1,
)

placed-distinct : (events : List Traced) → IsDistinct (eq_by_cmp pos_cmp) (keys_of (placed_events events))
unfolding placed_events IsDistinct
placed-distinct [] = tt
placed-distinct (e ∷ before) = (past e before (keys_of (placed_events before)) (all-within before), placed-distinct before)

-- ---- lanes, event by event

lanes_after : List Traced → Lanes
lanes_after [] = map.empty
lanes_after (e ∷ before) = lanes_with (lanes_after before) e

fold-more : {A B : Type 0} (f : B → A → B) (b : B) (xs ys : List A) → fold f b (xs ++ ys) ≡ fold f (fold f b xs) ys
fold-more f b [] ys = refl
fold-more f b (x ∷ xs) ys = fold-more f (f b x) xs ys

one-by-one : (events : List Traced) → fold lanes_with map.empty (reverse events) ≡ lanes_after events
unfolding lanes_after
one-by-one [] = refl
one-by-one (e ∷ before) =
    ap (fold lanes_with map.empty) (reverse-append (e ∷ []) before)
    ∙ fold-more lanes_with map.empty (reverse before) (e ∷ [])
    ∙ ap (λ (lanes : Lanes). lanes_with lanes e) (one-by-one before)

loaded-is : (events : List Traced) → loaded events ≡ lanes_after events
loaded-is events = sym (with_lanes-fold map.empty (reverse events) (λ q _. get-empty nat_cmp q)) ∙ one-by-one events

-- the next number of a CPU
next-is : (events : List Traced) (cpu : ℕ) → (lane_or_new (lanes_after events) cpu).next ≡ suc (of_cpu cpu events)
unfolding lanes_after
next-is [] cpu = ap (λ (o : Option Lane). (unwrap_or o new_lane).next) (get-empty nat_cmp cpu)
next-is (e ∷ before) cpu = elim (cases_eq e.cpu cpu) [
  | inl same ↦
      let last : (lane_or_new (lanes_after before) e.cpu).next ≡ suc (of_cpu e.cpu before) = next-is before e.cpu in
      let own : of_cpu e.cpu (e ∷ before) ≡ suc (of_cpu e.cpu before) = of_own e e.cpu before refl in
      let here : (lane_or_new (lanes_with (lanes_after before) e) e.cpu).next ≡ (lane_or_new (lanes_after before) e.cpu).next + 1 =
      ap (λ (o : Option Lane). (unwrap_or o new_lane).next) (get-insert_same nat_cmp_total (lanes_after before) e.cpu (lane_with (lane_or_new (lanes_after before) e.cpu) e)) in
      subst (λ (c : ℕ). (lane_or_new (lanes_with (lanes_after before) e) c).next ≡ suc (of_cpu c (e ∷ before))) same (omega (arith, last, own, here))
  | inr apart ↦
      ap (λ (o : Option Lane). (unwrap_or o new_lane).next) (get-insert_other nat_cmp_total nat_cmp-IsAntisymmetric (lanes_after before) e.cpu (lane_with (lane_or_new (lanes_after before) e.cpu) e) cpu (λ same. apart (sym same)))
      ∙ next-is before cpu
      ∙ ap suc (sym (of_other e cpu before apart))
]

-- ---- what stands on a line

lane_event : (lanes : Lanes) (cpu line : ℕ) → map.get (lane_or_new lanes cpu).events line ≡ event_at lanes cpu line
lane_event lanes cpu line = elim (map.get lanes cpu) as (λ o. map.get (unwrap_or o new_lane).events line ≡ option_and_then (λ lane. map.get lane.events line) o) [
  | None ↦ get-empty nat_cmp line
  | Some lane ↦ refl
]

-- on the event's own CPU: the event, on its line
own-line : (lanes : Lanes) (e : Traced) (line : ℕ) → event_at (lanes_with lanes e) e.cpu line ≡ cond (eq_by_cmp nat_cmp line (lane_or_new lanes e.cpu).next) (Some e) (event_at lanes e.cpu line)
own-line lanes e line =
    ap (option_and_then (λ (lane : Lane). map.get lane.events line)) (get-insert_same nat_cmp_total lanes e.cpu (lane_with (lane_or_new lanes e.cpu) e))
    ∙ get-insert nat_cmp_total (lane_or_new lanes e.cpu).events (lane_or_new lanes e.cpu).next e line
    ∙ ap (cond (eq_by_cmp nat_cmp line (lane_or_new lanes e.cpu).next) (Some e)) (lane_event lanes e.cpu line)

-- on another: what stood there
other-line : (lanes : Lanes) (e : Traced) (cpu line : ℕ) → e.cpu ≢ cpu → event_at (lanes_with lanes e) cpu line ≡ event_at lanes cpu line
other-line lanes e cpu line apart =
    ap (option_and_then (λ (lane : Lane). map.get lane.events line)) (get-insert_other nat_cmp_total nat_cmp-IsAntisymmetric lanes e.cpu (lane_with (lane_or_new lanes e.cpu) e) cpu (λ same. apart (sym same)))

tie-same : (a b : ℕ) → a ≡ b → eq_by_cmp nat_cmp a b ≡ true
tie-same a b same = ap (eq_by_cmp nat_cmp a) (sym same) ∙ (eq_by_cmp_equiv nat_cmp_total).refl a

-- nothing stands past the last line
none-past : (events : List Traced) (cpu line : ℕ) → of_cpu cpu events < line → event_at (lanes_after events) cpu line ≡ None
unfolding lanes_after
none-past [] cpu line high = ap (option_and_then (λ (lane : Lane). map.get lane.events line)) (get-empty nat_cmp cpu)
none-past (e ∷ before) cpu line high =
    let more = of_more e cpu before in
    let rest : event_at (lanes_after before) cpu line ≡ None = none-past before cpu line (omega (arith, high, more)) in
    elim (cases_eq e.cpu cpu) [
      | inl same ↦ subst (λ (c : ℕ). event_at (lanes_with (lanes_after before) e) c line ≡ None) same
          (own-line (lanes_after before) e line
          ∙ ap (λ b. cond b (Some e) (event_at (lanes_after before) e.cpu line)) (false_from_ne_true _ (λ tie.
          let at = same_from_tie nat_cmp-IsAntisymmetric line (lane_or_new (lanes_after before) e.cpu).next tie in
          let next = next-is before e.cpu in
          let own = of_own e e.cpu before refl in
          let low : of_cpu e.cpu (e ∷ before) < line = subst (λ (c : ℕ). of_cpu c (e ∷ before) < line) (sym same) high in
          omega (arith, at, next, own, low)))
          ∙ ap (λ (c : ℕ). event_at (lanes_after before) c line) same ∙ rest)
      | inr apart ↦ other-line (lanes_after before) e cpu line apart ∙ rest
    ]

-- ---- the merged events

-- an event if it has the stamp
abbrev stamped : ℕ → Traced → Option Traced
stamped stamp e = cond (e.stamp == stamp) (Some e) None

held-is : (events : List Traced) (pos : Pos) → held_at (lanes_after events) pos ≡ find pos_cmp pos (placed_events events)
unfolding lanes_after placed_events
held-is [] pos = ap (λ (o : Option Lane). option_and_then (stamped pos.stamp) (option_and_then (λ (lane : Lane). map.get lane.events pos.line) o)) (get-empty nat_cmp pos.cpu)
held-is (e ∷ before) pos = from (held-is before pos) (eq_by_cmp pos_cmp pos (place_after before e)) refl
  where
    next : (lane_or_new (lanes_after before) e.cpu).next ≡ suc (of_cpu e.cpu before)
    next = next-is before e.cpu

    -- at the event's own place
    own : held_at (lanes_with (lanes_after before) e) (place_after before e) ≡ Some e
    own = ap (option_and_then (stamped e.stamp)) (own-line (lanes_after before) e (suc (of_cpu e.cpu before))
        ∙ ap (λ b. cond b (Some e) (event_at (lanes_after before) e.cpu (suc (of_cpu e.cpu before)))) (tie-same (suc (of_cpu e.cpu before)) (lane_or_new (lanes_after before) e.cpu).next (sym next)))
        ∙ ap (λ b. cond b (Some e) None) (eq-eqb e.stamp e.stamp refl)

    -- at any other place
    by_stamp : (b : Bool) → e.stamp == pos.stamp ≡ b → pos.line ≡ (lane_or_new (lanes_after before) e.cpu).next → e.cpu ≡ pos.cpu → eq_by_cmp pos_cmp pos (place_after before e) ≡ false
        → cond b (Some e) None ≡ option_and_then (stamped pos.stamp) (event_at (lanes_after before) e.cpu pos.line)
    by_stamp true at line cpu apart =
        let same : pos ≡ place_after before e = λ i. record { stamp = sym (eqb-true e.stamp pos.stamp at) i; cpu = sym cpu i; line = (line ∙ next) i } in
        absurd (true≢false (sym ((eq_by_cmp_equiv pos_cmp_total).refl pos) ∙ ap (eq_by_cmp pos_cmp pos) same ∙ apart))
    by_stamp false at line cpu apart = sym (ap (option_and_then (stamped pos.stamp)) (none-past before e.cpu pos.line (omega (arith, line, next))))

    by_line : (b : Bool) → eq_by_cmp nat_cmp pos.line (lane_or_new (lanes_after before) e.cpu).next ≡ b → e.cpu ≡ pos.cpu → eq_by_cmp pos_cmp pos (place_after before e) ≡ false
        → option_and_then (stamped pos.stamp) (cond b (Some e) (event_at (lanes_after before) e.cpu pos.line)) ≡ option_and_then (stamped pos.stamp) (event_at (lanes_after before) e.cpu pos.line)
    by_line true tie cpu apart = by_stamp (e.stamp == pos.stamp) refl (same_from_tie nat_cmp-IsAntisymmetric pos.line (lane_or_new (lanes_after before) e.cpu).next tie) cpu apart
    by_line false tie cpu apart = refl

    other : eq_by_cmp pos_cmp pos (place_after before e) ≡ false → held_at (lanes_with (lanes_after before) e) pos ≡ held_at (lanes_after before) pos
    other apart = elim (cases_eq e.cpu pos.cpu) [
      | inl same ↦ ap (λ (c : ℕ). option_and_then (stamped pos.stamp) (event_at (lanes_with (lanes_after before) e) c pos.line)) (sym same)
          ∙ ap (option_and_then (stamped pos.stamp)) (own-line (lanes_after before) e pos.line)
          ∙ by_line (eq_by_cmp nat_cmp pos.line (lane_or_new (lanes_after before) e.cpu).next) refl same apart
          ∙ ap (λ (c : ℕ). option_and_then (stamped pos.stamp) (event_at (lanes_after before) c pos.line)) same
      | inr different ↦ ap (option_and_then (stamped pos.stamp)) (other-line (lanes_after before) e pos.cpu pos.line different)
    ]

    from : held_at (lanes_after before) pos ≡ find pos_cmp pos (placed_events before) → (b : Bool) → eq_by_cmp pos_cmp pos (place_after before e) ≡ b → held_at (lanes_with (lanes_after before) e) pos ≡ cond b (Some e) (find pos_cmp pos (placed_events before))
    from rest true tie = ap (held_at (lanes_with (lanes_after before) e)) (same_from_tie pos_same pos (place_after before e) tie) ∙ own
    from rest false tie = other tie ∙ rest

merged-is : (events : List Traced) → merged (lanes_after events) ≡ map.from_entries (placed_events events)
merged-is events = same_map pos_cmp_total pos_same _ _ (λ pos. merged_at pos (lanes_after events) ∙ held-is events pos ∙ sym (get-from_entries pos_cmp_total (placed_events events) pos))

-- the dispatches of events that are loaded are those that they tell in order
pub same_told : (events : List Traced) → dispatches_held (loaded events) ≡ dispatches (reverse (in_order (acts_of [] events)))
same_told events =
    ap (λ (m : Events). dispatches (reverse (filter_map placed_act (map.entries m)))) (ap merged (loaded-is events) ∙ merged-is events)
    ∙ ap (λ (acts : List (Pos × Act)). dispatches (reverse acts))
    (seen_in_order pos_cmp pos_cmp_total pos_same (λ (e : Traced). act_of e.pid e.body) (placed_events events) (placed-distinct events)
    ∙ ap in_order (sym (acts-placed events)))
