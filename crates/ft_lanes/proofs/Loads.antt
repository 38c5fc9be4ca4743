-- Slots for the events of a load, one by one: they stand for the lanes that a load gives, and removing them again leaves the old ones.
use mathlib.Core.Bool.{false≢true}
use Rattle.std.proofs.Common.{◌≡◌, ℕ, ◌+◌, ◌<◌, ◌≤◌, zero, suc, Bool, true, false, cond, ◌==◌, ◌||◌, List, [], ◌∷◌, ◌++◌, length, get_or, drop, filter, fold, refl, sym, ap, ◌∙◌, subst, Option, Some, None, option_map, unwrap_or, ⊎_elim, append_assoc, arith}
use Rattle.std.specs.List.{enumerate_from}
use Rattle.std.specs.List as list
use Rattle.std.specs.Ordering.{nat_cmp}
use Rattle.std.specs.Cmp.{nat_cmp_total, unsigned_tied}
use Rattle.std.specs.FinMap as map
use Rattle.std.specs.FinMap.{FinMap, find, same_map, from_entries_push, nat_cmp-IsAntisymmetric}
use Rattle.std.proofs.lemmas.Bool.{cases_eq, eq-eqb, ne_eqb, eqb-true, or_cases, or_parts, or_left, or_right}
use Rattle.std.proofs.lemmas.List.{append-nil, length_push, at_drop_more, at_drop_all}
use Rattle.std.proofs.Math.Seq.{drop-append_seam}
use Rattle.std.proofs.lemmas.List.Elements.{filter-append}
use Rattle.std.proofs.lemmas.List.Folds.{list_any-append}
use Rattle.std.proofs.option.Match.{None-if_not_some}
use Rattle.ft_fields.specs.Traced.{Traced}
use Rattle.ft_lanes.specs.Held.{Lane, Lanes, number_limit, event_limit}
use Rattle.ft_lanes.specs.Loaded.{lane_of, with_lanes, first_held}
use Rattle.ft_lanes.specs.Edits.{new_lane, lane_with, lanes_with}
use Rattle.ft_store.specs.Stored.{stored_at}
use Rattle.ft_lanes.specs.inner.Slots.{SlotsOf, AllSlots, no_slots, slots_with, all_with, all_from, slots_in, lane_by, lanes_by, first_cpu, has_cpu, AgreeBeside, HasRoom, IsFreeOf, AreWithin, AreStored}
use Rattle.ft_lanes.proofs.Each.{within-longer, within-with}
use Rattle.ft_lanes.proofs.Views.{held-slots_of, lanes-with, lanes-appended, lane-found}
use Rattle.ft_maps.specs.Entries.{get-insert_same, get-insert_other, get-remove_same, get-remove_other}
use Rattle.ft_maps.proofs.Common.{cond_same}

-- ---- the numbers that are left

pub room-here : (m : AllSlots) (e : Traced) (es : List Traced) → HasRoom m (e ∷ es) → (unwrap_or (map.get m e.cpu) no_slots).next ≤ number_limit
room-here m e es h =
    let fits : (unwrap_or (map.get m e.cpu) no_slots).next + suc (length es) ≤ number_limit + 1 = h e.cpu (or_left _ _ (eq-eqb e.cpu e.cpu refl)) in
    omega arith

pub room-next : (m : AllSlots) (e : Traced) (es : List Traced) (place : ℕ) → HasRoom m (e ∷ es) → HasRoom (all_with m e.cpu place) es
room-next m e es place h q is =
    let old : (unwrap_or (map.get m q) no_slots).next + suc (length es) ≤ number_limit + 1 = h q (or_right _ _ is) in
    let P : Option SlotsOf → Type 0 = λ o. (unwrap_or o no_slots).next + length es ≤ number_limit + 1 in
    ⊎_elim
    (λ s.
    let here : map.get (all_with m e.cpu place) q ≡ Some (slots_with (unwrap_or (map.get m q) no_slots) place) = ap (map.get (all_with m e.cpu place)) s ∙ get-insert_same nat_cmp_total m e.cpu _ ∙ ap (λ k. Some (slots_with (unwrap_or (map.get m k) no_slots) place)) (sym s) in
    subst P (sym here) (omega arith))
    (λ ne. subst P (sym (get-insert_other nat_cmp_total nat_cmp-IsAntisymmetric m e.cpu _ q ne)) (omega arith))
    (cases_eq q e.cpu)

-- ---- lanes beside the events' CPUs stay

-- an event of the list has its CPU
pub has_cpu-at : (es : List Traced) (i : ℕ) (d : Traced) → i < length es → has_cpu es (get_or es i d).cpu ≡ true
has_cpu-at [] i d lt = absurd (omega arith)
has_cpu-at (e ∷ es) zero d lt = or_left _ _ (eq-eqb e.cpu e.cpu refl)
has_cpu-at (e ∷ es) (suc i) d lt = or_right _ _ (has_cpu-at es i d (omega arith))

-- ---- the lane that a list of events gives a CPU

abbrev own : ℕ → List Traced → List Traced
own cpu es = filter (λ e. e.cpu == cpu) es

abbrev lane_from : List Traced → Lane
lane_from es = record { events = map.from_entries (enumerate_from 1 es); next = length es + 1 }

lane_of-own : (cpu : ℕ) (es : List Traced) → lane_of cpu es ≡ lane_from (own cpu es)
unfolding lane_of
lane_of-own cpu es = refl

own-none : (cpu : ℕ) (es : List Traced) → has_cpu es cpu ≡ false → own cpu es ≡ []
own-none cpu [] none = refl
own-none cpu (e ∷ es) none =
    let parts = or_parts _ _ none in
    ap (λ b. cond b (e ∷ own cpu es) (own cpu es)) parts.0 ∙ own-none cpu es parts.1

lane_of-none : (cpu : ℕ) (es : List Traced) → has_cpu es cpu ≡ false → lane_of cpu es ≡ new_lane
lane_of-none cpu es none = lane_of-own cpu es ∙ ap lane_from (own-none cpu es none)

enumerate_from-push : (n : ℕ) (es : List Traced) (e : Traced) → enumerate_from n (es ++ e ∷ []) ≡ enumerate_from n es ++ (n + length es, e) ∷ []
enumerate_from-push n [] e = ap (λ (k : ℕ). (k, e) ∷ []) (omega arith)
enumerate_from-push n (x ∷ es) e =
    let same : n + 1 + length es ≡ n + suc (length es) = omega arith in
    ap (λ r. (n, x) ∷ r) (enumerate_from-push (n + 1) es e ∙ ap (λ k. enumerate_from (n + 1) es ++ (k, e) ∷ []) same)

-- a number past the last is not found
find-past : (n : ℕ) (es : List Traced) (k : ℕ) → n + length es ≤ k → find nat_cmp k (enumerate_from n es) ≡ None
find-past n [] k past = refl
find-past n (x ∷ es) k past =
    ap (λ b. cond b (Some x) (find nat_cmp k (enumerate_from (n + 1) es))) (unsigned_tied k n ∙ ne_eqb k n (λ s. omega arith))
    ∙ find-past (n + 1) es k (omega arith)

lane_from-push : (es : List Traced) (e : Traced) → lane_from (es ++ e ∷ []) ≡ lane_with (lane_from es) e
lane_from-push es e =
    let at : 1 + length es ≡ length es + 1 = omega arith in
    let events : map.from_entries {R = nat_cmp} (enumerate_from 1 (es ++ e ∷ [])) ≡ map.insert (map.from_entries (enumerate_from 1 es)) (length es + 1) e =
    ap map.from_entries (enumerate_from-push 1 es e ∙ ap (λ k. enumerate_from 1 es ++ (k, e) ∷ []) at)
    ∙ from_entries_push nat_cmp_total nat_cmp-IsAntisymmetric (enumerate_from 1 es) (length es + 1) e (find-past 1 es (length es + 1) (omega arith)) in
    let next : length (es ++ e ∷ []) + 1 ≡ length es + 1 + 1 = ap (λ n. n + 1) (length_push es e) in
    λ i. record { events = events i; next = next i }

lane_of-here : (cpu : ℕ) (es : List Traced) (e : Traced) → e.cpu ≡ cpu → lane_of cpu (es ++ e ∷ []) ≡ lane_with (lane_of cpu es) e
lane_of-here cpu es e is =
    lane_of-own cpu (es ++ e ∷ [])
    ∙ ap lane_from (filter-append (λ e. e.cpu == cpu) es (e ∷ []) ∙ ap (λ b. own cpu es ++ cond b (e ∷ []) []) (eq-eqb e.cpu cpu is))
    ∙ lane_from-push (own cpu es) e ∙ ap (λ l. lane_with l e) (sym (lane_of-own cpu es))

lane_of-apart : (cpu : ℕ) (es : List Traced) (e : Traced) → (e.cpu ≡ cpu → ⊥) → lane_of cpu (es ++ e ∷ []) ≡ lane_of cpu es
lane_of-apart cpu es e ne =
    lane_of-own cpu (es ++ e ∷ [])
    ∙ ap lane_from (filter-append (λ e. e.cpu == cpu) es (e ∷ []) ∙ ap (λ b. own cpu es ++ cond b (e ∷ []) []) (ne_eqb e.cpu cpu ne) ∙ append-nil (own cpu es))
    ∙ sym (lane_of-own cpu es)

-- ---- the lanes after some events, CPU by CPU

-- the old lane, or if an event has the CPU, the lane that the events give it
abbrev pub lane_at : Lanes → List Traced → ℕ → Option Lane
lane_at lanes es cpu = cond (has_cpu es cpu) (Some (lane_of cpu es)) (map.get lanes cpu)

has_cpu-here : (es : List Traced) (e : Traced) → has_cpu (es ++ e ∷ []) e.cpu ≡ true
has_cpu-here es e = list_any-append (λ x. x.cpu == e.cpu) es (e ∷ []) ∙ or_right (has_cpu es e.cpu) _ (or_left _ _ (eq-eqb e.cpu e.cpu refl))

or-false : (b : Bool) → (b || false) ≡ b
or-false true = refl
or-false false = refl

has_cpu-apart : (es : List Traced) (e : Traced) (cpu : ℕ) → (e.cpu ≡ cpu → ⊥) → has_cpu (es ++ e ∷ []) cpu ≡ has_cpu es cpu
has_cpu-apart es e cpu ne =
    list_any-append (λ x. x.cpu == cpu) es (e ∷ [])
    ∙ ap (λ b. has_cpu es cpu || (b || false)) (ne_eqb e.cpu cpu ne) ∙ or-false (has_cpu es cpu)

-- the lane that the next event of a CPU goes to
lane_before : (lanes : Lanes) (es : List Traced) (cpu : ℕ) → map.get lanes cpu ≡ None → (b : Bool) → has_cpu es cpu ≡ b → unwrap_or (cond b (Some (lane_of cpu es)) (map.get lanes cpu)) new_lane ≡ lane_of cpu es
lane_before lanes es cpu free true is = refl
lane_before lanes es cpu free false is = ap (λ o. unwrap_or o new_lane) free ∙ sym (lane_of-none cpu es is)

lane_at-push : (lanes m : Lanes) (es : List Traced) (e : Traced) → map.get lanes e.cpu ≡ None → ((q : ℕ) → map.get m q ≡ lane_at lanes es q) → (q : ℕ) → map.get (lanes_with m e) q ≡ lane_at lanes (es ++ e ∷ []) q
lane_at-push lanes m es e free now q =
    let here : map.get (lanes_with m e) e.cpu ≡ lane_at lanes (es ++ e ∷ []) e.cpu =
    get-insert_same nat_cmp_total m e.cpu (lane_with (unwrap_or (map.get m e.cpu) new_lane) e)
    ∙ ap (λ l. Some (lane_with l e)) (ap (λ o. unwrap_or o new_lane) (now e.cpu) ∙ lane_before lanes es e.cpu free _ refl)
    ∙ ap Some (sym (lane_of-here e.cpu es e refl))
    ∙ ap (λ b. cond b (Some (lane_of e.cpu (es ++ e ∷ []))) (map.get lanes e.cpu)) (sym (has_cpu-here es e)) in
    ⊎_elim
    (λ s. subst (λ k. map.get (lanes_with m e) k ≡ lane_at lanes (es ++ e ∷ []) k) (sym s) here)
    (λ ne.
    let other : e.cpu ≡ q → ⊥ = λ s. ne (sym s) in
    get-insert_other nat_cmp_total nat_cmp-IsAntisymmetric m e.cpu _ q ne ∙ now q
    ∙ ap (λ l. cond (has_cpu es q) (Some l) (map.get lanes q)) (sym (lane_of-apart q es e other))
    ∙ ap (λ b. cond b (Some (lane_of q (es ++ e ∷ []))) (map.get lanes q)) (sym (has_cpu-apart es e q other)))
    (cases_eq q e.cpu)

-- the events that are left bring the lanes to those of all events
abbrev pub IsFree : Lanes → List Traced → Type 0
IsFree lanes es = (q : ℕ) → has_cpu es q ≡ true → map.get lanes q ≡ None

lane_at-all : (lanes m : Lanes) (done rest all : List Traced) → IsFree lanes rest → done ++ rest ≡ all → ((q : ℕ) → map.get m q ≡ lane_at lanes done q) → (q : ℕ) → map.get (fold lanes_with m rest) q ≡ lane_at lanes all q
lane_at-all lanes m done [] all free is now q = now q ∙ ap (λ es. lane_at lanes es q) (sym (append-nil done) ∙ is)
lane_at-all lanes m done (e ∷ es) all free is now q =
    lane_at-all lanes (lanes_with m e) (done ++ e ∷ []) es all (λ k h. free k (or_right _ _ h)) (append_assoc done (e ∷ []) es ∙ is) (lane_at-push lanes m done e (free e.cpu (or_left _ _ (eq-eqb e.cpu e.cpu refl))) now) q

-- and so does `with_lanes`
each_lane : (all : List Traced) (m : Lanes) (es : List Traced) (q : ℕ) → map.get (fold (λ n e. map.insert n e.cpu (lane_of e.cpu all)) m es) q ≡ cond (has_cpu es q) (Some (lane_of q all)) (map.get m q)
each_lane all m [] q = refl
each_lane all m (e ∷ es) q =
    each_lane all (map.insert m e.cpu (lane_of e.cpu all)) es q
    ∙ ⊎_elim
    (λ s.
    ap (λ o. cond (has_cpu es q) (Some (lane_of q all)) o) (ap (map.get (map.insert m e.cpu (lane_of e.cpu all))) s ∙ get-insert_same nat_cmp_total m e.cpu _ ∙ ap (λ k. Some (lane_of k all)) (sym s))
    ∙ cond_same (has_cpu es q) _
    ∙ ap (λ b. cond (b || has_cpu es q) (Some (lane_of q all)) (map.get m q)) (sym (eq-eqb e.cpu q (sym s))))
    (λ ne.
    ap (λ o. cond (has_cpu es q) (Some (lane_of q all)) o) (get-insert_other nat_cmp_total nat_cmp-IsAntisymmetric m e.cpu _ q ne)
    ∙ ap (λ b. cond (b || has_cpu es q) (Some (lane_of q all)) (map.get m q)) (sym (ne_eqb e.cpu q (λ s. ne (sym s)))))
    (cases_eq q e.cpu)

pub with_lanes-at : (lanes : Lanes) (es : List Traced) (q : ℕ) → map.get (with_lanes lanes es) q ≡ lane_at lanes es q
unfolding with_lanes
with_lanes-at lanes es q = each_lane es lanes es q

-- if the CPUs are free, adding event by event is the same as adding lane by lane
pub with_lanes-fold : (lanes : Lanes) (es : List Traced) → IsFree lanes es → fold lanes_with lanes es ≡ with_lanes lanes es
with_lanes-fold lanes es free = same_map nat_cmp_total nat_cmp-IsAntisymmetric _ _ (λ q. lane_at-all lanes lanes [] es es free refl (λ k. refl) q ∙ sym (with_lanes-at lanes es q))

-- ---- the first event whose lane is held

first_cpu-cons : (has : ℕ → Bool) (e : Traced) (es : List Traced) → first_cpu has (e ∷ es) ≡ cond (has e.cpu) (Some e.cpu) (first_cpu has es)
first_cpu-cons has e es = elim (has e.cpu) as (λ b. option_map (λ x. x.cpu) (cond b (Some e) (list.find (λ x. has x.cpu) es)) ≡ cond b (Some e.cpu) (option_map (λ x. x.cpu) (list.find (λ x. has x.cpu) es))) [ true ↦ refl | false ↦ refl ]

-- a loop's step, and its end
pub first_cpu-at : (has : ℕ → Bool) (es : List Traced) (i : ℕ) (d : Traced) → i < length es → first_cpu has (drop i es) ≡ cond (has (get_or es i d).cpu) (Some (get_or es i d).cpu) (first_cpu has (drop (i + 1) es))
first_cpu-at has es i d lt = at_drop_more (first_cpu has) es i d lt ∙ first_cpu-cons has (get_or es i d) (drop (i + 1) es)

pub first_cpu-end : (has : ℕ → Bool) (es : List Traced) (i : ℕ) → length es ≤ i → first_cpu has (drop i es) ≡ None
first_cpu-end has es i le = at_drop_all (first_cpu has) es i le

first_cpu-same : (f g : ℕ → Bool) → ((cpu : ℕ) → f cpu ≡ g cpu) → (es : List Traced) → first_cpu f es ≡ first_cpu g es
first_cpu-same f g same [] = refl
first_cpu-same f g same (e ∷ es) =
    first_cpu-cons f e es ∙ (λ i. cond (same e.cpu i) (Some e.cpu) (first_cpu-same f g same es i)) ∙ sym (first_cpu-cons g e es)

first_held-cpu : (lanes : Lanes) (es : List Traced) → first_held lanes es ≡ first_cpu (map.contains_key lanes) es
unfolding first_held
first_held-cpu lanes es = refl

-- a lane is held exactly if its slots are
pub first_held-slots : (f : ℕ → Traced) (all : AllSlots) (es : List Traced) → first_cpu (map.contains_key all) es ≡ first_held (lanes_by f all) es
first_held-slots f all es = first_cpu-same _ _ (λ cpu. sym (held-slots_of f all cpu)) es ∙ sym (first_held-cpu (lanes_by f all) es)

free-step : (has : Bool) (cpu : ℕ) (rest : Option ℕ) → cond has (Some cpu) rest ≡ None → (has ≡ false) × (rest ≡ None)
free-step true cpu rest none = cc
free-step false cpu rest none = (refl, none)

-- if no event's CPU has an entry, the CPUs are free
pub free-from : {X : Type 0} (m : FinMap nat_cmp X) (es : List Traced) → first_cpu (map.contains_key m) es ≡ None → (q : ℕ) → has_cpu es q ≡ true → map.get m q ≡ None
free-from m [] none q is = cc
free-from m (e ∷ es) none q is =
    let step = free-step _ e.cpu _ (sym (first_cpu-cons (map.contains_key m) e es) ∙ none) in
    ⊎_elim (λ h. ap (map.get m) (sym (eqb-true e.cpu q h)) ∙ None-if_not_some _ step.0) (λ h. free-from m es step.1 q h) (or_cases _ _ is)

pub free-held : (lanes : Lanes) (es : List Traced) → first_held lanes es ≡ None → IsFree lanes es
free-held lanes es none = free-from lanes es (sym (first_held-cpu lanes es) ∙ none)

-- and new lanes have numbers for all that may be held
pub room-from : (all : AllSlots) (es : List Traced) → IsFreeOf all es → length es ≤ event_limit → HasRoom all es
room-from all es free few q is =
    let P : Option SlotsOf → Type 0 = λ o. (unwrap_or o no_slots).next + length es ≤ number_limit + 1 in
    subst P (sym (free q is)) (omega arith)

-- ---- removing the lanes of the events' CPUs

remove-at : (m : AllSlots) (es : List Traced) (q : ℕ) → map.get (fold (λ n e. map.remove n e.cpu) m es) q ≡ cond (has_cpu es q) None (map.get m q)
remove-at m [] q = refl
remove-at m (e ∷ es) q =
    remove-at (map.remove m e.cpu) es q
    ∙ ⊎_elim
    (λ s.
    ap (λ o. cond (has_cpu es q) None o) (ap (map.get (map.remove m e.cpu)) s ∙ get-remove_same nat_cmp_total m e.cpu)
    ∙ cond_same (has_cpu es q) None
    ∙ ap (λ b. cond (b || has_cpu es q) None (map.get m q)) (sym (eq-eqb e.cpu q (sym s))))
    (λ ne.
    ap (λ o. cond (has_cpu es q) None o) (get-remove_other nat_cmp_total nat_cmp-IsAntisymmetric m e.cpu q ne)
    ∙ ap (λ b. cond (b || has_cpu es q) None (map.get m q)) (sym (ne_eqb e.cpu q (λ s. ne (sym s)))))
    (cases_eq q e.cpu)

as_before : (lanes m : AllSlots) (es : List Traced) → IsFreeOf lanes es → AgreeBeside es lanes m → (q : ℕ) (b : Bool) → has_cpu es q ≡ b → cond b None (map.get m q) ≡ map.get lanes q
as_before lanes m es free beside q true is = sym (free q is)
as_before lanes m es free beside q false is = beside q is

-- gives the lanes from before, if the CPUs were free
pub removed-back : (lanes m : AllSlots) (es : List Traced) → IsFreeOf lanes es → AgreeBeside es lanes m → fold (λ n e. map.remove n e.cpu) m es ≡ lanes
removed-back lanes m es none beside = same_map nat_cmp_total nat_cmp-IsAntisymmetric _ _ (λ q. remove-at m es q ∙ as_before lanes m es (none) beside q _ refl)

-- ---- slots for the events, one by one

-- what holds once i events have slots, the next of which is at this place
pub record Pushed (old : AllSlots) (first : ℕ) (es : List Traced) (new : AllSlots) (place i : ℕ) : Type 0 where
  pub rest : all_from new place (drop i es) ≡ all_from old first es
  pub at : place ≡ first + i
  pub room : HasRoom new (drop i es)
  pub beside : AgreeBeside es old new
  pub counted : slots_in new ≡ slots_in old + i

pub pushed-start : (old : AllSlots) (first : ℕ) (es : List Traced) → HasRoom old es → Pushed old first es old first 0
pushed-start old first es room = record { rest = refl; at = omega arith; room = room; beside = λ q away. refl; counted = omega arith }

module _ (old : AllSlots) (first : ℕ) (es : List Traced) (m : AllSlots) (place i : ℕ) (is : Pushed old first es m place i) (d : Traced) (lt : i < length es) where
  next_room : HasRoom m (get_or es i d ∷ drop (i + 1) es)
  next_room = subst (HasRoom m) (at_drop_more (λ l. l) es i d lt) is.room

  -- the next event's lane has a number left
  pub pushed-room : (unwrap_or (map.get m (get_or es i d).cpu) no_slots).next ≤ number_limit
  pushed-room = room-here m (get_or es i d) (drop (i + 1) es) next_room

  -- the next event has a slot
  pub pushed-step : (n : AllSlots) → n ≡ all_with m (get_or es i d).cpu place → slots_in n ≡ slots_in m + 1 → Pushed old first es n (place + 1) (i + 1)
  pushed-step n e more =
      let ev = get_or es i d in
      record {
        rest = ap (λ s. all_from s (place + 1) (drop (i + 1) es)) e ∙ sym (at_drop_more (all_from m place) es i d lt) ∙ is.rest;
        at = omega (arith, is.at);
        room = subst (λ s. HasRoom s (drop (i + 1) es)) (sym e) (room-next m ev (drop (i + 1) es) place next_room);
        beside = λ q away. ap (λ s. map.get s q) e ∙ get-insert_other nat_cmp_total nat_cmp-IsAntisymmetric m ev.cpu _ q (λ s. false≢true (sym away ∙ ap (has_cpu es) s ∙ has_cpu-at es i d lt)) ∙ is.beside q away;
        counted = omega (arith, is.counted);
      }

-- and in the end all events have
pub pushed-end : (old : AllSlots) (first : ℕ) (es : List Traced) (m : AllSlots) (place i : ℕ) → Pushed old first es m place i → length es ≤ i → m ≡ all_from old first es
pushed-end old first es m place i is le = sym (at_drop_all (all_from m place) es i le) ∙ is.rest

-- slots are places of a store that has the events
pub within-all : (n : ℕ) (all : AllSlots) (first : ℕ) (es : List Traced) → AreWithin n all → first + length es ≤ n → AreWithin n (all_from all first es)
within-all n all first [] within le = within
within-all n all first (e ∷ es) within le = within-all n (all_with all e.cpu first) (first + 1) es (within-with n all e.cpu first within (omega arith)) (omega arith)

-- ---- the lanes that they stand for

-- the events stand from a place on
abbrev pub Stands : (ℕ → Traced) → ℕ → List Traced → Type 0
Stands f n [] = Unit {0}
Stands f n (e ∷ es) = (f n ≡ e) × Stands f (n + 1) es

stored-mid : (store : List Traced) (e : Traced) (es : List Traced) → stored_at (store ++ e ∷ es) (length store) ≡ e
stored-mid [] e es = refl
stored-mid (x ∷ store) e es = stored-mid store e es

-- events after a store stand from its end on
pub stands : (store es : List Traced) → Stands (stored_at (store ++ es)) (length store) es
stands store [] = tt
stands store (e ∷ es) = (
  stored-mid store e es,
  subst (λ l. Stands (stored_at l) (length store + 1) es) (append_assoc store (e ∷ []) es)
      (subst (λ n. Stands (stored_at ((store ++ e ∷ []) ++ es)) n es) (length_push store e) (stands (store ++ e ∷ []) es)),
)

lanes-all_from : (f : ℕ → Traced) (all : AllSlots) (n : ℕ) (es : List Traced) → Stands f n es → lanes_by f (all_from all n es) ≡ fold lanes_with (lanes_by f all) es
lanes-all_from f all n [] s = refl
lanes-all_from f all n (e ∷ es) s =
    lanes-all_from f (all_with all e.cpu n) (n + 1) es s.1
    ∙ ap (λ m. fold lanes_with m es) (lanes-with f all e.cpu n ∙ ap (λ x. map.insert (lanes_by f all) e.cpu (lane_with (unwrap_or (map.get (lanes_by f all) e.cpu) new_lane) x)) s.0)

-- slots for all events of a load stand for its lanes
pub lanes-loaded : (store es : List Traced) (all : AllSlots) → AreWithin (length store) all → IsFreeOf all es → lanes_by (stored_at (store ++ es)) (all_from all (length store) es) ≡ with_lanes (lanes_by (stored_at store) all) es
lanes-loaded store es all within free =
    lanes-all_from (stored_at (store ++ es)) all (length store) es (stands store es)
    ∙ ap (λ m. fold lanes_with m es) (lanes-appended store es all within)
    ∙ with_lanes-fold (lanes_by (stored_at store) all) es (λ q is. lane-found (stored_at store) all q ∙ ap (option_map (lane_by (stored_at store))) (free q is))

-- what is stored after a load
pub stored-all : (n held first count : ℕ) (es : List Traced) (all new : AllSlots) → AreStored n held all → first ≡ n → count ≡ length es → new ≡ all_from all first es → slots_in new ≡ slots_in all + length es → AreStored (n + length es) (held + count) new
stored-all n held first count es all new are at is e more = record {
  within = subst (AreWithin (n + length es)) (sym e) (within-all (n + length es) all first es (within-longer n (n + length es) (omega arith) all are.within) (omega arith));
  counted = omega (arith, are.counted);
  few = omega (arith, are.few);
}

-- what stands after a front
pub behind : (front rest whole : List Traced) (start : ℕ) → whole ≡ front ++ rest → start ≡ length front → drop start whole ≡ rest
behind front rest whole start e s = (λ i. drop (s i) (e i)) ∙ drop-append_seam front rest
