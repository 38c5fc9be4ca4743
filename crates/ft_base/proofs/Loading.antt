-- A load into lanes that are free: they have numbers for its events, and what was held stays.
use Rattle.std.proofs.Common.{◌≡◌, ℕ, ◌+◌, ◌≤◌, suc, Bool, true, false, cond, List, ◌∷◌, length, refl, sym, ap, ◌∙◌, subst, Option, Some, None, is_some, unwrap_or, ⊎_elim, arith}
use Rattle.std.specs.Cmp.{nat_cmp_total}
use Rattle.std.specs.FinMap as map
use Rattle.std.specs.FinMap.{nat_cmp-IsAntisymmetric}
use Rattle.std.proofs.lemmas.Bool.{cases_eq, eq-eqb, or_left, or_right}
use Rattle.std.proofs.option.Match.{None-if_not_some}
use Rattle.ft_fields.specs.Traced.{Traced}
use Rattle.ft_lanes.specs.Held.{Lane, Lanes, number_limit, event_limit}
use Rattle.ft_lanes.specs.Loaded.{lane_of, with_lanes, first_held}
use Rattle.ft_lanes.specs.Edits.{new_lane, lane_with, lanes_with}
use Rattle.ft_lanes.specs.inner.Slots.{has_cpu}
use Rattle.ft_lanes.proofs.Loads.{free-held, with_lanes-at}
use Rattle.ft_maps.specs.Entries.{get-insert_same, get-insert_other}

-- the lanes of the events' CPUs have numbers left for all of them
abbrev pub HasRoom : Lanes → List Traced → Type 0
HasRoom lanes events = (cpu : ℕ) → has_cpu events cpu ≡ true → (unwrap_or (map.get lanes cpu) new_lane).next + length events ≤ number_limit + 1

-- ---- the numbers that are left

pub room-here : (m : Lanes) (e : Traced) (es : List Traced) → HasRoom m (e ∷ es) → (unwrap_or (map.get m e.cpu) new_lane).next ≤ number_limit
room-here m e es h =
    let fits : (unwrap_or (map.get m e.cpu) new_lane).next + suc (length es) ≤ number_limit + 1 = h e.cpu (or_left _ _ (eq-eqb e.cpu e.cpu refl)) in
    omega arith

pub room-next : (m : Lanes) (e : Traced) (es : List Traced) → HasRoom m (e ∷ es) → HasRoom (lanes_with m e) es
room-next m e es h q is =
    let old : (unwrap_or (map.get m q) new_lane).next + suc (length es) ≤ number_limit + 1 = h q (or_right _ _ is) in
    let P : Option Lane → Type 0 = λ o. (unwrap_or o new_lane).next + length es ≤ number_limit + 1 in
    ⊎_elim
    (λ s.
    let here : map.get (lanes_with m e) q ≡ Some (lane_with (unwrap_or (map.get m q) new_lane) e) = ap (map.get (lanes_with m e)) s ∙ get-insert_same nat_cmp_total m e.cpu _ ∙ ap (λ k. Some (lane_with (unwrap_or (map.get m k) new_lane) e)) (sym s) in
    subst P (sym here) (omega arith))
    (λ ne. subst P (sym (get-insert_other nat_cmp_total nat_cmp-IsAntisymmetric m e.cpu _ q ne)) (omega arith))
    (cases_eq q e.cpu)

-- ---- if no event's lane is held

-- what was held stays as it was
pub held-stays : (lanes : Lanes) (es : List Traced) → first_held lanes es ≡ None → (q : ℕ) (b : Bool) → map.contains_key lanes q ≡ b → cond b (map.get (with_lanes lanes es) q) None ≡ map.get lanes q
held-stays lanes es none q true is = with_lanes-at lanes es q ∙ elim (has_cpu es q) as (λ b. has_cpu es q ≡ b → cond b (Some (lane_of q es)) (map.get lanes q) ≡ map.get lanes q) [
  | true ↦ λ has. let both : ◌≡◌ {A = Bool} false true = ap is_some (sym (free-held lanes es none q has)) ∙ is in absurd cc
  | false ↦ λ _. refl
] refl
held-stays lanes es none q false is = sym (None-if_not_some (map.get lanes q) is)

-- and new lanes have numbers for all that may be held
pub room-from : (lanes : Lanes) (es : List Traced) → first_held lanes es ≡ None → length es ≤ event_limit → HasRoom lanes es
room-from lanes es none few q is =
    let P : Option Lane → Type 0 = λ o. (unwrap_or o new_lane).next + length es ≤ number_limit + 1 in
    subst P (sym (free-held lanes es none q is)) (omega arith)
