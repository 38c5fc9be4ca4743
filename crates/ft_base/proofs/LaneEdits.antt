-- Unloading a lane, inserting an event and striking one keep a base reachable.
use Rattle.std.proofs.Common.{◌≡◌, ℕ, ◌+◌, ◌-◌, ◌<◌, ◌≤◌, Bool, true, false, cond, refl, sym, ap, ◌∙◌, Some, None, is_some, ⊎_elim, arith}
use Rattle.std.specs.Option.{option_map_or}
use Rattle.std.specs.Ordering.{nat_cmp, eq_by_cmp}
use Rattle.std.specs.Cmp.{nat_cmp_total}
use Rattle.std.specs.FinMap as map
use Rattle.std.specs.FinMap.{FinMap, get-insert, get-remove, len-remove, same_map, nat_cmp-IsAntisymmetric}
use Rattle.std.proofs.lemmas.Bool.{cases_eq}
use Rattle.std.proofs.lemmas.Option.{none-some}
use Rattle.ft_fields.specs.Traced.{Traced}
use Rattle.ft_lanes.specs.Held.{Lane, Lanes, HasCpu, event_limit, number_limit, held_in}
use Rattle.ft_lanes.specs.Edits.{new_lane, lane_or_new, lanes_with, lane_without, lanes_without}
use Rattle.ft_maps.specs.Entries.{get-remove_same, get-remove_other}
use Rattle.ft_base.specs.Base.{Base}
use Rattle.ft_base.specs.Reachable.{IsReachable}
use Rattle.ft_lanes.proofs.Counts.{sum-insert}
use Rattle.ft_base.proofs.Reachable.{IsLane, lanes-from, insert-AreLanes, lanes_with-AreLanes, held-lanes_with, lanes-IsReachable}

-- ---- what a removal leaves

-- what is found after a removal was there before
pub found-before : {X : Type 0} (m : FinMap nat_cmp X) (k q : ℕ) (v : X) → map.get (map.remove m k) q ≡ Some v → map.get m q ≡ Some v
found-before m k q v found =
    ⊎_elim
    (λ s. absurd (none-some v (sym (ap (map.get (map.remove m k)) s ∙ get-remove_same nat_cmp_total m k) ∙ found)))
    (λ ne. sym (get-remove_other nat_cmp_total nat_cmp-IsAntisymmetric m k q ne) ∙ found)
    (cases_eq q k)

len-at_most : (known : Bool) (n : ℕ) → cond known (n - 1) n ≤ n
len-at_most true n = omega arith
len-at_most false n = omega arith

-- and there is no more than before
pub len-removed : {X : Type 0} (m : FinMap nat_cmp X) (k : ℕ) → map.len (map.remove m k) ≤ map.len m
len-removed m k = omega (arith, len-remove nat_cmp_total m k, len-at_most (is_some (map.get m k)) (map.len m))

twice : {X : Type 0} (b : Bool) (x y z : X) → cond b x (cond b y z) ≡ cond b x z
twice true x y z = refl
twice false x y z = refl

-- when a key gets a value, what it had doesn't matter
insert-removed : {X : Type 0} (m : FinMap nat_cmp X) (k : ℕ) (v : X) → map.insert (map.remove m k) k v ≡ map.insert m k v
insert-removed m k v =
    same_map nat_cmp_total nat_cmp-IsAntisymmetric _ _ (λ q.
    get-insert nat_cmp_total (map.remove m k) k v q
    ∙ ap (cond (eq_by_cmp nat_cmp q k) (Some v)) (get-remove nat_cmp_total m k q)
    ∙ twice (eq_by_cmp nat_cmp q k) (Some v) None (map.get m q)
    ∙ sym (get-insert nat_cmp_total m k v q))

-- ---- unloading

abbrev count : Lane → ℕ
count lane = map.len lane.events

-- the events of a lane that is taken out are held no longer
pub held-removed : (lanes : Lanes) (cpu : ℕ) → held_in (map.remove lanes cpu) + option_map_or count (map.get lanes cpu) 0 ≡ held_in lanes
held-removed lanes cpu =
    let put_back = sum-insert nat_cmp_total count (map.remove lanes cpu) cpu new_lane in
    let none : option_map_or count (map.get (map.remove lanes cpu) cpu) 0 ≡ 0 = ap (λ o. option_map_or count o 0) (get-remove_same nat_cmp_total lanes cpu) in
    let same : held_in (map.insert (map.remove lanes cpu) cpu new_lane) ≡ held_in (map.insert lanes cpu new_lane) = ap held_in (insert-removed lanes cpu new_lane) in
    let put_over = sum-insert nat_cmp_total count lanes cpu new_lane in
    omega (arith, put_back, none, same, put_over)

pub unload-IsReachable : (base : Base) (cpu : ℕ) → IsReachable base → IsReachable (record base { lanes = map.remove base.lanes cpu })
unload-IsReachable base cpu is =
    lanes-IsReachable base (map.remove base.lanes cpu) is
    (λ q lane found. lanes-from base is q lane (found-before base.lanes cpu q lane found))
    (omega (arith, held-removed base.lanes cpu, is.few_events))

-- ---- inserting

pub insert-IsReachable : (base : Base) (e : Traced) → IsReachable base → HasCpu e → held_in base.lanes < event_limit → (lane_or_new base.lanes e.cpu).next ≤ number_limit → IsReachable (record base { lanes = lanes_with base.lanes e })
insert-IsReachable base e is at few room =
    let are = lanes-from base is in
    lanes-IsReachable base (lanes_with base.lanes e) is (lanes_with-AreLanes base.lanes e are at room) (omega (arith, held-lanes_with base.lanes e are at))

-- ---- striking

lane_without-IsLane : (cpu : ℕ) (lane : Lane) (line : ℕ) → IsLane cpu lane → IsLane cpu (lane_without lane line)
lane_without-IsLane cpu lane line is = record {
  at_cpu = is.at_cpu;
  numbers = is.numbers;
  lines = λ other event found. is.lines other event (found-before lane.events line other event found);
}

pub strike-IsReachable : (base : Base) (cpu line : ℕ) → IsReachable base → IsReachable (record base { lanes = lanes_without base.lanes cpu line })
strike-IsReachable base cpu line is =
    elim (map.get base.lanes cpu) as (λ o. map.get base.lanes cpu ≡ o → IsReachable (record base { lanes = option_map_or (λ lane. map.insert base.lanes cpu (lane_without lane line)) o base.lanes })) [
      | None ↦ λ _. is
      | Some lane ↦ λ held.
          let are = lanes-from base is in
          let sums = sum-insert nat_cmp_total count base.lanes cpu (lane_without lane line) in
          let was : option_map_or count (map.get base.lanes cpu) 0 ≡ count lane = ap (λ o. option_map_or count o 0) held in
          lanes-IsReachable base (map.insert base.lanes cpu (lane_without lane line)) is
          (insert-AreLanes base.lanes cpu (lane_without lane line) are (lane_without-IsLane cpu lane line (are cpu lane held)))
          (omega (arith, sums, was, len-removed lane.events line, is.few_events))
    ] refl
