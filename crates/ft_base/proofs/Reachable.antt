-- Edits keep what holds of reachable bases.
use Rattle.std.proofs.Common.{◌≡◌, ℕ, ◌+◌, ◌<◌, ◌≤◌, cond, List, [], ◌∷◌, map as list_map, length, fold, refl, sym, ap, ◌∙◌, subst, Option, Some, None, unwrap_or, is_some, ⊎_elim, arith}
use Rattle.std.specs.List.{AllByRecursion, sum_by}
use Rattle.std.specs.Option.{option_map_or}
use Rattle.std.specs.Ordering.{nat_cmp}
use Rattle.std.specs.Cmp.{nat_cmp_total}
use Rattle.std.specs.FinMap as map
use Rattle.std.specs.FinMap.{get-empty, len-empty, len-insert, nat_cmp-IsAntisymmetric}
use Rattle.std.proofs.lemmas.Bool.{cases_eq}
use Rattle.ft_fields.specs.Traced.{Traced, last_cpu}
use Rattle.ft_hist.specs.Hist.{Hist}
use Rattle.ft_lanes.specs.Held.{Lane, Lanes, number_limit, event_limit, held_in}
use Rattle.ft_base.specs.Base.{Base, empty_base, trigger_limit}
use Rattle.ft_lanes.specs.Loaded.{with_lanes, first_held}
use Rattle.ft_lanes.specs.Held.{HasCpu}
use Rattle.ft_base.specs.Reachable.{IsReachable}
use Rattle.ft_lanes.specs.Edits.{new_lane, lane_with, lanes_with}
use Rattle.ft_maps.specs.Entries.{entries-empty, get-insert_same, get-insert_other}
use Rattle.ft_base.proofs.Loading.{HasRoom, room-here, room-next, room-from}
use Rattle.ft_lanes.proofs.Counts.{sum-insert}
use Rattle.ft_lanes.proofs.Loads.{free-held, with_lanes-fold}

-- what holds of a CPU's lane
pub record IsLane (cpu : ℕ) (lane : Lane) : Type 0 where
  pub at_cpu : cpu ≤ last_cpu
  pub numbers : (1 ≤ lane.next) × (lane.next ≤ number_limit + 1)
  pub lines : (line : ℕ) (event : Traced) → map.get lane.events line ≡ Some event → (1 ≤ line) × (line < lane.next) × (event.cpu ≡ cpu)

abbrev pub AreLanes : Lanes → Type 0
AreLanes lanes = (cpu : ℕ) (lane : Lane) → map.get lanes cpu ≡ Some lane → IsLane cpu lane

pub same-Some : {X : Type 0} (x y : X) → Some x ≡ Some y → x ≡ y
same-Some x y e = ap (λ o. unwrap_or o x) e

new-IsLane : (cpu : ℕ) → cpu ≤ last_cpu → IsLane cpu new_lane
new-IsLane cpu le = record {
  at_cpu = le;
  numbers = (omega arith, omega arith);
  lines = λ line event is. let none : None ≡ Some event = sym (get-empty nat_cmp line) ∙ is in cc;
}

lane_with-IsLane : (cpu : ℕ) (lane : Lane) (e : Traced) → IsLane cpu lane → e.cpu ≡ cpu → lane.next ≤ number_limit → IsLane cpu (lane_with lane e)
lane_with-IsLane cpu lane e is at room = record {
  at_cpu = is.at_cpu;
  numbers = (omega arith, omega arith);
  lines = λ line event found.
      ⊎_elim
      (λ s.
      let same : e ≡ event = same-Some e event (sym (ap (map.get (map.insert lane.events lane.next e)) s ∙ get-insert_same nat_cmp_total lane.events lane.next e) ∙ found) in
      (omega (arith, is.numbers.0), omega arith, ap (λ t. t.cpu) (sym same) ∙ at))
      (λ ne.
      let old = is.lines line event (sym (get-insert_other nat_cmp_total nat_cmp-IsAntisymmetric lane.events lane.next e line ne) ∙ found) in
      (old.0, omega (arith, old.1), old.2))
      (cases_eq line lane.next);
}

-- the lane that an event goes to
lane-or_new : (lanes : Lanes) (cpu : ℕ) → AreLanes lanes → cpu ≤ last_cpu → IsLane cpu (unwrap_or (map.get lanes cpu) new_lane)
lane-or_new lanes cpu are le =
    elim (map.get lanes cpu) as (λ o. map.get lanes cpu ≡ o → IsLane cpu (unwrap_or o new_lane)) [
      | None ↦ λ _. new-IsLane cpu le
      | Some lane ↦ λ is. are cpu lane is
    ] refl

-- lanes of which one was made or changed
pub insert-AreLanes : (lanes : Lanes) (cpu : ℕ) (lane : Lane) → AreLanes lanes → IsLane cpu lane → AreLanes (map.insert lanes cpu lane)
insert-AreLanes lanes cpu lane are is q other found =
    ⊎_elim
    (λ s.
    let same : lane ≡ other = same-Some lane other (sym (ap (map.get (map.insert lanes cpu lane)) s ∙ get-insert_same nat_cmp_total lanes cpu lane) ∙ found) in
    subst (λ k. IsLane k other) (sym s) (subst (IsLane cpu) same is))
    (λ ne. are q other (sym (get-insert_other nat_cmp_total nat_cmp-IsAntisymmetric lanes cpu lane q ne) ∙ found))
    (cases_eq q cpu)

pub lanes_with-AreLanes : (lanes : Lanes) (e : Traced) → AreLanes lanes → HasCpu e → (unwrap_or (map.get lanes e.cpu) new_lane).next ≤ number_limit → AreLanes (lanes_with lanes e)
lanes_with-AreLanes lanes e are at room =
    let old = unwrap_or (map.get lanes e.cpu) new_lane in
    insert-AreLanes lanes e.cpu (lane_with old e) are (lane_with-IsLane e.cpu old e (lane-or_new lanes e.cpu are at) refl room)

-- the next line of a lane is free, so an event more makes it one longer
next_free : (cpu : ℕ) (lane : Lane) → IsLane cpu lane → map.get lane.events lane.next ≡ None
next_free cpu lane is =
    elim (map.get lane.events lane.next) as (λ o. map.get lane.events lane.next ≡ o → o ≡ None) [
      | None ↦ λ _. refl
      | Some event ↦ λ found. absurd (omega (arith, (is.lines lane.next event found).1))
    ] refl

len-lane_with : (cpu : ℕ) (lane : Lane) (e : Traced) → IsLane cpu lane → map.len (lane_with lane e).events ≡ map.len lane.events + 1
len-lane_with cpu lane e is = len-insert nat_cmp_total lane.events lane.next e ∙ ap (λ o. cond (is_some o) (map.len lane.events) (map.len lane.events + 1)) (next_free cpu lane is)

len-or_new : (o : Option Lane) → option_map_or (λ l. map.len l.events) o 0 ≡ map.len (unwrap_or o new_lane).events
len-or_new None = sym (len-empty nat_cmp Traced)
len-or_new (Some lane) = refl

pub held-lanes_with : (lanes : Lanes) (e : Traced) → AreLanes lanes → HasCpu e → held_in (lanes_with lanes e) ≡ held_in lanes + 1
held-lanes_with lanes e are at =
    let old = unwrap_or (map.get lanes e.cpu) new_lane in
    let sums = sum-insert nat_cmp_total (λ l. map.len l.events) lanes e.cpu (lane_with old e) in
    let more = len-lane_with e.cpu old e (lane-or_new lanes e.cpu are at) in
    let was = len-or_new (map.get lanes e.cpu) in
    omega (arith, sums, more, was)

-- events one by one keep the lanes and are counted
fold-AreLanes : (lanes : Lanes) (es : List Traced) → AreLanes lanes → AllByRecursion HasCpu es → HasRoom lanes es → AreLanes (fold lanes_with lanes es) × (held_in (fold lanes_with lanes es) ≡ held_in lanes + length es)
fold-AreLanes lanes [] are at room = (are, omega arith)
fold-AreLanes lanes (e ∷ es) are at room =
    let rest = fold-AreLanes (lanes_with lanes e) es (lanes_with-AreLanes lanes e are at.0 (room-here lanes e es room)) at.1 (room-next lanes e es room) in
    (rest.0, omega (arith, rest.1, held-lanes_with lanes e are at.0))

pub lanes-from : (base : Base) → IsReachable base → AreLanes base.lanes
lanes-from base is cpu lane found = record {
  at_cpu = is.cpus cpu lane found;
  numbers = is.numbers cpu lane found;
  lines = is.lines cpu lane found;
}

-- a load that is not refused counts its events
pub held-with_lanes : (base : Base) (es : List Traced) → IsReachable base → AllByRecursion HasCpu es → first_held base.lanes es ≡ None → length es ≤ event_limit → held_in (with_lanes base.lanes es) ≡ held_in base.lanes + length es
held-with_lanes base es is at none few =
    ap held_in (sym (with_lanes-fold base.lanes es (free-held base.lanes es none)))
    ∙ (fold-AreLanes base.lanes es (lanes-from base is) at (room-from base.lanes es none few)).1

-- a base with other lanes
pub lanes-IsReachable : (base : Base) (lanes : Lanes) → IsReachable base → AreLanes lanes → held_in lanes ≤ event_limit → IsReachable (record base { lanes = lanes })
lanes-IsReachable base lanes is are few = record {
  cpus = λ cpu lane found. (are cpu lane found).at_cpu;
  numbers = λ cpu lane found. (are cpu lane found).numbers;
  lines = λ cpu lane found. (are cpu lane found).lines;
  ids = is.ids;
  next_id = is.next_id;
  few_events = few;
  few_triggers = is.few_triggers;
  one_saver = is.one_saver;
  savers = is.savers;
}

-- a load that is not refused keeps the base reachable
pub load-IsReachable : (base : Base) (es : List Traced) → IsReachable base → AllByRecursion HasCpu es → first_held base.lanes es ≡ None → held_in base.lanes + length es ≤ event_limit → IsReachable (record base { lanes = with_lanes base.lanes es })
load-IsReachable base es is at none few =
    let same = with_lanes-fold base.lanes es (free-held base.lanes es none) in
    let are = subst AreLanes same (fold-AreLanes base.lanes es (lanes-from base is) at (room-from base.lanes es none (omega arith))).0 in
    lanes-IsReachable base (with_lanes base.lanes es) is are (omega (arith, held-with_lanes base es is at none (omega arith)))

pub held-empty : held_in map.empty ≡ 0
held-empty = ap (λ es. sum_by (λ lane. map.len lane.events) (list_map (λ e. e.1) es)) (entries-empty nat_cmp)

pub empty-IsReachable : IsReachable empty_base
empty-IsReachable = record {
  cpus = λ cpu lane found. let none : None ≡ Some lane = sym (get-empty nat_cmp cpu) ∙ found in cc;
  numbers = λ cpu lane found. let none : None ≡ Some lane = sym (get-empty nat_cmp cpu) ∙ found in cc;
  lines = λ cpu lane found. let none : None ≡ Some lane = sym (get-empty nat_cmp cpu) ∙ found in cc;
  ids = λ id hist found. let none : None ≡ Some hist = sym (get-empty nat_cmp id) ∙ found in cc;
  next_id = (omega arith, omega arith);
  few_events = omega (arith, held-empty);
  few_triggers = subst (λ n. n ≤ trigger_limit) (sym (len-empty nat_cmp Hist)) (omega arith);
  one_saver = λ i j a b name found. let none : None ≡ Some a = sym (get-empty nat_cmp i) ∙ found in cc;
  savers = λ id hist own source found. let none : None ≡ Some hist = sym (get-empty nat_cmp id) ∙ found in cc;
}
