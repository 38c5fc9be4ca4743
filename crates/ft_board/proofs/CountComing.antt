-- The tests that the events of new lanes take are at most those of the events that were loaded.
use Rattle.std.proofs.Common.{◌≡◌, ◌+◌, ◌≤◌, ℕ, Bool, true, false, cond, List, [], ◌∷◌, map as list_map, refl, sym, ap, subst, ◌∙◌, Option, Some, None, Ok, unwrap_or, is_some, arith}
use Rattle.std.specs.Prelude.{fold, not}
use Rattle.std.specs.List.{flat_map, sum_by}
use Rattle.std.specs.Option.{option_map_or}
use Rattle.std.specs.Ordering.{nat_cmp}
use Rattle.std.specs.Cmp.{nat_cmp_total}
use Rattle.std.specs.FinMap as map
use Rattle.std.specs.FinMap.{get-empty, same_map, nat_cmp-IsAntisymmetric}
use Rattle.std.proofs.lemmas.List.Filters.{sum_by-filter_both}
use Rattle.std.proofs.lemmas.List.Folds.{fold-map}
use Rattle.std.proofs.lemmas.List.Sums.{sum_by-append, sum_by-cons}
use Rattle.std.proofs.lemmas.Option.{none-some}
use Rattle.ft_fields.specs.Places.{pos_cmp_total, pos_cmp}
use Rattle.ft_hist.specs.Tests.{count_on}
use Rattle.ft_lanes.specs.Edits.{lane_with, lanes_with, new_lane}
use Rattle.ft_lanes.specs.Held.{Lane, Lanes}
use Rattle.ft_lanes.specs.Loaded.{first_held, lane_of, with_lanes}
use Rattle.ft_lanes.specs.inner.Slots.{has_cpu}
use Rattle.ft_lanes.proofs.Counts.{sum-insert}
use Rattle.ft_lanes.proofs.Loads.{free-held, with_lanes-at, with_lanes-fold}
use Rattle.ft_maps.specs.Entries.{entries-empty}
use Rattle.ft_base.proofs.After.{load-gives}
use Rattle.ft_replay.specs.Chosen.{is_among, lanes_but}
use Rattle.ft_replay.specs.Merged.{merged_with, placed, place_of, Events, merged}
use Rattle.ft_replay.specs.Named.{is_named, named}
use Rattle.ft_replay.proofs.Choosing.{get-chosen}
use Rattle.ft_replay.proofs.Naming.{entries-named}
use Rattle.ft_answers.specs.Costs.{count_on_all, count_on_lane}
use Rattle.ft_repair.specs.SomeLanes.{count_coming}
use Rattle.ft_base.specs.After.{after_load}
use Rattle.ft_base.specs.Base.{Base, Triggers}
use Rattle.ft_fields.specs.Traced.{Traced}
use Rattle.ft_fields.specs.declared.pos.Pos.{Pos}
use Rattle.ft_repair.proofs.EventLists.{among_lanes, count_events}

sum-map : {X Y : Type 0} (f : Y → ℕ) (g : X → Y) (xs : List X) → sum_by f (list_map g xs) ≡ sum_by (λ x. f (g x)) xs
sum-map f g xs = fold-map (λ a x. a + f x) g 0 xs

-- what each step adds at most, a fold adds at most
fold_adds : {S X : Type 0} (size : S → ℕ) (f : X → ℕ) (step : S → X → S) → ((s : S) (x : X) → size (step s x) ≤ size s + f x) → (s : S) (xs : List X) → size (fold step s xs) ≤ size s + sum_by f xs
fold_adds size f step one s [] = omega arith
fold_adds size f step one s (x ∷ xs) =
    let rest : size (fold step (step s x) xs) ≤ size (step s x) + sum_by f xs = fold_adds size f step one (step s x) xs in
    omega (arith, rest, one s x, sum_by-cons f x xs)

module _ (triggers : Triggers) where
  abbrev tests : Traced → ℕ
  tests event = count_on triggers event

  -- ---- events by place

  abbrev tests_of : Events → ℕ
  tests_of events = sum_by tests (map.values events)

  tests-entries : (events : Events) → count_events triggers (map.entries events) ≡ tests_of events
  tests-entries events = sym (sum-map tests (λ (e : Pos × Traced). e.1) (map.entries events))

  tests-none : tests_of map.empty ≡ 0
  tests-none = ap (λ (es : List (Pos × Traced)). sum_by tests (list_map (λ e. e.1) es)) (entries-empty pos_cmp)

  tests-insert : (events : Events) (pos : Pos) (event : Traced) → tests_of (map.insert events pos event) ≤ tests_of events + tests event
  tests-insert events pos event = omega (arith, sum-insert pos_cmp_total tests events pos event)

  tests-named : (events : Events) → count_events triggers (map.entries (named triggers events)) ≤ tests_of events
  tests-named events = omega (
    arith,
    ap (λ (es : List (Pos × Traced)). count_events triggers es) (entries-named triggers events),
    sum_by-filter_both (λ entry. is_named triggers entry.1) (λ entry. not (is_named triggers entry.1)) (λ _. refl) (λ (e : Pos × Traced). tests e.1) (map.entries events),
    tests-entries events,
  )

  -- ---- events by lane

  abbrev tests_in : Lanes → ℕ
  tests_in lanes = sum_by (λ lane. count_on_lane triggers lane) (map.values lanes)

  tests-placed : (cpu : ℕ) (es : List (ℕ × Traced)) → count_events triggers (list_map (λ entry. (place_of cpu entry, entry.1)) es) ≡ sum_by (λ entry. tests entry.1) es
  tests-placed cpu es = sum-map (λ (e : Pos × Traced). tests e.1) (λ (entry : ℕ × Traced). (place_of cpu entry, entry.1)) es

  tests-flat : (ls : List (ℕ × Lane)) → count_events triggers (flat_map placed ls) ≡ sum_by (λ lane. count_on_lane triggers lane) (list_map (λ e. e.1) ls)
  tests-flat [] = refl
  tests-flat (l ∷ ls) =
      sum_by-append (λ (e : Pos × Traced). tests e.1) (placed l) (flat_map placed ls)
      ∙ (λ i. tests-placed l.0 (map.entries l.1.events) i + tests-flat ls i)
      ∙ sym (sum_by-cons (λ lane. count_on_lane triggers lane) l.1 (list_map (λ e. e.1) ls))

  tests-merged : (lanes : Lanes) → tests_of (merged lanes) ≤ tests_in lanes
  unfolding merged
  tests-merged lanes = omega (
    arith,
    fold_adds tests_of (λ (e : Pos × Traced). tests e.1) merged_with (λ events e. tests-insert events e.0 e.1) map.empty (flat_map placed (map.entries lanes)),
    tests-none,
    tests-flat (map.entries lanes),
  )

  -- one more on its lane
  tests-lane : (lane : Lane) (event : Traced) → count_on_lane triggers (lane_with lane event) ≤ count_on_lane triggers lane + tests event
  tests-lane lane event = omega (
    arith,
    sum-insert nat_cmp_total tests lane.events lane.next event,
    sum-map tests (λ (e : ℕ × Traced). e.1) (map.entries lane.events),
    sum-map tests (λ (e : ℕ × Traced). e.1) (map.entries (map.insert lane.events lane.next event)),
  )

  tests-or_new : (lane : Option Lane) → count_on_lane triggers (unwrap_or lane new_lane) ≡ option_map_or (λ (l : Lane). count_on_lane triggers l) lane 0
  tests-or_new None = ap (λ (es : List (ℕ × Traced)). sum_by (λ entry. tests entry.1) es) (entries-empty nat_cmp)
  tests-or_new (Some lane) = refl

  -- one more in the lane of its CPU
  tests-one : (lanes : Lanes) (event : Traced) → tests_in (lanes_with lanes event) ≤ tests_in lanes + tests event
  tests-one lanes event =
      let lane : Lane = unwrap_or (map.get lanes event.cpu) new_lane in
      omega (arith, tests-or_new (map.get lanes event.cpu), tests-lane lane event, sum-insert nat_cmp_total (λ (l : Lane). count_on_lane triggers l) lanes event.cpu (lane_with lane event))

  tests-no_lane : tests_in map.empty ≡ 0
  tests-no_lane = ap (λ (es : List (ℕ × Lane)). sum_by (λ lane. count_on_lane triggers lane) (list_map (λ e. e.1) es)) (entries-empty nat_cmp)

  -- the events of new lanes
  tests-new : (events : List Traced) → count_events triggers (map.entries (named triggers (merged (with_lanes map.empty events)))) ≤ count_on_all triggers events
  tests-new events = subst (λ (lanes : Lanes). count_events triggers (map.entries (named triggers (merged lanes))) ≤ count_on_all triggers events)
      (with_lanes-fold map.empty events (λ q _. get-empty {X = Lane} nat_cmp q)) (omega (
        arith,
        tests-named (merged (fold lanes_with map.empty events)),
        tests-merged (fold lanes_with map.empty events),
        fold_adds tests_in tests lanes_with tests-one map.empty events,
        tests-no_lane,
      ))

-- a lane that is not held is new
new_or_held : (held : Option Lane) (comes : Bool) (lane : Lane) → (comes ≡ true → held ≡ None) → cond (not (is_some held)) (cond comes (Some lane) held) None ≡ cond comes (Some lane) None
new_or_held None comes lane free = refl
new_or_held (Some its) true lane free = absurd (none-some its (sym (free refl)))
new_or_held (Some its) false lane free = refl

-- the lanes that come by a load are new ones
new_lanes : (lanes : Lanes) (es : List Traced) → first_held lanes es ≡ None → lanes_but (map.keys lanes) (with_lanes lanes es) ≡ with_lanes map.empty es
new_lanes lanes es none = same_map nat_cmp_total nat_cmp-IsAntisymmetric _ _ (λ q.
    get-chosen (λ cpu. not (is_among (map.keys lanes) cpu)) (with_lanes lanes es) q
    ∙ (λ i. cond (not (among_lanes lanes q i)) (with_lanes-at lanes es q i) None)
    ∙ new_or_held (map.get lanes q) (has_cpu es q) (lane_of q es) (free-held lanes es none q)
    ∙ ap (λ (o : Option Lane). cond (has_cpu es q) (Some (lane_of q es)) o) (sym (get-empty {X = Lane} nat_cmp q))
    ∙ sym (with_lanes-at map.empty es q))

-- what comes by a load takes at most a test for each event that was loaded and each trigger on its name
pub coming_few : (base new : Base) (es : List Traced) (count : ℕ) → after_load base es ≡ Ok (new, count) → (cpus : List ℕ) → cpus ≡ map.keys base.lanes → count_coming cpus new ≤ count_on_all base.triggers es
coming_few base new es count answer cpus are =
    let gives = load-gives base es new count answer in
    subst (λ (b : Base). count_coming cpus b ≤ count_on_all base.triggers es) gives.1
    (subst (λ (lanes : Lanes). count_events base.triggers (map.entries (named base.triggers (merged lanes))) ≤ count_on_all base.triggers es)
    (sym (ap (λ (cs : List ℕ). lanes_but cs (with_lanes base.lanes es)) are ∙ new_lanes base.lanes es gives.0)) (tests-new base.triggers es))
