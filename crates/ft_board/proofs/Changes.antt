-- Events that come or go: those that are among more, what is kept before and after, and the report of the bases before and after.
use Rattle.std.proofs.Common.{◌≡◌, ℕ, Bool, true, false, cond, List, sym, ap, subst, ◌∙◌, Option, Some, None, Ok, ◌⊎◌, ⊎_elim, inl, [], refl}
use Rattle.std.specs.Prelude.{◌==◌, option_and_then, if◌then◌else◌, ⊤}
use Rattle.std.specs.Ordering.{nat_cmp, eq_by_cmp}
use Rattle.std.specs.Cmp.{nat_cmp_total}
use Rattle.std.specs.FinMap as map
use Rattle.std.specs.FinMap.{get-remove}
use Rattle.ft_fields.specs.Places.{pos_cmp_total, pos_cmp}
use Rattle.ft_lanes.specs.Held.{Lane, event_at, Lanes}
use Rattle.ft_lanes.specs.Loaded.{with_lanes}
use Rattle.ft_base.specs.After.{after_insert, after_load}
use Rattle.ft_base.proofs.After.{load-gives}
use Rattle.ft_replay.specs.Chosen.{is_among, lanes_of}
use Rattle.ft_replay.specs.Merged.{held_at, Events, merged}
use Rattle.ft_replay.proofs.Places.{merged_at}
use Rattle.ft_repair.proofs.EventLists.{chosen_at, lanes_before, there_if}
use Rattle.ft_board.specs.declared.views.Views.{Views}
use Rattle.ft_board.specs.inner.Views.{AreFresh, AreOf, made_in}
use Rattle.ft_board.proofs.MadeShelves.{AreAmong, ReadingsAre, all_told, among_same, can_mend}
use Rattle.std.specs.Option.{IfSome}
use Rattle.std.proofs.lemmas.Option.{IfSome_then, none-some}
use Rattle.ft_lanes.specs.Edits.{lanes_without}
use Rattle.ft_kept.specs.Changes.{AreFew, HasToldFew}
use Rattle.ft_kept.specs.declared.changes.Changes.{Changes}
use Rattle.ft_kept.specs.Repairs.{IsHeldAt}
use Rattle.ft_kept.specs.Shelves.{FormsStay, role_on, Shelves}
use Rattle.ft_base.specs.Reachable.{IsReachable}
use Rattle.ft_base.proofs.Cases.{insert-gives}
use Rattle.ft_base.specs.declared.refused.Place.{Place}
use Rattle.ft_answers.specs.Deferral.{IsPlainHit}
use Rattle.ft_answers.specs.Reporting.{IsReport}
use Rattle.ft_repair.specs.Repaired.{IfBoth}
use Rattle.ft_repair.proofs.MergedLanes.{merged_one_less, merged_one_more, new_line_has}
use Rattle.ft_shelves.specs.declared.sign.Sign.{Sign}
use Rattle.ft_shelves.specs.declared.sign.Sign.TheVariants.{Insert, Retract}
use Rattle.ft_board.specs.inner.Edits.{AreAfter, AreBefore, Edit, IsEdit, pos_at}
use Rattle.ft_board.specs.inner.Mending.{CanMendTo}
use Rattle.ft_repair.specs.OneEvent.{AreKeptAfter, ChangeCosts, EventNeedsNoMemory, events_before, events_after}
use Rattle.ft_answers.specs.Costs.{CostsOf}
use Rattle.ft_base.specs.Base.{Base, Triggers}
use Rattle.ft_board.specs.inner.Readings.{readings_on}
use Rattle.ft_changes.specs.declared.changed.Changed.{Changed}
use Rattle.ft_fields.specs.Traced.{Traced}
use Rattle.ft_fields.specs.declared.key.Part.{Part}
use Rattle.ft_fields.specs.declared.pos.Pos.{Pos}
use Rattle.ft_hist.specs.Steps.{Steps}
use Rattle.ft_kept.specs.Report.{report_of}
use Rattle.ft_kept.specs.declared.changes.KeyChange.{KeyChange}
use Rattle.ft_made.specs.MadeTables.{found_in}
use Rattle.ft_repair.specs.KeptShelves.{AreKept, AreKeptOf}
use Rattle.ft_board.specs.inner.Reported.{IsReportBy, RepairsReported}

-- ---- events that are among more

some_of : (b : Bool) (o : Option Traced) (event : Traced) → cond b None o ≡ Some event → o ≡ Some event
some_of true o event is = let both : ◌≡◌ {A = Option Traced} None (Some event) = is in absurd cc
some_of false o event is = is

pub among_one_less : (events : Events) (pos : Pos) → AreAmong (map.remove events pos) events
among_one_less events pos at event there = some_of (eq_by_cmp pos_cmp at pos) (map.get events at) event (sym (get-remove pos_cmp_total events pos at) ∙ there)

-- what is held at a place, by the lane of its CPU
abbrev in_lane : Pos → Option Lane → Option Traced
in_lane at lane = option_and_then (λ (e : Traced). if e.stamp == at.stamp then Some e else None) (option_and_then (λ (l : Lane). map.get l.events at.line) lane)

of_lane : (at : Pos) (b : Bool) (lane : Option Lane) (event : Traced) → in_lane at (cond b None lane) ≡ Some event → in_lane at lane ≡ Some event
of_lane at true lane event is = let both : ◌≡◌ {A = Option Traced} None (Some event) = is in absurd cc
of_lane at false lane event is = is

-- those of all lanes but one
pub lane_among : (lanes : Lanes) (cpu : ℕ) → AreAmong (merged (map.remove lanes cpu)) (merged lanes)
lane_among lanes cpu at event there =
    merged_at at lanes
    ∙ of_lane at (eq_by_cmp nat_cmp at.cpu cpu) (map.get lanes at.cpu) event
    (ap (in_lane at) (sym (get-remove nat_cmp_total lanes cpu at.cpu)) ∙ sym (merged_at at (map.remove lanes cpu)) ∙ there)

-- those of some lanes
pub chosen_among : (lanes : Lanes) (cpus : List ℕ) → AreAmong (merged (lanes_of cpus lanes)) (merged lanes)
chosen_among lanes cpus at event there = merged_at at lanes ∙ (there_if (is_among cpus at.cpu) (held_at lanes at) event (sym (chosen_at lanes (is_among cpus) at) ∙ there)).1

-- what is kept of a base before a load is kept of the lanes that were held
pub loaded_of : (base new : Base) (es : List Traced) (count : ℕ) → after_load base es ≡ Ok (new, count) → (cpus : List ℕ) → cpus ≡ map.keys base.lanes
    → (views : Views) → AreFresh base views → AreOf new.triggers (merged (lanes_of cpus new.lanes)) views
loaded_of base new es count answer cpus are views fresh =
    let gives = load-gives base es new count answer in
    subst (λ (b : Base). AreOf b.triggers (merged (lanes_of cpus b.lanes)) views) gives.1
    (subst (λ (lanes : Lanes). AreOf base.triggers (merged lanes) views) (sym (ap (λ (cs : List ℕ). lanes_of cs (with_lanes base.lanes es)) are ∙ lanes_before base.lanes es gives.0)) fresh)

-- an event that takes no memory is one of triggers without a variable
pub plain_of : (sign : Sign) (triggers : Triggers) (event : Traced) → EventNeedsNoMemory sign triggers event → IsPlainHit triggers event
plain_of Insert triggers event missed id hist attached key is = let both : ◌≡◌ {A = Option (List Part)} None (Some key) = sym (missed id hist attached) ∙ is in absurd cc
plain_of Retract triggers event plain id hist attached key is = plain id hist attached key is

-- ---- the events before and after are among all

pub before_among : (sign : Sign) (all : Events) (pos : Pos) → AreAmong (events_before sign all pos) all
before_among Insert all pos = among_one_less all pos
before_among Retract all pos = among_same all

pub after_among : (sign : Sign) (all : Events) (pos : Pos) → AreAmong (events_after sign all pos) all
after_among Insert all pos = among_same all
after_among Retract all pos = among_one_less all pos

-- ---- what is kept

module _ (sign : Sign) (base : Base) (pos : Pos) where
  abbrev all : Events
  all = merged base.lanes

  -- after the repair, the tables of made events can be mended
  pub can_change : {X : Type 0} → ReadingsAre → (views : Views) → AreBefore sign base pos views → (later : Option Shelves) → (views.shelves ≡ None → later ≡ None)
      → (asked before after : Changes) → before ≡ record asked { keys = Some [] } → (asked.readings ≡ Some []) ⊎ ((asked.readings ≡ None) × X) → IfBoth (HasToldFew (map.entries base.triggers) before after) views.shelves later
      → IfSome later (λ shelves. CanMendTo base.triggers all after.readings (found_in (readings_on shelves)) (made_in views))
  can_change {X} readings views right later gone asked before after with asks told =
      can_mend readings base.triggers (events_before sign all pos) all (before_among sign all pos) before.readings after.readings views.shelves later (made_in views)
      (subst (λ (t : Changes). (t.readings ≡ Some []) ⊎ ((t.readings ≡ None) × X)) (sym with) asks) right gone
      (IfSome_then later told (λ shelves few. IfSome_then views.shelves few (λ old its. its.told.under.readings)))

module _ (sign : Sign) (base : Base) (pos : Pos) (edit : Edit) (is : IsEdit sign base pos edit) where
  -- what is kept is that of the bases before and afterwards
  pub kept_before : (views : Views) → AreBefore sign base pos views → AreFresh edit.old views
  kept_before views are = subst (λ (p : Triggers × Events). AreOf p.0 p.1 views) (λ i. (sym is.same_before i, sym is.was i)) are

  pub kept_after : (views : Views) → AreAfter sign base pos views → AreFresh edit.new views
  kept_after views are = subst (λ (p : Triggers × Events). AreOf p.0 p.1 views) (λ i. (sym is.same_after i, sym is.is i)) are

  pub costs_of : (event : Traced) (old new : Steps) → ChangeCosts sign base pos event old new → CostsOf edit.old.triggers event (merged edit.old.lanes) (merged edit.new.lanes) old new
  costs_of event old new costs =
      subst (λ (p : Triggers × (Events × Events)). CostsOf p.0 event p.1.0 p.1.1 old new) (λ i. (sym is.same_before i, (sym is.was i, sym is.is i))) costs

  -- ---- the report

  reported_if : RepairsReported → (old later : Option Shelves) → IfSome old (AreKeptOf edit.old) → IfSome later (AreKeptOf edit.new) → (old ≡ None → later ≡ None) → IfBoth FormsStay old later
      → (before after : Changes) → before.keys ≡ Some [] → IfBoth (HasToldFew (map.entries base.triggers) before after) old later
      → IfSome later (λ shelves. IfSome after.keys (λ keys. IsReport edit.old edit.new (report_of base.triggers shelves keys)))
  reported_if reported old None was now gone forms before after none told = tt
  reported_if reported None (Some later) was now gone forms before after none told = let both : ◌≡◌ {A = Option Shelves} (Some later) None = gone refl in absurd cc
  reported_if reported (Some old) (Some later) was now gone forms before after none told =
      IfSome_then after.keys (all_told {X = ⊤} told.keys before.keys after.keys (inl none) told.told.told)
      (λ keys all. subst (λ (x : Triggers × List KeyChange). IsReport edit.old edit.new (report_of x.0 later x.1)) (λ i. (is.same_before i, sym all i))
      (reported edit.old edit.new old later told.keys (is.same_after ∙ sym is.same_before) was now forms told.told.under.hits
      (subst (λ (ts : Triggers). AreFew (role_on old) (map.entries ts) told.keys) (sym is.same_before) told.few)))

  -- a report of the keys that were told since none were is one of the bases
  pub edit_reported : RepairsReported → (views : Views) → AreBefore sign base pos views → (later mended : Option Shelves) → (mended ≡ later) ⊎ (mended ≡ None) → IfSome later (AreKeptAfter sign base pos)
      → (views.shelves ≡ None → later ≡ None) → IfBoth FormsStay views.shelves later → (before after : Changes) → before.keys ≡ Some [] → IfBoth (HasToldFew (map.entries base.triggers) before after) views.shelves later
      → (rows : List Changed) → IsReportBy base.triggers mended after.keys rows → IsReport edit.old edit.new rows
  edit_reported reported views right later mended left kept gone forms before after none told rows by =
      let there : later ≡ Some by.shelves = ⊎_elim (λ same. sym same ∙ by.there) (λ lost. absurd (none-some by.shelves (sym lost ∙ by.there))) left in
      let now : IfSome later (AreKeptOf edit.new) = subst (λ (p : Triggers × Events). IfSome later (AreKept p.0 p.1)) (λ i. (sym is.same_after i, sym is.is i)) kept in
      let each = reported_if reported views.shelves later (kept_before views right).0 now gone forms before after none told in
      subst (IsReport edit.old edit.new) (sym by.are)
      (subst (λ (o : Option (List KeyChange)). IfSome o (λ keys. IsReport edit.old edit.new (report_of base.triggers by.shelves keys))) by.are_told
      (subst (λ (o : Option Shelves). IfSome o (λ shelves. IfSome after.keys (λ keys. IsReport edit.old edit.new (report_of base.triggers shelves keys)))) there each))

-- ---- a board's edits of one event

-- a base holds an event at a place, which comes or goes by an edit
pub record Moves (sign : Sign) (base : Base) (edit : Edit) (pos : Pos) (event : Traced) : Type 0 where
  pub held : IsHeldAt base.lanes pos event
  pub by : IsEdit sign base pos edit

-- an event that was put in comes to what was held before
pub inserts : (base new : Base) (event : Traced) (place : Place) → IsReachable base → after_insert base event ≡ Ok (new, place) → (pos : Pos) → pos ≡ pos_at place event.stamp → Moves Insert new (record { old = base; new = new }) pos event
inserts base new event place reachable answer pos at =
    subst (λ (p : Pos). Moves Insert new (record { old = base; new = new }) p event) (sym at)
    (subst (λ (given : Base × Place). Moves Insert given.0 (record { old = base; new = given.0 }) (pos_at given.1 event.stamp) event) (insert-gives base event new place answer) (record {
      held = (new_line_has base event, refl);
      by = record {
        same_before = refl;
        same_after = refl;
        was = merged_one_more base reachable event;
        is = refl;
      };
    }))

-- an event that is held goes, and a base lacks it afterwards
pub strikes : (base new : Base) (place : Place) (event : Traced) → event_at base.lanes place.cpu place.line ≡ Some event → new ≡ record base { lanes = lanes_without base.lanes place.cpu place.line }
    → (pos : Pos) → pos ≡ pos_at place event.stamp → Moves Retract base (record { old = base; new = new }) pos event
strikes base new place event there gone pos at = subst (λ (x : Base × Pos). Moves Retract base (record { old = base; new = x.0 }) x.1 event) (λ i. (sym gone i, sym at i)) (record {
  held = (there, refl);
  by = record {
    same_before = refl;
    same_after = refl;
    was = refl;
    is = merged_one_less base.lanes place.cpu place.line event there;
  };
})
