-- Lists of events that come to what is kept or go from it: those on one trigger's name, those of new lanes, and those of a lane.
use Rattle.std.proofs.Common.{subst, ◌≡◌, ◌+◌, ◌<◌, ℕ, List, ◌∷◌, ◌++◌, drop, get_or, length, sym, ap, ◌∙◌, Bool, true, false, cond, [], refl, Option, Some, None, is_some, unwrap_or, ⊎_elim, option_map}
use Rattle.std.specs.Prelude.{◌&&◌, option_and_then, option_map, if◌then◌else◌, IsPermutation, ◌||◌, not, map as list_map}
use Rattle.std.specs.List.{IsDistinct, list_any, AllByRecursion, sum_by}
use Rattle.std.specs.FinMap as map
use Rattle.std.specs.FinMap.Entries as entries
use Rattle.std.specs.List.Sorted.{IsStrictlySortedBy}
use Rattle.std.specs.Map.Iter.{TakesFirst}
use Rattle.std.specs.declared.cmp.Ordering.TheVariants.{Less}
use Rattle.std.proofs.lemmas.List.{drop_more, length-map}
use Rattle.std.proofs.lemmas.Bool.{false_from_ne_true, cases_Bool, eqb-true, or_parts, true≢false}
use Rattle.std.proofs.lemmas.List.Elements.{All-from_recursion, recursion_from_All}
use Rattle.std.proofs.lemmas.List.Sorted.{All-permutation, IsPermutation-map, sum_by-IsPermutation}
use Rattle.std.proofs.lemmas.Map.Entries.{option_filter}
use Rattle.std.proofs.lemmas.Map.Keys.{IsDistinct-from_sorted, IsDistinct-IsPermutation, sorted_head, sorted_tail}
use Rattle.std.proofs.lemmas.List.Sums.{sum_by-cons}
use Rattle.ft_hist.specs.Tests.{count_on}
use Rattle.ft_kept.proofs.Views.{has_at}
use Rattle.ft_kept.specs.Memory as memory
use Rattle.ft_lanes.specs.Loaded.{with_lanes, first_held}
use Rattle.ft_lanes.specs.Walks.{traced_line}
use Rattle.ft_maps.proofs.Common.{all_map}
use Rattle.ft_base.proofs.Apart.{entries_found}
use Rattle.ft_base.proofs.Loading.{held-stays}
use Rattle.ft_replay.specs.Named.{is_named, events_on, is_on, named}
use Rattle.ft_replay.proofs.Placing.{find-moved, get-on, get-named}
use Rattle.ft_replay.specs.Chosen.{is_among, lanes_of, lanes_but}
use Rattle.ft_replay.proofs.Choosing.{get-chosen}
use Rattle.ft_replay.proofs.Naming.{named_all}
use Rattle.ft_repair.specs.declared.triggers.Member.{Member}
use Rattle.ft_repair.specs.inner.Joining.{CanMove, own_after, own_before, is_one, with_acts}
use Rattle.ft_repair.specs.inner.Going.{HasItsLane, lane_events}
use Rattle.ft_lanes.proofs.Counts.{remove_none}
use Rattle.ft_replay.specs.Costs.{count_on_lane}
use Rattle.std.specs.Option.{option_map_or}
use Rattle.ft_repair.proofs.Alike.{never_any}
use Rattle.ft_repair.proofs.Changing.{IsChanging, changing_all, none_left, next_of, Changes, changing_none}
use Rattle.ft_repair.proofs.KeptFor.{act_in, acts_held, AllHeld, held_is, merged_held, no_hit, acts_alike, for_kept, kept_for, plain_shelf}
use Rattle.ft_base.specs.PlainHits.{IsPlainLane}
use Rattle.ft_base.specs.Base.{Base, Triggers}
use Rattle.ft_base.specs.Reachable.{HasSavers}
use Rattle.ft_fields.specs.Places.{pos_cmp, pos_cmp_total, pos_same}
use Rattle.ft_fields.specs.Traced.{name_of, Traced}
use Rattle.ft_fields.specs.declared.event.Name.{Name}
use Rattle.ft_fields.specs.declared.key.Part.{Part}
use Rattle.ft_fields.specs.declared.pos.Pos.{Pos}
use Rattle.ft_hist.specs.Hist.{Hist}
use Rattle.ft_hist.specs.Hit.{same_name}
use Rattle.ft_kept.specs.Acts.{Acts, acts_of, AreHeld}
use Rattle.ft_kept.specs.Input.{input_of}
use Rattle.ft_kept.specs.Shelves.{Shelves}
use Rattle.ft_kept.specs.Signs.{event_after, event_before}
use Rattle.ft_kept.specs.Views.{act_by_id, triggers_of}
use Rattle.ft_lanes.specs.Held.{event_at, Lane, Lanes}
use Rattle.ft_maps.specs.Entries.{strictly_sorted}
use Rattle.ft_maps.specs.Mapped.{entries_by}
use Rattle.ft_pairs.specs.declared.at.At.{At}
use Rattle.ft_repair.specs.KeptShelves.{AreKept}
use Rattle.ft_repair.specs.Outside.{acts_outside}
use Rattle.ft_replay.proofs.Places.{merged_at, none_later}
use Rattle.ft_replay.specs.Merged.{Events, held_at, merged, place_of}
use Rattle.ft_shelves.specs.declared.sign.Sign.{Sign}
use Rattle.ft_shelves.specs.declared.sign.Sign.TheVariants.{Insert, Retract}
use Rattle.ft_store.specs.Stored.{held}
use Rattle.ft_store.specs.declared.stored.Stored.{Stored}
use Rattle.std.proofs.lemmas.Map.Iter.{rest_more}
use Rattle.std.proofs.lemmas.Option.{cond_some, none-some}
use Rattle.std.specs.Cmp.{eq_by_cmp_equiv, nat_cmp_total, nat_eq_equiv, unsigned_tied}
use Rattle.std.specs.FinMap.{entries_sorted, find, get-entries, get-remove, nat_cmp-IsAntisymmetric, same_map}
use Rattle.std.specs.Map.{keys_of}
use Rattle.std.specs.Ordering.{eq_by_cmp, is_eq, nat_cmp}
use Rattle.ft_repair.proofs.MergedLanes.{in_lane, on_stamp, placed_there, stamp_tie, tie_at, tie_nat}

-- ---- references to events with their places

-- the first of the events that are left, unpacked
pub first_left : (es : List (Pos × Stored)) (i : ℕ) (e : Pos × Stored) (event : Traced) → i < length es → e ≡ get_or es i e → event ≡ held e.1 → entries_by held (drop i es) ≡ (e.0, event) ∷ entries_by held (drop (i + 1) es)
first_left es i e event within is unpacked =
    ap (entries_by held) (drop_more es i e within ∙ ap (λ (x : Pos × Stored). x ∷ drop (i + 1) es) (sym is))
    ∙ ap (λ (x : Pos × Traced). x ∷ entries_by held (drop (i + 1) es)) (λ j. (e.0, sym unpacked j))

-- they are as many as the references to them
pub all_of_them : (es : List (Pos × Stored)) → length (entries_by held es) ≡ length es
all_of_them es = length-map es (λ (e : Pos × Stored). (e.0, held e.1))

-- ---- the events on one trigger's name

-- a trigger's act at the event of a place
abbrev pub act_by : Option Hist → Option Traced → Option (List Part × Traced)
act_by hist own = option_and_then (λ (e : Traced). act_in hist e) own

-- ---- events of some names

-- the event has one of the names
abbrev fits : (Name → Bool) → Traced → Bool
fits names event = names (name_of event.body)

passed : (p : Traced → Bool) (o : Option Traced) (event : Traced) → option_filter p o ≡ Some event → o ≡ Some event
passed p None event is = is
passed p (Some own) event is = ap (λ (x : Traced). Some x) (cond_some (p own) own event is).1

-- such an event is there among all
merged_there : (lanes : Lanes) (names : Name → Bool) (pos : Pos) (event : Traced) → map.get (events_on names (merged lanes)) pos ≡ Some event → map.get (merged lanes) pos ≡ Some event
merged_there lanes names pos event is = passed (fits names) (map.get (merged lanes) pos) event (sym (get-on names lanes (merged lanes) pos) ∙ is)

-- events of some names are held, as all are
pub on_held : (lanes : Lanes) (names : Name → Bool) → AllHeld lanes (events_on names (merged lanes))
on_held lanes names pos event is = merged_held lanes pos event (merged_there lanes names pos event is)

-- a trigger's name is one of some names
abbrev pub IsAmong : Hist → (Name → Bool) → Type 0
IsAmong hist names = (name : Name) → same_name hist.event name ≡ true → names name ≡ true

-- an event of another name than these is no hit
on_names : (hist : Hist) (names : Name → Bool) → IsAmong hist names → (own : Option Traced) → act_by (Some hist) (option_filter (fits names) own) ≡ act_by (Some hist) own
on_names hist names among None = refl
on_names hist names among (Some event) = ⊎_elim
    (λ is. ap (λ (b : Bool). act_by (Some hist) (cond b (Some event) None)) is)
    (λ other. ap (λ (b : Bool). act_by (Some hist) (cond b (Some event) None)) other
    ∙ sym (ap (option_map {U = List Part × Traced} (λ (key : List Part). (key, event))) (no_hit hist event (false_from_ne_true (same_name hist.event (name_of event.body)) (λ same. true≢false (sym (among (name_of event.body) same) ∙ other))))))
    (cases_Bool (fits names event))

-- the name of an attached trigger is one on which some trigger is
pub unasked : (test : ℕ × Hist → Bool) (es : List (ℕ × Hist)) (id : ℕ) (hist : Hist) → list_any test es ≡ false → entries.find nat_cmp id es ≡ Some hist → (k : ℕ) × (test (k, hist) ≡ false)
unasked test [] id hist none found = let both : ◌≡◌ {A = Option Hist} None (Some hist) = found in absurd cc
unasked test (e ∷ es) id hist none found =
    let parts = or_parts (test e) (list_any test es) none in
    elim (eq_by_cmp nat_cmp id e.0) as (λ (b : Bool). cond b (Some e.1) (entries.find nat_cmp id es) ≡ Some hist → (k : ℕ) × (test (k, hist) ≡ false)) [
      | true ↦ λ here. (e.0, ap (λ (h : Hist). test (e.0, h)) (sym (ap (λ (o : Option Hist). unwrap_or o e.1) here)) ∙ parts.0)
      | false ↦ λ later. unasked test es id hist parts.1 later
    ] found

pub among_all : (triggers : Triggers) (id : ℕ) (hist : Hist) → map.get triggers id ≡ Some hist → IsAmong hist (is_on triggers)
unfolding is_on
among_all triggers id hist attached name same = ⊎_elim
    (λ is. is)
    (λ none. absurd (true≢false (sym same ∙ (unasked (λ own. same_name own.1.event name) (map.entries triggers) id hist none (sym (get-entries triggers id) ∙ attached)).1)))
    (cases_Bool (is_on triggers name))

-- so no acts are at events that are not named
pub named_at : (triggers : Triggers) (id : ℕ) (own : Option Traced) → act_by (map.get triggers id) (option_filter (is_named triggers) own) ≡ act_by (map.get triggers id) own
named_at triggers id own =
    elim (map.get triggers id) as (λ (h : Option Hist). map.get triggers id ≡ h → act_by h (option_filter (is_named triggers) own) ≡ act_by h own) [
      | None ↦ λ _. never_any (option_filter (is_named triggers) own) ∙ sym (never_any own)
      | Some hist ↦ λ attached. on_names hist (is_on triggers) (among_all triggers id hist attached) own
    ] refl

-- the held events on a trigger's name
abbrev pub own_events : Lanes → Hist → Events
own_events lanes hist = events_on (same_name hist.event) (merged lanes)

-- all acts are held
pub all_acts_held : (triggers : Triggers) (lanes : Lanes) → AreHeld triggers lanes (acts_of triggers (merged lanes))
all_acts_held triggers lanes = acts_held triggers lanes (merged lanes) (merged_held lanes)

-- and so they are without those of some triggers
pub outside_held : (triggers : Triggers) (lanes : Lanes) (idle : ℕ → Bool) → AreHeld triggers lanes (acts_outside idle triggers lanes)
outside_held triggers lanes idle at act is = ⊎_elim
    (λ inside. absurd (none-some act (sym (ap (λ (b : Bool). if b then None else acts_of triggers (merged lanes) at) inside) ∙ is)))
    (λ out. all_acts_held triggers lanes at act (sym (ap (λ (b : Bool). if b then None else acts_of triggers (merged lanes) at) out) ∙ is))
    (cases_Bool (idle at.trigger))

-- events stand at places apart
pub entries_apart : (m : Events) → IsDistinct (eq_by_cmp pos_cmp) (map.keys m)
entries_apart m = IsDistinct-from_sorted pos_cmp (map.keys m) (strictly_sorted pos_cmp (map.entries m) (entries_sorted m))

-- ---- a list of events of names with a trigger's own

module _ (triggers : Triggers) (lanes : Lanes) (id : ℕ) (hist : Hist) (attached : map.get triggers id ≡ Some hist) (names : Name → Bool) (among : IsAmong hist names) where
  abbrev its_events : Events
  its_events = events_on names (merged lanes)

  abbrev all : Acts
  all = acts_of triggers (merged lanes)

  -- at these events it has all its acts
  pub own_acts : (at : At) → at.trigger ≡ id → acts_of triggers its_events at ≡ all at
  unfolding acts_of
  own_acts at same =
      let its : map.get triggers at.trigger ≡ Some hist = ap (map.get triggers) same ∙ attached in
      (λ j. act_by (its j) (get-on names lanes (merged lanes) at.pos j))
      ∙ on_names hist names among (map.get (merged lanes) at.pos)
      ∙ ap (λ (h : Option Hist). act_by h (map.get (merged lanes) at.pos)) (sym its)

  no_act : (at : At) → map.get its_events at.pos ≡ None → acts_of triggers its_events at ≡ None
  unfolding acts_of
  no_act at none = ap (act_by (map.get triggers at.trigger)) none

  module _ (es : List (Pos × Traced)) (moved : IsPermutation (map.entries its_events) es) where
    apart : IsDistinct (eq_by_cmp pos_cmp) (keys_of es)
    apart = IsDistinct-IsPermutation (eq_by_cmp pos_cmp) (eq_by_cmp_equiv pos_cmp_total).symm (map.keys its_events) (keys_of es) (IsPermutation-map (λ e. e.0) (map.entries its_events) es moved) (entries_apart its_events)

    -- at a place that is not listed it has no act
    unlisted : (at : At) → at.trigger ≡ id → is_some (find pos_cmp at.pos es) ≡ false → all at ≡ None
    unlisted at same out =
        sym (own_acts at same)
        ∙ no_act at (get-entries its_events at.pos ∙ find-moved pos_cmp_total pos_same at.pos (map.entries its_events) es moved (entries_apart its_events) apart ∙ none_left (find pos_cmp at.pos es) out)

    each_there : AllByRecursion (λ e. map.get (merged lanes) e.0 ≡ Some e.1) es
    each_there = recursion_from_All _ es (All-permutation (λ (e : Pos × Traced). map.get (merged lanes) e.0 ≡ Some e.1) (map.entries its_events) es moved
        (All-from_recursion _ (map.entries its_events) (all_map _ _ (λ (e : Pos × Traced) is. merged_there lanes names e.0 e.1 is) (map.entries its_events) (entries_found pos_cmp pos_cmp_total its_events))))

-- ---- a trigger's acts come or go

-- some of its events are left
abbrev pub IsMoving : Member → Sign → Shelves → List (Pos × Traced) → Shelves → Type 0
IsMoving member sign old rest now =
    IsChanging (triggers_of member.scene) member.scene.lanes.now (is_one member.id) sign (input_of (triggers_of member.scene) member.scene.lanes.now old)
    (with_acts member.id (own_after sign (triggers_of member.scene) member.scene.lanes.now) (input_of (triggers_of member.scene) member.scene.lanes.now old)) rest now

-- first all are
pub moving_all : (member : Member) (sign : Sign) (es : List (Pos × Traced)) (shelves : Shelves) → CanMove member sign es shelves → IsMoving member sign shelves es shelves
moving_all member sign es shelves may = changing_all es shelves may.kept
    (λ at out. stay at (is_one member.id at.trigger) refl out)
    (all_map _ _ (λ (e : Pos × Traced) there. record {
      held = held_is lanes e.0 e.1 (merged_held lanes e.0 e.1 there);
      before = λ k own. may.before (record { pos = e.0; trigger = k }) (eqb-true k member.id own) ∙ first sign e there k;
      after = λ k own. ap (λ (b : Bool). cond b (own_after sign triggers lanes (record { pos = e.0; trigger = k })) (input (record { pos = e.0; trigger = k }))) own ∙ last sign e there k;
    }) es (each_there triggers lanes member.id member.trigger.now may.attached may.names may.own es may.all))
    (apart triggers lanes member.id member.trigger.now may.attached may.names may.own es may.all)
  where
    triggers : Triggers
    triggers = triggers_of member.scene

    lanes : Lanes
    lanes = member.scene.lanes.now

    input : Acts
    input = input_of triggers lanes shelves

    first : (w : Sign) (e : Pos × Traced) → map.get (merged lanes) e.0 ≡ Some e.1 → (k : ℕ) → own_before w triggers lanes (record { pos = e.0; trigger = k }) ≡ act_by_id triggers k (event_before w e.1)
    first Insert e there k = refl
    first Retract e there k = has_at triggers (merged lanes) e.0 (Some e.1) there k

    last : (w : Sign) (e : Pos × Traced) → map.get (merged lanes) e.0 ≡ Some e.1 → (k : ℕ) → own_after w triggers lanes (record { pos = e.0; trigger = k }) ≡ act_by_id triggers k (event_after w e.1)
    last Insert e there k = has_at triggers (merged lanes) e.0 (Some e.1) there k
    last Retract e there k = refl

    -- if no act is there, none comes or goes
    none : (w : Sign) (at : At) → acts_of triggers (merged lanes) at ≡ None → own_before w triggers lanes at ≡ own_after w triggers lanes at
    none Insert at is = sym is
    none Retract at is = is

    stay : (at : At) (own : Bool) → is_one member.id at.trigger ≡ own → (own && is_some (find pos_cmp at.pos es)) ≡ false → input at ≡ cond own (own_after sign triggers lanes at) (input at)
    stay at true own out =
        let its : at.trigger ≡ member.id = eqb-true at.trigger member.id own in
        may.before at its ∙ none sign at (unlisted triggers lanes member.id member.trigger.now may.attached may.names may.own es may.all at its out)
    stay at false other out = refl

-- ---- the events of lanes

pub there_if : {X : Type 0} (b : Bool) (o : Option X) (x : X) → cond b o None ≡ Some x → (b ≡ true) × (o ≡ Some x)
there_if true o x is = (refl, is)
there_if false o x is = absurd cc

none_if : {X : Type 0} (b : Bool) (o : Option X) → not b ≡ true → cond b o None ≡ None
none_if true o is = absurd cc
none_if false o is = refl

-- what is held at a place, in the lanes of some CPUs
pub chosen_at : (lanes : Lanes) (p : ℕ → Bool) (pos : Pos) → map.get (merged (map.retain_keys lanes p)) pos ≡ cond (p pos.cpu) (held_at lanes pos) None
chosen_at lanes p pos =
    merged_at pos (map.retain_keys lanes p)
    ∙ ap (λ (o : Option Lane). option_and_then (on_stamp pos.stamp) (in_lane pos.line o)) (get-chosen p lanes pos.cpu)
    ∙ split (p pos.cpu)
  where
    split : (b : Bool) → option_and_then (on_stamp pos.stamp) (in_lane pos.line (cond b (map.get lanes pos.cpu) None)) ≡ cond b (held_at lanes pos) None
    split true = refl
    split false = refl

-- ---- events come, or go

module _ (triggers : Triggers) (lanes : Lanes) (sign : Sign) (before after : Events) where
  -- an event is one of those that make the first events the last ones
  abbrev pub Moves : Pos × Traced → Type 0
  Moves = Changes triggers lanes (λ _. true) sign (acts_of triggers before) (acts_of triggers after)

  -- some of them are left
  abbrev pub AreMoving : List (Pos × Traced) → Shelves → Type 0
  AreMoving = IsChanging triggers lanes (λ _. true) sign (acts_of triggers before) (acts_of triggers after)

  -- first all are
  pub events_all : HasSavers triggers → AllHeld lanes before → (es : List (Pos × Traced)) → AllByRecursion Moves es → IsDistinct (eq_by_cmp pos_cmp) (keys_of es)
      → ((at : At) → find pos_cmp at.pos es ≡ None → acts_of triggers before at ≡ acts_of triggers after at)
      → (shelves : Shelves) → AreKept triggers before shelves → AreMoving es shelves
  events_all savers there es moves apart same shelves kept = changing_all es shelves (kept_for triggers lanes savers before there shelves kept)
      (λ at out. same at (none_left (find pos_cmp at.pos es) out)) moves apart

  -- at last none is
  pub events_none : {es : List (Pos × Traced)} {shelves : Shelves} → es ≡ [] → AreMoving es shelves → AreKept triggers after shelves
  events_none {shelves = shelves} none is = for_kept triggers lanes after shelves (changing_none none is)

-- ---- the events of new lanes come

module _ (lanes : Lanes) (triggers : Triggers) (cpus : List ℕ) where
  abbrev other : ℕ → Bool
  other cpu = not (is_among cpus cpu)

  abbrev coming : Events
  coming = named triggers (merged (lanes_but cpus lanes))

  -- some of them are left
  abbrev pub AreComing : List (Pos × Traced) → Shelves → Type 0
  AreComing = AreMoving triggers lanes Insert (merged (lanes_of cpus lanes)) (merged lanes)

  event_comes : (e : Pos × Traced) → map.get (merged (lanes_but cpus lanes)) e.0 ≡ Some e.1 → Moves triggers lanes Insert (merged (lanes_of cpus lanes)) (merged lanes) e
  event_comes e is =
      let there = there_if (other e.0.cpu) (held_at lanes e.0) e.1 (sym (chosen_at lanes other e.0) ∙ is) in
      record {
        held = held_is lanes e.0 e.1 there.1;
        before = λ id _. has_at triggers (merged (lanes_of cpus lanes)) e.0 None (chosen_at lanes (is_among cpus) e.0 ∙ none_if (is_among cpus e.0.cpu) (held_at lanes e.0) there.0) id;
        after = λ id _. has_at triggers (merged lanes) e.0 (Some e.1) (merged_at e.0 lanes ∙ there.1) id;
      }

  -- if no event comes, the acts are there or no trigger is on the event's name
  act_stays : (id : ℕ) (b : Bool) (held : Option Traced) → option_filter (is_named triggers) (cond (not b) held None) ≡ None → act_by (map.get triggers id) (cond b held None) ≡ act_by (map.get triggers id) held
  act_stays id true held none = refl
  act_stays id false held none = sym (sym (named_at triggers id held) ∙ ap (act_by (map.get triggers id)) none)

  same_elsewhere : (at : At) → find pos_cmp at.pos (map.entries coming) ≡ None → acts_of triggers (merged (lanes_of cpus lanes)) at ≡ acts_of triggers (merged lanes) at
  unfolding acts_of
  same_elsewhere at none =
      let unnamed : option_filter (is_named triggers) (cond (other at.pos.cpu) (held_at lanes at.pos) None) ≡ None =
      ap (option_filter (is_named triggers)) (sym (chosen_at lanes other at.pos)) ∙ sym (get-named triggers map.empty (merged (lanes_but cpus lanes)) at.pos) ∙ get-entries coming at.pos ∙ none in
      ap (act_by (map.get triggers at.trigger)) (chosen_at lanes (is_among cpus) at.pos)
      ∙ act_stays at.trigger (is_among cpus at.pos.cpu) (held_at lanes at.pos) unnamed
      ∙ ap (act_by (map.get triggers at.trigger)) (sym (merged_at at.pos lanes))

  -- first all are left
  pub coming_all : HasSavers triggers → (shelves : Shelves) → AreKept triggers (merged (lanes_of cpus lanes)) shelves → AreComing (map.entries coming) shelves
  coming_all savers = events_all triggers lanes Insert (merged (lanes_of cpus lanes)) (merged lanes) savers
      (λ pos event is. (there_if (is_among cpus pos.cpu) (held_at lanes pos) event (sym (chosen_at lanes (is_among cpus) pos) ∙ is)).1)
      (map.entries coming)
      (named_all triggers (Moves triggers lanes Insert (merged (lanes_of cpus lanes)) (merged lanes)) (merged (lanes_but cpus lanes)) (all_map _ _ event_comes (map.entries (merged (lanes_but cpus lanes))) (entries_found pos_cmp pos_cmp_total (merged (lanes_but cpus lanes)))))
      (entries_apart coming)
      same_elsewhere

-- ---- the events of a lane go

never : (a b : Bool) → (a && (b && false)) ≡ false
never true true = refl
never true false = refl
never false b = refl

module _ (cpu : ℕ) where
  -- the events of lines, each at its place
  abbrev pub placed : List (ℕ × Traced) → List (Pos × Traced)
  placed lines = list_map (λ entry. (place_of cpu entry, entry.1)) lines

  all_placed : (P : Pos × Traced → Type 0) (lines : List (ℕ × Traced)) → AllByRecursion (λ e. P (place_of cpu e, e.1)) lines → AllByRecursion P (placed lines)
  all_placed P [] each = tt
  all_placed P (e ∷ lines) each = (each.0, all_placed P lines each.1)

  lines_apart : (lines : List (ℕ × Traced)) → IsStrictlySortedBy nat_cmp (keys_of lines) → IsDistinct (eq_by_cmp pos_cmp) (keys_of (placed lines))
  unfolding IsDistinct
  lines_apart [] sorted = tt
  lines_apart (e ∷ lines) sorted = (above lines (sorted_head nat_cmp e.0 (keys_of lines) sorted), lines_apart lines (sorted_tail nat_cmp e.0 (keys_of lines) sorted))
    where
      above : (es : List (ℕ × Traced)) → AllByRecursion (λ q. nat_cmp e.0 q ≡ Less) (keys_of es) → AllByRecursion (λ k. eq_by_cmp pos_cmp (place_of cpu e) k ≡ false) (keys_of (placed es))
      above [] less = tt
      above (x ∷ es) less = (
        tie_at (place_of cpu e) (place_of cpu x) ∙ ap (λ o. is_eq (nat_cmp e.1.stamp x.1.stamp) && (eq_by_cmp nat_cmp cpu cpu && is_eq o)) less.0 ∙ never (is_eq (nat_cmp e.1.stamp x.1.stamp)) (eq_by_cmp nat_cmp cpu cpu),
        above es less.1,
      )

  -- what stands among them at a place
  find-placed : (q : Pos) (lines : List (ℕ × Traced)) → IsStrictlySortedBy nat_cmp (keys_of lines)
      → find pos_cmp q (placed lines) ≡ cond (eq_by_cmp nat_cmp q.cpu cpu) (option_and_then (on_stamp q.stamp) (find nat_cmp q.line lines)) None
  find-placed q [] sorted = elim (eq_by_cmp nat_cmp q.cpu cpu) as (λ (b : Bool). ◌≡◌ {A = Option Traced} None (cond b None None)) [ true ↦ refl | false ↦ refl ]
  find-placed q (e ∷ lines) sorted =
      (λ i. cond (tie_at q (place_of cpu e) i) (Some e.1) (find-placed q lines (sorted_tail nat_cmp e.0 (keys_of lines) sorted) i))
      ∙ first (is_eq (nat_cmp q.stamp e.1.stamp)) (eq_by_cmp nat_cmp q.cpu cpu) (eq_by_cmp nat_cmp q.line e.0) (find nat_cmp q.line lines) (stamp_tie q.stamp e.1) (none_later q.line e lines sorted)
    where
      first : (stamp own line : Bool) (found : Option Traced) → on_stamp q.stamp e.1 ≡ cond stamp (Some e.1) None → (line ≡ true → found ≡ None)
          → cond (stamp && (own && line)) (Some e.1) (cond own (option_and_then (on_stamp q.stamp) found) None) ≡ cond own (option_and_then (on_stamp q.stamp) (cond line (Some e.1) found)) None
      first true true true found is none = sym is
      first false true true found is none = ap (option_and_then (on_stamp q.stamp)) (none refl) ∙ sym is
      first true true false found is none = refl
      first false true false found is none = refl
      first true false line found is none = refl
      first false false line found is none = refl

module _ (triggers : Triggers) (lanes : Lanes) (cpu : ℕ) where
  abbrev others : Lanes
  others = map.remove lanes cpu

  -- some lines of the lane are left
  abbrev pub IsGoing : List (ℕ × Traced) → Shelves → Type 0
  IsGoing lines = AreMoving triggers lanes Retract (merged lanes) (merged others) (placed cpu lines)

  -- what is held at a place in the other lanes
  others_at : (q : Pos) → map.get (merged others) q ≡ cond (eq_by_cmp nat_cmp q.cpu cpu) None (held_at lanes q)
  others_at q =
      merged_at q others
      ∙ ap (λ (o : Option Lane). option_and_then (on_stamp q.stamp) (in_lane q.line o)) (get-remove nat_cmp_total lanes cpu q.cpu)
      ∙ split (eq_by_cmp nat_cmp q.cpu cpu)
    where
      split : (b : Bool) → option_and_then (on_stamp q.stamp) (in_lane q.line (cond b None (map.get lanes q.cpu))) ≡ cond b None (held_at lanes q)
      split true = refl
      split false = refl

  module _ (lane : Lane) (there : map.get lanes cpu ≡ Some lane) where
    line_goes : (e : ℕ × Traced) → map.get lane.events e.0 ≡ Some e.1 → Moves triggers lanes Retract (merged lanes) (merged others) (place_of cpu e, e.1)
    line_goes e is =
        let its : event_at lanes cpu e.0 ≡ Some e.1 = ap (in_lane e.0) there ∙ is in
        record {
          held = (its, refl);
          before = λ id _. has_at triggers (merged lanes) (place_of cpu e) (Some e.1) (placed_there lanes cpu e.0 e.1 its) id;
          after = λ id _. has_at triggers (merged others) (place_of cpu e) None (others_at (place_of cpu e) ∙ ap (λ (b : Bool). cond b None (held_at lanes (place_of cpu e))) ((eq_by_cmp_equiv nat_cmp_total).refl cpu)) id;
        }

    sorted : IsStrictlySortedBy nat_cmp (map.keys lane.events)
    sorted = strictly_sorted nat_cmp (map.entries lane.events) (entries_sorted lane.events)

    -- at a place of none of its lines nothing changes
    same_there : (q : Pos) → find pos_cmp q (placed cpu (map.entries lane.events)) ≡ None → map.get (merged lanes) q ≡ map.get (merged others) q
    same_there q none = merged_at q lanes ∙ by (eq_by_cmp nat_cmp q.cpu cpu) refl (sym (find-placed cpu q (map.entries lane.events) sorted) ∙ none) ∙ sym (others_at q)
      where
        by : (b : Bool) → eq_by_cmp nat_cmp q.cpu cpu ≡ b → cond b (option_and_then (on_stamp q.stamp) (find nat_cmp q.line (map.entries lane.events))) None ≡ None → held_at lanes q ≡ cond b None (held_at lanes q)
        by true tie gone = ap (option_and_then (on_stamp q.stamp)) (ap (in_lane q.line) (ap (map.get lanes) (tie_nat q.cpu cpu tie) ∙ there) ∙ get-entries lane.events q.line) ∙ gone
        by false other gone = refl

    -- first all are left
    pub going_all : HasSavers triggers → (shelves : Shelves) → AreKept triggers (merged lanes) shelves → IsGoing (map.entries lane.events) shelves
    going_all savers = events_all triggers lanes Retract (merged lanes) (merged others) savers (merged_held lanes) (placed cpu (map.entries lane.events))
        (all_placed cpu _ (map.entries lane.events) (all_map _ _ line_goes (map.entries lane.events) (entries_found nat_cmp nat_cmp_total lane.events)))
        (lines_apart cpu (map.entries lane.events) sorted)
        (λ at none. acts_alike triggers (merged lanes) (merged others) at (same_there at.pos none))

module _ (triggers : Triggers) (lanes : Lanes) (cpu : ℕ) where
  -- some events of the lane are left
  abbrev pub AreGoing : List (Pos × Traced) → Shelves → Type 0
  AreGoing = AreMoving triggers lanes Retract (merged lanes) (merged (others triggers lanes cpu))

  -- events of which each goes, and with which the lane goes
  record AreItsEvents (es : List (Pos × Traced)) : Type 0 where
    pub each : AllByRecursion (Moves triggers lanes Retract (merged lanes) (merged (others triggers lanes cpu))) es
    pub own : AllByRecursion (λ e. e.0.cpu ≡ cpu) es
    pub apart : IsDistinct (eq_by_cmp pos_cmp) (keys_of es)
    pub same : (q : Pos) → find pos_cmp q es ≡ None → map.get (merged lanes) q ≡ map.get (merged (others triggers lanes cpu)) q

  all_own : (lines : List (ℕ × Traced)) → AllByRecursion (λ e. e.0.cpu ≡ cpu) (placed cpu lines)
  all_own [] = tt
  all_own (e ∷ lines) = (refl, all_own lines)

  in_order : (held : Option Lane) → map.get lanes cpu ≡ held → AreItsEvents (option_map_or (λ (lane : Lane). placed cpu (map.entries lane.events)) held [])
  unfolding IsDistinct
  in_order None none = record { each = tt; own = tt; apart = tt; same = λ q _. ap (λ (l : Lanes). map.get (merged l) q) (sym (remove_none lanes cpu none)) }
  in_order (Some lane) there = record {
    each = all_placed cpu _ (map.entries lane.events) (all_map _ _ (line_goes triggers lanes cpu lane there) (map.entries lane.events) (entries_found nat_cmp nat_cmp_total lane.events));
    own = all_own (map.entries lane.events);
    apart = lines_apart cpu (map.entries lane.events) (sorted triggers lanes cpu lane there);
    same = same_there triggers lanes cpu lane there;
  }

  moved_each : (P : Pos × Traced → Type 0) (es fs : List (Pos × Traced)) → IsPermutation es fs → AllByRecursion P es → AllByRecursion P fs
  moved_each P es fs moved each = recursion_from_All _ fs (All-permutation P es fs moved (All-from_recursion _ es each))

  module _ (es : List (Pos × Traced)) (moved : HasItsLane lanes cpu es) where
    its : AreItsEvents (lane_events lanes cpu)
    its = in_order (map.get lanes cpu) refl

    all_apart : IsDistinct (eq_by_cmp pos_cmp) (keys_of es)
    all_apart = IsDistinct-IsPermutation (eq_by_cmp pos_cmp) (eq_by_cmp_equiv pos_cmp_total).symm (keys_of (lane_events lanes cpu)) (keys_of es) (IsPermutation-map (λ e. e.0) (lane_events lanes cpu) es moved) its.apart

    -- all are its own
    pub listed_own : AllByRecursion (λ e. e.0.cpu ≡ cpu) es
    listed_own = moved_each _ (lane_events lanes cpu) es moved its.own

    -- first all are left, in whatever order
    pub going_listed : HasSavers triggers → (shelves : Shelves) → AreKept triggers (merged lanes) shelves → AreGoing es shelves
    going_listed savers = events_all triggers lanes Retract (merged lanes) (merged (others triggers lanes cpu)) savers (merged_held lanes) es
        (moved_each _ (lane_events lanes cpu) es moved its.each)
        all_apart
        (λ at none. acts_alike triggers (merged lanes) (merged (others triggers lanes cpu)) at
        (its.same at.pos (find-moved pos_cmp_total pos_same at.pos (lane_events lanes cpu) es moved its.apart all_apart ∙ none)))

-- if a base's lane is of plain hits, so is the next of its events
pub event_plain : (base : Base) {triggers : Triggers} {lanes : Lanes} → triggers ≡ base.triggers → lanes ≡ base.lanes → (cpu : ℕ) {es rest : List (Pos × Traced)} {e : Pos × Traced} {shelves : Shelves}
    → es ≡ e ∷ rest → AreGoing triggers lanes cpu es shelves → AllByRecursion (λ x. x.0.cpu ≡ cpu) es → IsPlainLane base.triggers base.lanes cpu → memory.AllActPlainly triggers shelves e.1
event_plain base {triggers} {lanes} own all cpu {e = e} {shelves = shelves} more going its plain id hist attached key hits =
    let is = next_of more going in
    let here = subst (λ (held : Triggers × Lanes). IsPlainLane held.0 held.1 cpu) (λ i. (sym own i, sym all i)) plain in
    let same : e.0.cpu ≡ cpu = (subst (AllByRecursion (λ (x : Pos × Traced). x.0.cpu ≡ cpu)) more its).0 in
    plain_shelf triggers shelves is.kept.each id hist attached (here e.0.line e.1 (subst (λ (c : ℕ). event_at lanes c e.0.line ≡ Some e.1) same is.changes.0.held.0) id hist attached key hits)

-- if a base's lane is of plain hits, so is its next event
pub line_plain : (base : Base) {triggers : Triggers} {lanes : Lanes} → triggers ≡ base.triggers → lanes ≡ base.lanes → (cpu : ℕ) {lines rest : List (ℕ × Traced)} {e : ℕ × Traced} {shelves : Shelves}
    → lines ≡ e ∷ rest → IsGoing triggers lanes cpu lines shelves → IsPlainLane base.triggers base.lanes cpu → memory.AllActPlainly triggers shelves e.1
line_plain base {triggers} own all cpu {e = e} {shelves = shelves} more going plain id hist attached key hits =
    let is = next_of (ap (placed cpu) more) going in
    let here = subst (λ (held : Triggers × Lanes). IsPlainLane held.0 held.1 cpu) (λ i. (sym own i, sym all i)) plain in
    plain_shelf triggers shelves is.kept.each id hist attached (here e.0 e.1 is.changes.0.held.0 id hist attached key hits)

-- the line that a walk comes to is the first of those that are left
pub line_next : (lines rest : List (ℕ × Traced)) (next : Option (ℕ × Stored)) (x : ℕ × Stored) (event : Traced) → next ≡ Some x → TakesFirst traced_line lines next rest → event ≡ held x.1 → lines ≡ (x.0, event) ∷ rest
line_next lines rest next x event is steps unpacked = rest_more traced_line lines rest next x is steps ∙ ap (λ (e : Traced). (x.0, e) ∷ rest) (sym unpacked)

-- the lines of a lane, if it is held
abbrev lines_of : Option Lane → Option (List (ℕ × Traced))
lines_of held = option_map (λ (lane : Lane). map.entries lane.events) held

pub no_lines : (held : Option Lane) → None ≡ lines_of held → held ≡ None
no_lines None is = refl
no_lines (Some lane) is = absurd cc

pub its_lines : (held : Option Lane) (lines : List (ℕ × Traced)) → Some lines ≡ lines_of held → (lane : Lane) × ((held ≡ Some lane) × (lines ≡ map.entries lane.events))
its_lines None lines is = absurd cc
its_lines (Some lane) lines is = (lane, (refl, ap (λ (o : Option (List (ℕ × Traced))). unwrap_or o lines) is))

pub no_lines_listed : (lanes : Lanes) (cpu : ℕ) → None ≡ lines_of (map.get lanes cpu) → [] ≡ lane_events lanes cpu
no_lines_listed lanes cpu is = sym (ap (λ (o : Option Lane). option_map_or (λ (lane : Lane). placed cpu (map.entries lane.events)) o []) (no_lines (map.get lanes cpu) is))

pub lines_listed : (lanes : Lanes) (cpu : ℕ) (lines : List (ℕ × Traced)) → Some lines ≡ lines_of (map.get lanes cpu) → placed cpu lines ≡ lane_events lanes cpu
lines_listed lanes cpu lines is =
    let its = its_lines (map.get lanes cpu) lines is in
    ap (placed cpu) its.1.1 ∙ sym (ap (λ (o : Option Lane). option_map_or (λ (lane : Lane). placed cpu (map.entries lane.events)) o []) its.1.0)

-- one more of them, with its place
pub listed_more : (cpu : ℕ) (es : List (Pos × Stored)) (line : ℕ) (stored : Stored) (stamp : ℕ) (rest : List (ℕ × Traced)) → stamp ≡ (held stored).stamp
    → (entries_by held (es ++ (record { stamp = stamp; cpu = cpu; line = line }, stored) ∷ []) ++ placed cpu rest) ≡ (entries_by held es ++ placed cpu ((line, held stored) ∷ rest))
listed_more cpu [] line stored stamp rest is = ap (λ (s : ℕ). (record { stamp = s; cpu = cpu; line = line }, held stored) ∷ placed cpu rest) is
listed_more cpu (e ∷ es) line stored stamp rest is = ap (λ (l : List (Pos × Traced)). (e.0, held e.1) ∷ l) (listed_more cpu es line stored stamp rest is)

-- ---- what it costs

-- how many triggers are on the name of each of some events, taken together
abbrev pub count_events : {K : Type 0} → Triggers → List (K × Traced) → ℕ
count_events triggers events = sum_by (λ entry. count_on triggers entry.1) events

-- those of the first are counted with those of the rest
pub counted : {K : Type 0} (triggers : Triggers) {es rest : List (K × Traced)} {e : K × Traced} → es ≡ e ∷ rest → count_events triggers es ≡ count_on triggers e.1 + count_events triggers rest
counted {K} triggers {rest = rest} {e = e} more = ap (count_events triggers) more ∙ sum_by-cons (λ (entry : K × Traced). count_on triggers entry.1) e rest

counts_placed : (triggers : Triggers) (cpu : ℕ) (lines : List (ℕ × Traced)) → count_events triggers (placed cpu lines) ≡ count_events triggers lines
counts_placed triggers cpu [] = refl
counts_placed triggers cpu (e ∷ lines) =
    counted triggers {es = placed cpu (e ∷ lines)} {rest = placed cpu lines} {e = (place_of cpu e, e.1)} refl
    ∙ ap (λ n. count_on triggers e.1 + n) (counts_placed triggers cpu lines)
    ∙ sym (counted triggers {es = e ∷ lines} {rest = lines} {e = e} refl)

-- those of a lane, in whatever order
pub lane_counts : (triggers : Triggers) (lanes : Lanes) (cpu : ℕ) (lane : Lane) → map.get lanes cpu ≡ Some lane → (es : List (Pos × Traced)) → HasItsLane lanes cpu es → count_events triggers es ≡ count_on_lane triggers lane
lane_counts triggers lanes cpu lane there es moved =
    sum_by-IsPermutation (λ entry. count_on triggers entry.1) (lane_events lanes cpu) es moved
    ∙ ap (λ (o : Option Lane). count_events triggers (option_map_or (λ (l : Lane). placed cpu (map.entries l.events)) o [])) there
    ∙ counts_placed triggers cpu (map.entries lane.events)

-- ---- what was held before a load

some_or : {X : Type 0} (b : Bool) (x : X) (o : Option X) → is_some (cond b (Some x) o) ≡ (b || is_some o)
some_or true x o = refl
some_or false x o = refl

-- a CPU is among those of some lanes if one of these is its own
among_keys : (cpu : ℕ) (es : List (ℕ × Lane)) → is_among (keys_of es) cpu ≡ is_some (find nat_cmp cpu es)
among_keys cpu [] = refl
among_keys cpu (e ∷ es) =
    (λ i. sym (unsigned_tied cpu e.0 ∙ nat_eq_equiv.symm cpu e.0) i || among_keys cpu es i)
    ∙ sym (some_or (eq_by_cmp nat_cmp cpu e.0) e.1 (find nat_cmp cpu es))

pub among_lanes : (lanes : Lanes) (cpu : ℕ) → is_among (map.keys lanes) cpu ≡ map.contains_key lanes cpu
among_lanes lanes cpu = among_keys cpu (map.entries lanes) ∙ ap is_some (sym (get-entries lanes cpu))

pub lanes_before : (lanes : Lanes) (es : List Traced) → first_held lanes es ≡ None → lanes_of (map.keys lanes) (with_lanes lanes es) ≡ lanes
lanes_before lanes es none = same_map nat_cmp_total nat_cmp-IsAntisymmetric (lanes_of (map.keys lanes) (with_lanes lanes es)) lanes (λ q.
    get-chosen (is_among (map.keys lanes)) (with_lanes lanes es) q
    ∙ ap (λ (b : Bool). cond b (map.get (with_lanes lanes es) q) None) (among_lanes lanes q)
    ∙ held-stays lanes es none q (map.contains_key lanes q) refl)
