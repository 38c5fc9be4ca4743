-- Trigger by trigger a family gets new shelves, and then its acts.
use Rattle.std.proofs.Common.{◌≡◌, ◌+◌, ◌≤◌, ℕ, Bool, true, false, cond, List, [], ◌∷◌, length, refl, sym, ap, subst, ◌∙◌, Option, Some, None, is_some, ⊎_elim, arith}
use Rattle.std.specs.Prelude.{◌==◌, ◌&&◌, if◌then◌else◌}
use Rattle.std.specs.List.Sorted.{IsStrictlySortedBy}
use Rattle.std.specs.FinMap as map
use Rattle.std.specs.FinMap.{len-entries, entries_sorted, find, get-entries, nat_cmp-IsAntisymmetric}
use Rattle.std.proofs.lemmas.List.Sums.{sum_by-cons}
use Rattle.std.proofs.lemmas.Map.Keys.{sorted_tail}
use Rattle.ft_hist.specs.Tests.{tests_taken}
use Rattle.ft_maps.specs.Entries.{get-insert_other, get-insert_same, strictly_sorted}
use Rattle.ft_base.proofs.Apart.{entries_found}
use Rattle.ft_replay.specs.Costs.{named_in}
use Rattle.ft_repair.proofs.Alike.{no_act_of}
use Rattle.ft_repair.proofs.KeptFor.{input_is, told_for, held_is, shelves_stay}
use Rattle.ft_repair.proofs.EventLists.{own_events, all_of_them, IsAmong, act_by, among_all, all_acts_held, on_held, own_acts}
use Rattle.ft_groups.specs.Grouped.{Grouped, AreGrouped}
use Rattle.ft_kept.proofs.Forms.{roles_stay, shelved_stay}
use Rattle.ft_kept.specs.Acts.{IsHeldAct, Acts, acts_of, AreHeld}
use Rattle.ft_kept.specs.AtOnce.{AllCome, AllHaveCome}
use Rattle.ft_base.specs.Base.{Triggers}
use Rattle.ft_base.specs.Roles.{role_of}
use Rattle.ft_fields.specs.Traced.{name_of, Traced}
use Rattle.ft_fields.specs.declared.event.Name.{Name}
use Rattle.ft_fields.specs.declared.key.Part.{Part}
use Rattle.ft_fields.specs.declared.pos.Pos.{Pos}
use Rattle.ft_hist.specs.Hist.{Hist}
use Rattle.ft_hist.specs.Hit.{same_name}
use Rattle.ft_kept.specs.Entries.{IsKept}
use Rattle.ft_kept.specs.Input.{input_of}
use Rattle.ft_kept.specs.Shelves.{AddsShelf, admits_on, FormsStay, kept_on, Shelves}
use Rattle.ft_lanes.specs.Held.{Lanes}
use Rattle.ft_maps.specs.Mapped.{entries_by}
use Rattle.ft_pairs.specs.declared.at.At.{At}
use Rattle.ft_pairs.specs.declared.role.Role.{Role}
use Rattle.ft_repair.specs.KeptFor.{AreKeptFor}
use Rattle.ft_repair.specs.Outside.{acts_outside, AreRenewed, HasNewShelf}
use Rattle.ft_repair.specs.inner.Joining.{HasItsEvents, is_one, with_trigger}
use Rattle.ft_replay.proofs.Places.{none_later}
use Rattle.ft_replay.specs.Merged.{merged}
use Rattle.ft_replay.specs.Named.{events_on, is_on, named}
use Rattle.ft_shelves.proofs.Decided.{untied}
use Rattle.ft_store.specs.Stored.{held}
use Rattle.ft_store.specs.declared.stored.Stored.{Stored}
use Rattle.ft_table.specs.Values.{values_by}
use Rattle.std.proofs.lemmas.Bool.{cases_eq, eq-eqb, eqb-false, ne_eqb, true≢false}
use Rattle.std.proofs.lemmas.Option.{same_Some}
use Rattle.std.specs.Cmp.{eq_by_cmp_equiv, nat_cmp_total, unsigned_tied}
use Rattle.std.specs.List.{AllByRecursion, sum_by}
use Rattle.std.specs.Map.{keys_of}
use Rattle.std.specs.Ordering.{nat_cmp}
use Rattle.ft_shelves.specs.Joining.{AreGroupsOf, acts_with}

-- ---- new shelves, one by one

module _ (triggers : Triggers) (family : ℕ → Bool) (old : Shelves) where
  -- all of the family, except those that are left, have new shelves
  pub record AreRenewedBut (rest : List (ℕ × Hist)) (now : Shelves) : Type 0 where
    pub stay : (id : ℕ) → family id ≡ false → map.get now id ≡ map.get old id
    pub none : (id : ℕ) → map.get triggers id ≡ None → map.get now id ≡ map.get old id
    pub fresh : (id : ℕ) (hist : Hist) → family id ≡ true → map.get triggers id ≡ Some hist → find nat_cmp id rest ≡ None → HasNewShelf triggers hist (map.get now id)
    pub attached : AllByRecursion (λ e. map.get triggers e.0 ≡ Some e.1) rest

  pub renewed_none : AreRenewedBut (map.entries triggers) old
  renewed_none = record {
    stay = λ _ _. refl;
    none = λ _ _. refl;
    fresh = λ id hist _ there gone. let both : ◌≡◌ {A = Option Hist} None (Some hist) = sym gone ∙ sym (get-entries triggers id) ∙ there in absurd cc;
    attached = entries_found nat_cmp nat_cmp_total triggers;
  }

-- what stands under another number than the first's stands behind it
found_behind : {X : Type 0} (e : ℕ × X) (rest : List (ℕ × X)) (id : ℕ) → (id ≡ e.0 → ⊥) → find nat_cmp id (e ∷ rest) ≡ find nat_cmp id rest
found_behind {X} e rest id apart = ap (λ (b : Bool). cond b (Some e.1) (find nat_cmp id rest)) (untied nat_cmp_total nat_cmp-IsAntisymmetric id e.0 apart)

module _ {triggers : Triggers} {family : ℕ → Bool} {old : Shelves} {e : ℕ × Hist} {rest : List (ℕ × Hist)} {now : Shelves} (is : AreRenewedBut triggers family old (e ∷ rest) now) where
  -- who is of the family is another than one who isn't
  other_than : (is_in : ℕ → Bool) (id other : ℕ) → is_in id ≡ true → is_in other ≡ false → id ≡ other → ⊥
  other_than is_in id other inside out same = true≢false (sym inside ∙ ap is_in same ∙ out)

  -- one that is not of the family
  pub renewed_skip : family e.0 ≡ false → AreRenewedBut triggers family old rest now
  renewed_skip out = record {
    stay = is.stay;
    none = is.none;
    fresh = λ id hist inside there gone. is.fresh id hist inside there (found_behind e rest id (other_than family id e.0 inside out) ∙ gone);
    attached = is.attached.1;
  }

  -- one that is
  module _ (more : Shelves) (adds : AddsShelf e.0 (role_of triggers e.1.variable) e.1.size now more) where
    elsewhere : (id : ℕ) → (id ≡ e.0 → ⊥) → map.get more id ≡ map.get now id
    elsewhere id apart = ap (λ (s : Shelves). map.get s id) adds.1.0 ∙ get-insert_other nat_cmp_total nat_cmp-IsAntisymmetric now e.0 adds.0 id apart

    its_own : HasNewShelf triggers e.1 (map.get more e.0)
    its_own = (adds.0, (ap (λ (s : Shelves). map.get s e.0) adds.1.0 ∙ get-insert_same nat_cmp_total now e.0 adds.0, adds.1.1))

    pub renewed_more : family e.0 ≡ true → AreRenewedBut triggers family old rest more
    renewed_more member = record {
      stay = λ id out. elsewhere id (λ same. other_than family e.0 id member out (sym same)) ∙ is.stay id out;
      none = λ id gone. elsewhere id (λ same. let both : ◌≡◌ {A = Option Hist} None (Some e.1) = sym gone ∙ ap (map.get triggers) same ∙ is.attached.0 in absurd cc) ∙ is.none id gone;
      fresh = λ id hist inside there gone. ⊎_elim
          (λ same.
          let own : e.1 ≡ hist = same_Some e.1 hist (sym is.attached.0 ∙ ap (map.get triggers) (sym same) ∙ there) in
          subst (λ (x : ℕ × Hist). HasNewShelf triggers x.1 (map.get more x.0)) (λ i. (sym same i, own i)) its_own)
          (λ apart. subst (HasNewShelf triggers hist) (sym (elsewhere id apart)) (is.fresh id hist inside there (found_behind e rest id apart ∙ gone)))
          (cases_eq id e.0);
      attached = is.attached.1;
    }

-- the first of those that are left
pub next_renewed : {triggers : Triggers} {family : ℕ → Bool} {old : Shelves} {es rest : List (ℕ × Hist)} {e : ℕ × Hist} {now : Shelves} → es ≡ e ∷ rest → AreRenewedBut triggers family old es now → AreRenewedBut triggers family old (e ∷ rest) now
next_renewed {triggers} {family} {old} {now = now} more = subst (λ (es : List (ℕ × Hist)). AreRenewedBut triggers family old es now) more

pub renewed_all : {triggers : Triggers} {family : ℕ → Bool} {old : Shelves} {es : List (ℕ × Hist)} {now : Shelves} → es ≡ [] → AreRenewedBut triggers family old es now → AreRenewed triggers family old now
renewed_all none is = record { stay = is.stay; none = is.none; fresh = λ id hist inside there. is.fresh id hist inside there (ap (find nat_cmp id) none) }

-- ---- acts, trigger by trigger

-- some triggers without one
abbrev but_one : ℕ → (ℕ → Bool) → ℕ → Bool
but_one id idle other = if is_one id other then false else idle other

module _ (triggers : Triggers) (lanes : Lanes) where
  -- what is kept while these are idle
  abbrev pub KeptIdle : (ℕ → Bool) → Shelves → Type 0
  KeptIdle idle shelves = AreKeptFor triggers lanes (acts_outside idle triggers lanes) shelves

  -- with all of its acts a trigger is idle no more
  pub idle_joined : (id : ℕ) (idle : ℕ → Bool) → with_trigger triggers lanes id (acts_outside idle triggers lanes) ≡ acts_outside (but_one id idle) triggers lanes
  idle_joined id idle i at = joins (is_one id at.trigger) i
    where
      joins : (own : Bool) → (if own then acts_of triggers (merged lanes) at else acts_outside idle triggers lanes at) ≡ (if (if own then false else idle at.trigger) then None else acts_of triggers (merged lanes) at)
      joins true = refl
      joins false = refl

-- who of a family is left
abbrev pub left_in : (ℕ → Bool) → List (ℕ × Hist) → ℕ → Bool
left_in family rest id = is_some (find nat_cmp id rest) && family id

-- what a trigger of the family is asked, and others not
abbrev pub tests_in : (ℕ → Bool) → Lanes → List (ℕ × Hist) → ℕ
tests_in family lanes rest = sum_by (λ e. if family e.0 then named_in lanes e.1 else 0) rest

module _ (triggers : Triggers) (lanes : Lanes) (family : ℕ → Bool) where
  -- at first all of the family are left
  all_left : (at : At) → acts_outside family triggers lanes at ≡ acts_outside (left_in family (map.entries triggers)) triggers lanes at
  all_left at = elim (map.get triggers at.trigger) as (λ (o : Option Hist). map.get triggers at.trigger ≡ o → acts_outside family triggers lanes at ≡ acts_outside (left_in family (map.entries triggers)) triggers lanes at) [
    | None ↦ λ none. let no_act = no_act_of triggers (merged lanes) at none in nothing (family at.trigger) no_act ∙ sym (nothing (left_in family (map.entries triggers) at.trigger) no_act)
    | Some hist ↦ λ there. ap (λ (o : Option Hist). cond (is_some o && family at.trigger) None (acts_of triggers (merged lanes) at)) (sym there ∙ get-entries triggers at.trigger)
  ] refl
    where
      nothing : (b : Bool) → acts_of triggers (merged lanes) at ≡ None → cond b None (acts_of triggers (merged lanes) at) ≡ None
      nothing true none = refl
      nothing false none = none

  -- those of the family that are left are idle
  pub record IsPut (rest : List (ℕ × Hist)) (shelves : Shelves) : Type 0 where
    pub idle : KeptIdle triggers lanes (left_in family rest) shelves
    pub attached : AllByRecursion (λ e. map.get triggers e.0 ≡ Some e.1) rest
    pub sorted : IsStrictlySortedBy nat_cmp (keys_of rest)

  pub put_none : (shelves : Shelves) → KeptIdle triggers lanes family shelves → IsPut (map.entries triggers) shelves
  put_none shelves is = record {
    idle = subst (λ (input : Acts). AreKeptFor triggers lanes input shelves) (λ i at. all_left at i) is;
    attached = entries_found nat_cmp nat_cmp_total triggers;
    sorted = strictly_sorted nat_cmp (map.entries triggers) (entries_sorted triggers);
  }

-- the first of those that are left
pub next_put : {triggers : Triggers} {lanes : Lanes} {family : ℕ → Bool} {es rest : List (ℕ × Hist)} {e : ℕ × Hist} {shelves : Shelves} → es ≡ e ∷ rest → IsPut triggers lanes family es shelves → IsPut triggers lanes family (e ∷ rest) shelves
next_put {triggers} {lanes} {family} {shelves = shelves} more = subst (λ (es : List (ℕ × Hist)). IsPut triggers lanes family es shelves) more

pub put_all : {triggers : Triggers} {lanes : Lanes} {family : ℕ → Bool} {es : List (ℕ × Hist)} {shelves : Shelves} → es ≡ [] → IsPut triggers lanes family es shelves → AreKeptFor triggers lanes (acts_of triggers (merged lanes)) shelves
put_all {triggers} {lanes} {family} {shelves = shelves} none is = (subst (λ (es : List (ℕ × Hist)). IsPut triggers lanes family es shelves) none is).idle

module _ {triggers : Triggers} {lanes : Lanes} {family : ℕ → Bool} {e : ℕ × Hist} {rest : List (ℕ × Hist)} {shelves : Shelves} (is : IsPut triggers lanes family (e ∷ rest) shelves) where
  left_skip : family e.0 ≡ false → (id : ℕ) → left_in family (e ∷ rest) id ≡ left_in family rest id
  left_skip out id = ⊎_elim
      (λ same. let none = ap family same ∙ out in none_of (family id) none (is_some (find nat_cmp id (e ∷ rest))) ∙ sym (none_of (family id) none (is_some (find nat_cmp id rest))))
      (λ apart. ap (λ (o : Option Hist). is_some o && family id) (found_behind e rest id apart))
      (cases_eq id e.0)
    where
      none_of : (own : Bool) → own ≡ false → (b : Bool) → (b && own) ≡ false
      none_of own out true = out
      none_of own out false = refl

  pub put_skip : family e.0 ≡ false → IsPut triggers lanes family rest shelves
  put_skip out = record {
    idle = subst (λ (idle : ℕ → Bool). KeptIdle triggers lanes idle shelves) (λ i id. left_skip out id i) is.idle;
    attached = is.attached.1;
    sorted = sorted_tail nat_cmp e.0 (keys_of rest) is.sorted;
  }

  -- the first of them is idle
  first_idle : family e.0 ≡ true → left_in family (e ∷ rest) e.0 ≡ true
  first_idle member = ap (λ (b : Bool). is_some (cond b (Some e.1) (find nat_cmp e.0 rest)) && family e.0) ((eq_by_cmp_equiv nat_cmp_total).refl e.0) ∙ member

  abbrev input : Acts
  input = acts_outside (left_in family (e ∷ rest)) triggers lanes

  tells : input_of triggers lanes shelves ≡ input
  tells = input_is triggers lanes input shelves is.idle

  -- and so it can join
  pub told_idle : AreKeptFor triggers lanes (input_of triggers lanes shelves) shelves
  told_idle = told_for triggers lanes input shelves is.idle

  pub idle_first : family e.0 ≡ true → (pos : Pos) → input_of triggers lanes shelves (record { pos = pos; trigger = e.0 }) ≡ None
  idle_first member pos =
      let at : At = record { pos = pos; trigger = e.0 } in
      ap (λ (input : Acts). input at) tells ∙ ap (λ (b : Bool). if b then None else acts_of triggers (merged lanes) at) (first_idle member)

  but_first : (id : ℕ) → but_one e.0 (left_in family (e ∷ rest)) id ≡ left_in family rest id
  but_first id = elim (id == e.0) as (λ (b : Bool). (id == e.0) ≡ b → cond b false (left_in family (e ∷ rest) id) ≡ left_in family rest id) [
    | true ↦ λ tie. ap (λ (o : Option Hist). is_some o && family id) (sym (none_later id e rest is.sorted (unsigned_tied id e.0 ∙ tie)))
    | false ↦ λ other. ap (λ (o : Option Hist). is_some o && family id) (found_behind e rest id (eqb-false id e.0 other))
  ] refl

  -- and as it has joined, the rest are left
  pub put_more : (new : Shelves) → AreKeptFor triggers lanes (with_trigger triggers lanes e.0 (input_of triggers lanes shelves)) new → IsPut triggers lanes family rest new
  put_more new joined = record {
    idle = subst (λ (idle : ℕ → Bool). KeptIdle triggers lanes idle new) (λ i id. but_first id i)
        (subst (λ (input : Acts). AreKeptFor triggers lanes input new) (ap (with_trigger triggers lanes e.0) tells ∙ idle_joined triggers lanes e.0 (left_in family (e ∷ rest))) joined);
    attached = is.attached.1;
    sorted = sorted_tail nat_cmp e.0 (keys_of rest) is.sorted;
  }

-- ---- tests

-- the events on a trigger's name have its own, and are as many as references to them
pub own_listed : (lanes : Lanes) (hist : Hist) {names : Name → Bool} → ((name : Name) → names name ≡ same_name hist.event name) → (items : List (Pos × Stored))
    → entries_by held items ≡ map.entries (events_on names (merged lanes)) → HasItsEvents lanes hist (entries_by held items) × (length items ≡ named_in lanes hist)
own_listed lanes hist {names} named items all = (
  record { names = names; own = λ name same. named name ∙ same; all = all },
  sym (all_of_them items) ∙ ap (λ (es : List (Pos × Traced)). length es) (all ∙ ap (λ (some : Name → Bool). map.entries (events_on some (merged lanes))) (λ i name. named name i)) ∙ sym (len-entries (own_events lanes hist)),
)

-- one event, one test at most
pub asked_once : (hist : Hist) (event : Traced) → tests_taken hist event ≤ 1
asked_once hist event = elim (same_name hist.event (name_of event.body)) as (λ (b : Bool). (if b then 1 else 0) ≤ 1) [
  | true ↦ omega arith
  | false ↦ omega arith
]

module _ (family : ℕ → Bool) (lanes : Lanes) {es rest : List (ℕ × Hist)} {e : ℕ × Hist} (more : es ≡ e ∷ rest) where
  pub tests_next : (is : Bool) → family e.0 ≡ is → tests_in family lanes es ≡ (if is then named_in lanes e.1 else 0) + tests_in family lanes rest
  tests_next is own = ap (tests_in family lanes) more ∙ sum_by-cons (λ (x : ℕ × Hist). if family x.0 then named_in lanes x.1 else 0) e rest ∙ ap (λ (b : Bool). (if b then named_in lanes e.1 else 0) + tests_in family lanes rest) own

-- ---- all acts of an idle trigger at once

-- the named events are a list with an attached trigger's own
pub named_listed : (triggers : Triggers) (lanes : Lanes) (id : ℕ) (hist : Hist) → map.get triggers id ≡ Some hist
    → (es : List (Pos × Traced)) → es ≡ map.entries (named triggers (merged lanes)) → HasItsEvents lanes hist es
unfolding named events_on
named_listed triggers lanes id hist attached es are = record { names = is_on triggers; own = among_all triggers id hist attached; all = are }

-- groups of a list with a trigger's events are those of the events at their places
abbrev pub are_groups : (lanes : Lanes) (hist : Hist) (es : List (Pos × Traced)) → HasItsEvents lanes hist es → (groups : Grouped) → AreGrouped hist es groups → AreGroupsOf hist groups
are_groups lanes hist es listed groups are = record {
  events = events_on listed.names (merged lanes);
  stamped = λ pos event is. (held_is lanes pos event (on_held lanes listed.names pos event is)).1;
  grouped = subst (λ (events : List (Pos × Traced)). AreGrouped hist events groups) listed.all are;
}

module _ (triggers : Triggers) (lanes : Lanes) (id : ℕ) (hist : Hist) (attached : map.get triggers id ≡ Some hist) (names : Name → Bool) (among : IsAmong hist names) where
  abbrev its_acts : Pos → Option (List Part × Traced)
  its_acts = acts_with hist (events_on names (merged lanes))

  its_found : (pos : Pos) → acts_of triggers (events_on names (merged lanes)) (record { pos = pos; trigger = id }) ≡ its_acts pos
  unfolding acts_of
  its_found pos = ap (λ (h : Option Hist). act_by h (map.get (events_on names (merged lanes)) pos)) attached

  module _ (input : Acts) (idle : (pos : Pos) → input (record { pos = pos; trigger = id }) ≡ None) where
    abbrev after : Acts
    after = with_trigger triggers lanes id input

    all_come : AllCome id its_acts input after
    all_come = record {
      elsewhere = λ q apart. ap (λ (b : Bool). if b then acts_of triggers (merged lanes) q else input q) (ne_eqb q.trigger id apart);
      absent = idle;
      here = λ pos.
          let at : At = record { pos = pos; trigger = id } in
          ap (λ (b : Bool). if b then acts_of triggers (merged lanes) at else input at) (eq-eqb id id refl)
          ∙ sym (own_acts triggers lanes id hist attached names among at refl)
          ∙ its_found pos;
    }

    after_held : AreHeld triggers lanes input → AreHeld triggers lanes after
    after_held held at act is =
        elim (is_one id at.trigger) as (λ (b : Bool). (if b then acts_of triggers (merged lanes) at else input at) ≡ Some act → IsHeldAct triggers lanes at act) [
          | true ↦ all_acts_held triggers lanes at act
          | false ↦ held at act
        ] is

    pub joined_at_once : (old new : Shelves) → AreKeptFor triggers lanes input old → FormsStay old new → AllHaveCome triggers id its_acts old new → AreKeptFor triggers lanes after new
    joined_at_once old new kept forms come = record {
      each = shelves_stay triggers old new kept.each forms;
      views = record {
        shelved = shelved_stay triggers old new forms kept.views.shelved;
        held = after_held kept.views.held;
        kept = subst (λ (role : ℕ → Role). IsKept role (values_by triggers) (admits_on new) after (kept_on new)) (λ i k. sym (roles_stay old new forms k) i) (come input after all_come kept.views.kept);
      };
    }
