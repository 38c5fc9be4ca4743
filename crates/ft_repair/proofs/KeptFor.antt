-- What is kept for an input: which acts are held, which forms shelves have, and how both follow a change.
use Rattle.std.proofs.Common.{◌≡◌, Bool, false, List, sym, ap, ◌∙◌, Option, Some, None, ℕ, subst, is_some}
use Rattle.std.specs.Prelude.{◌==◌, ◌&&◌, if◌then◌else◌, option_map, option_and_then}
use Rattle.std.specs.FinMap as map
use Rattle.std.proofs.lemmas.Bool.{cond_both, eqb-true}
use Rattle.std.proofs.lemmas.Option.{option_and_then_some, some_pair_parts, cond_some, none-some, same_Some}
use Rattle.ft_hist.specs.Hit.{key_of, passes_filter, hit, same_name}
use Rattle.ft_kept.specs.Views.{AreViewsOf, act_by_id, act_under}
use Rattle.ft_kept.specs.Repairs as repairs
use Rattle.ft_kept.specs.Shelves.{FormStays, role_on, admits_on, FormsStay, kept_on, Shelved, Shelves}
use Rattle.ft_repair.specs.KeptShelves.{IsShelfOf, AreKept, AreKeptOf, HasItsShelf}
use Rattle.ft_repair.proofs.Families.{attached_as, read_saves, role_there, saves_some}
use Rattle.ft_base.specs.Base.{Base, Triggers}
use Rattle.ft_base.specs.Reachable.{HasSavers}
use Rattle.ft_base.specs.Roles.{role_at, role_of}
use Rattle.ft_fields.specs.Places.{pos_cmp, pos_cmp_total}
use Rattle.ft_fields.specs.Traced.{name_of, Traced}
use Rattle.ft_fields.specs.declared.key.Part.{Part}
use Rattle.ft_fields.specs.declared.pos.Pos.{Pos}
use Rattle.ft_hist.specs.Hist.{Hist}
use Rattle.ft_kept.specs.Acts.{Acts, acts_of, AreHeld}
use Rattle.ft_kept.specs.Entries.{IsKept}
use Rattle.ft_kept.specs.Input.{AreViews, input_of}
use Rattle.ft_lanes.specs.Held.{event_at, Lanes}
use Rattle.ft_pairs.specs.declared.at.At.{At}
use Rattle.ft_pairs.specs.declared.role.Role.{Role}
use Rattle.ft_pairs.specs.declared.role.Role.TheVariants.{Plain}
use Rattle.ft_repair.specs.KeptFor.{AreKeptFor}
use Rattle.ft_replay.proofs.Places.{merged_at}
use Rattle.ft_replay.specs.Merged.{Events, held_at, merged}
use Rattle.ft_table.specs.Values.{values_by}
use Rattle.std.specs.FinMap.{get-remove}
use Rattle.std.specs.Option.{option_map_or}
use Rattle.std.specs.Ordering.{eq_by_cmp}
use Rattle.ft_kept.proofs.Input.{acts_are}

-- ---- acts are held

-- an event that is held at a place is its line's, with its stamp
pub held_is : (lanes : Lanes) (pos : Pos) (event : Traced) → held_at lanes pos ≡ Some event → (event_at lanes pos.cpu pos.line ≡ Some event) × (event.stamp ≡ pos.stamp)
held_is lanes pos event held = option_and_then_some (λ (e : Traced). if e.stamp == pos.stamp then Some e else None) (event_at lanes pos.cpu pos.line) event held (λ e there is.
    let parts = cond_some (e.stamp == pos.stamp) e event is in
    (there ∙ ap (λ (x : Traced). Some x) parts.1, ap (λ (x : Traced). x.stamp) (sym parts.1) ∙ eqb-true e.stamp pos.stamp parts.0))

-- all of some events are held
abbrev pub AllHeld : Lanes → Events → Type 0
AllHeld lanes events = (pos : Pos) (event : Traced) → map.get events pos ≡ Some event → held_at lanes pos ≡ Some event

pub merged_held : (lanes : Lanes) → AllHeld lanes (merged lanes)
merged_held lanes pos event is = sym (merged_at pos lanes) ∙ is

-- and so they are without one
pub less_held : (lanes : Lanes) (events : Events) (pos : Pos) → AllHeld lanes events → AllHeld lanes (map.remove events pos)
less_held lanes events pos held q x found =
    cond_both (eq_by_cmp pos_cmp q pos) None (map.get events q) (λ (o : Option Traced). o ≡ Some x → held_at lanes q ≡ Some x)
    (λ _ none. absurd (none-some x none)) (λ _. held q x) (sym (get-remove pos_cmp_total events pos q) ∙ found)

-- the act at an event, of a trigger if there is one
abbrev pub act_in : Option Hist → Traced → Option (List Part × Traced)
act_in hist event = option_and_then (λ (h : Hist). act_under h event) hist

act_event : (hist : Option Hist) (own : Traced) (key : List Part) (event : Traced) → act_in hist own ≡ Some (key, event) → own ≡ event
act_event hist own key event is = option_and_then_some (λ (h : Hist). act_under h own) hist (key, event) is (λ h _ found. by_key (hit h own) found)
  where
    by_key : (o : Option (List Part)) → option_map {U = List Part × Traced} (λ (k : List Part). (k, own)) o ≡ Some (key, event) → own ≡ event
    by_key None found = absurd (none-some (key, event) found)
    by_key (Some k) found = (some_pair_parts k key own event found).1

pub acts_held : (triggers : Triggers) (lanes : Lanes) (events : Events) → AllHeld lanes events → AreHeld triggers lanes (acts_of triggers events)
unfolding acts_of
acts_held triggers lanes events all at act is = option_and_then_some (act_in (map.get triggers at.trigger)) (map.get events at.pos) act is (λ own there found.
    let same : own ≡ act.1 = act_event (map.get triggers at.trigger) own act.0 act.1 found in
    (held_is lanes at.pos act.1 (all at.pos act.1 (there ∙ ap (λ (x : Traced). Some x) same)), ap (act_in (map.get triggers at.trigger)) (sym same) ∙ found))

-- acts are alike if the events are
pub acts_alike : (triggers : Triggers) (events others : Events) (at : At) → map.get events at.pos ≡ map.get others at.pos → acts_of triggers events at ≡ acts_of triggers others at
unfolding acts_of
acts_alike triggers events others at same = ap (act_by_id triggers at.trigger) same

-- an event of another name is no hit
pub no_hit : (hist : Hist) (event : Traced) → same_name hist.event (name_of event.body) ≡ false → hit hist event ≡ None
no_hit hist event other = ap (λ (b : Bool). if b && passes_filter hist.filter event then key_of hist.keys event else None) other

-- ---- the shelves of triggers

-- each attached trigger has its shelf
abbrev pub HaveShelves : Triggers → Shelves → Type 0
HaveShelves triggers shelves = (id : ℕ) → HasItsShelf triggers (map.get triggers id) (map.get shelves id)

same_role : (triggers : Triggers) (hist : Option Hist) (shelf : Option Shelved) → HasItsShelf triggers hist shelf
    → option_map_or (λ (s : Shelved). s.role) shelf Plain ≡ option_map_or (λ (h : Hist). role_of triggers h.variable) hist Plain
same_role triggers None shelf has = ap (λ (o : Option Shelved). option_map_or (λ (s : Shelved). s.role) o Plain) has
same_role triggers (Some hist) shelf has = ap (λ (o : Option Shelved). option_map_or (λ (s : Shelved). s.role) o Plain) has.1.0 ∙ has.1.1.role

same_there : (triggers : Triggers) (hist : Option Hist) (shelf : Option Shelved) → HasItsShelf triggers hist shelf → is_some shelf ≡ is_some hist
same_there triggers None shelf has = ap is_some has
same_there triggers (Some hist) shelf has = ap is_some has.1.0

its_stays : (triggers : Triggers) (hist : Option Hist) (old new : Option Shelved) → HasItsShelf triggers hist old → FormStays old new → HasItsShelf triggers hist new
its_stays triggers None old new has stays = subst (λ (o : Option Shelved). FormStays o new) has stays
its_stays triggers (Some hist) old new has stays =
    let after = subst (λ (o : Option Shelved). FormStays o new) has.1.0 stays in (
      after.0,
      (
        after.1.0,
        record {
          role = after.1.1.role ∙ has.1.1.role;
          size = after.1.1.size ∙ has.1.1.size;
          traced = λ m made. after.1.1.made m made ∙ has.1.1.traced m made;
        },
      ),
    )

pub shelves_stay : (triggers : Triggers) (old new : Shelves) → HaveShelves triggers old → FormsStay old new → HaveShelves triggers new
shelves_stay triggers old new has stays id = its_stays triggers (map.get triggers id) (map.get old id) (map.get new id) (has id) (stays id)

module _ (triggers : Triggers) (shelves : Shelves) (has : HaveShelves triggers shelves) where
  -- the shelf of an attached trigger
  pub its_shelf : (id : ℕ) (hist : Hist) → map.get triggers id ≡ Some hist → HasItsShelf triggers (Some hist) (map.get shelves id)
  its_shelf id hist attached = subst (λ (o : Option Hist). HasItsShelf triggers o (map.get shelves id)) attached (has id)

  pub own_shelf : (id : ℕ) (hist : Hist) (shelf : Shelved) → map.get triggers id ≡ Some hist → map.get shelves id ≡ Some shelf → IsShelfOf triggers hist shelf
  own_shelf id hist shelf attached there =
      let its = its_shelf id hist attached in
      subst (IsShelfOf triggers hist) (same_Some its.0 shelf (sym its.1.0 ∙ there)) its.1.1

  pub shelves_role : (id : ℕ) → role_on shelves id ≡ role_at triggers id
  unfolding role_on role_at
  shelves_role id = same_role triggers (map.get triggers id) (map.get shelves id) (has id)

  -- the shelf of a trigger without a variable has none
  pub plain_shelf : (id : ℕ) (hist : Hist) → map.get triggers id ≡ Some hist → hist.variable ≡ None → role_on shelves id ≡ Plain
  plain_shelf id hist there none = shelves_role id ∙ role_there triggers id hist there ∙ ap (role_of triggers) none

  pub shelves_roles : role_on shelves ≡ role_at triggers
  shelves_roles i id = shelves_role id i

-- a reader's saver has a shelf
pub all_shelved : (triggers : Triggers) (shelves : Shelves) → HasSavers triggers → HaveShelves triggers shelves → repairs.AreShelved triggers shelves
all_shelved triggers shelves savers has = record {
  each = λ id. same_there triggers (map.get triggers id) (map.get shelves id) (has id);
  savers = λ id saver is. same_there triggers (map.get triggers saver) (map.get shelves saver) (has saver) ∙ ap is_some (attached_as triggers saver (saves_some (role_at triggers saver) (read_saves triggers savers id saver (sym (shelves_role triggers shelves has id) ∙ is)))).1;
}

-- ---- what is kept for an input

module _ (triggers : Triggers) (lanes : Lanes) where
  -- what is right by the triggers' roles is so by those of the shelves
  pub right_for : HasSavers triggers → (input : Acts) → AreHeld triggers lanes input → (shelves : Shelves) → HaveShelves triggers shelves
      → IsKept (role_at triggers) (values_by triggers) (admits_on shelves) input (kept_on shelves) → AreKeptFor triggers lanes input shelves
  right_for savers input held shelves each kept = record {
    each = each;
    views = record {
      shelved = all_shelved triggers shelves savers each;
      held = held;
      kept = subst (λ (role : ℕ → Role). IsKept role (values_by triggers) (admits_on shelves) input (kept_on shelves)) (sym (shelves_roles triggers shelves each)) kept;
    };
  }

  pub for_right : (input : Acts) (shelves : Shelves) → AreKeptFor triggers lanes input shelves → IsKept (role_at triggers) (values_by triggers) (admits_on shelves) input (kept_on shelves)
  for_right input shelves is = subst (λ (role : ℕ → Role). IsKept role (values_by triggers) (admits_on shelves) input (kept_on shelves)) (shelves_roles triggers shelves is.each) is.views.kept

  -- the acts at events are an input
  pub kept_for : HasSavers triggers → (events : Events) → AllHeld lanes events → (shelves : Shelves) → AreKept triggers events shelves → AreKeptFor triggers lanes (acts_of triggers events) shelves
  kept_for savers events held shelves kept = right_for savers (acts_of triggers events) (acts_held triggers lanes events held) shelves kept.each kept.kept

  pub for_kept : (events : Events) (shelves : Shelves) → AreKeptFor triggers lanes (acts_of triggers events) shelves → AreKept triggers events shelves
  for_kept events shelves is = record { each = is.each; kept = for_right (acts_of triggers events) shelves is }

  module _ (input : Acts) where
    -- the input is the one that shelves tell
    pub input_is : (shelves : Shelves) → AreKeptFor triggers lanes input shelves → input_of triggers lanes shelves ≡ input
    input_is shelves is = acts_are triggers lanes input shelves is.views

    pub views_of : (shelves : Shelves) → AreKeptFor triggers lanes input shelves → AreViews triggers lanes shelves
    views_of shelves is = subst (λ (acts : Acts). AreViewsOf triggers lanes acts shelves) (sym (input_is shelves is)) is.views

    pub told_for : (shelves : Shelves) → AreKeptFor triggers lanes input shelves → AreKeptFor triggers lanes (input_of triggers lanes shelves) shelves
    told_for shelves is = record { each = is.each; views = views_of shelves is }

    -- after a change they are kept for the input that they are views of
    pub changed_for : (old new : Shelves) → HaveShelves triggers old → FormsStay old new → AreViewsOf triggers lanes input new → AreKeptFor triggers lanes input new
    changed_for old new each forms views = record { each = shelves_stay triggers old new each forms; views = views }

-- all is kept of a base, with triggers and lanes that are its own
pub kept_of : (base : Base) {triggers : Triggers} {lanes : Lanes} → triggers ≡ base.triggers → lanes ≡ base.lanes → HasSavers base.triggers → (shelves : Shelves) → AreKeptOf base shelves → AreKeptFor triggers lanes (acts_of triggers (merged lanes)) shelves
kept_of base own all savers shelves kept =
    subst (λ (held : Triggers × Lanes). AreKeptFor held.0 held.1 (acts_of held.0 (merged held.1)) shelves) (λ i. (sym own i, sym all i)) (kept_for base.triggers base.lanes savers (merged base.lanes) (merged_held base.lanes) shelves kept)
