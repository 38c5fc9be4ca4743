-- One event that comes to what is kept of a base or goes from it, as an edit of the input; and which keys savers' tables have then: those that replaying has there.
use Rattle.std.proofs.Common.{[], ◌∷◌, ◌≡◌, ℕ, ◌+◌, ◌*◌, ◌≤◌, Bool, false, cond, sym, ap, subst, ◌∙◌, Option, Some, None, inl, inr, true, List, refl}
use Rattle.std.specs.Prelude.{◌⊎◌, ℤ, ◌&&◌, option_and_then, option_map}
use Rattle.std.specs.FinMap as map
use Rattle.ft_hist.specs.Steps.{Steps}
use Rattle.ft_hist.specs.Tests.{count_on}
use Rattle.ft_kept.specs.Bounds.{SomeSaverMoves}
use Rattle.ft_kept.specs.Memory as memory
use Rattle.ft_kept.specs.Signs.{table_edit, NeedsNoMemory, event_after, event_before}
use Rattle.ft_kept.specs.Views.{AreViewsOf, act_under, with_event}
use Rattle.ft_replay.specs.Costs.{SaversStay}
use Rattle.ft_base.specs.PlainHits.{IsPlainHit}
use Rattle.ft_repair.specs.OneEvent.{AreKeptBefore, AreKeptAfter, ChangeCosts, EventNeedsNoMemory, events_before, events_after}
use Rattle.std.specs.List.{IsDistinct}
use Rattle.ft_repair.proofs.Changing.{changing_fewer}
use Rattle.ft_repair.proofs.EventLists.{AreMoving, events_all, events_none}
use Rattle.ft_repair.proofs.KeptFor.{acts_alike, AllHeld, less_held, merged_held, plain_shelf, its_shelf, shelves_role}
use Rattle.ft_repair.proofs.KeptShelves.{Grounds, table-of, hits_traced, mark_at, replayed_right, hits_are}
use Rattle.ft_repair.proofs.MergedLanes.{placed_there}
use Rattle.ft_fields.specs.Parts.{key_cmp, same_key}
use Rattle.ft_hits.specs.declared.mark.Mark.{Mark}
use Rattle.ft_table.specs.Growth.{with_hit}
use Rattle.ft_table.specs.Hits.{AreTraced}
use Rattle.ft_table.specs.Marks.{mark_cmp, mark_cmp_total, mark_same}
use Rattle.ft_table.specs.OneKey.{without_hit}
use Rattle.ft_shelves.specs.Switches.{differ}
use Rattle.ft_kept.proofs.Views.{attached_act, has_at, values_there}
use Rattle.ft_replay.specs.Hits.{replayed_hits, table_for}
use Rattle.ft_replay.specs.Found.{saving_found, values_found}
use Rattle.ft_replay.specs.Operations.{ops_on}
use Rattle.ft_replay.proofs.Listed.{get-replayed_hits}
use Rattle.ft_replay.proofs.Replaying.{admitted-in}
use Rattle.ft_base.specs.Base.{Base, Triggers}
use Rattle.ft_base.specs.Reachable.{HasSavers}
use Rattle.ft_base.specs.Roles.{role_at}
use Rattle.ft_fields.specs.Places.{pos_cmp, pos_cmp_total, pos_same}
use Rattle.ft_fields.specs.Traced.{Traced}
use Rattle.ft_fields.specs.declared.key.Part.{Part}
use Rattle.ft_fields.specs.declared.pos.Pos.{Pos}
use Rattle.ft_hist.specs.Hist.{Hist}
use Rattle.ft_hist.specs.Hit.{hit, IsNoHit}
use Rattle.ft_kept.specs.Acts.{acts_of}
use Rattle.ft_kept.specs.Entries.{IsEntry, one_hit}
use Rattle.ft_kept.specs.Input.{input_of}
use Rattle.ft_kept.specs.Repairs.{IsHeldAt}
use Rattle.ft_kept.specs.Shelves.{FormsStay, Shelved, Shelves}
use Rattle.ft_lanes.specs.Held.{Lanes}
use Rattle.ft_maps.specs.Entries.{get-remove_same, same_from_tie}
use Rattle.ft_pairs.specs.declared.at.At.{At}
use Rattle.ft_pairs.specs.declared.role.Role.{Role}
use Rattle.ft_pairs.specs.declared.role.Role.TheVariants.{Saves}
use Rattle.ft_repair.specs.KeptShelves.{AreKept}
use Rattle.ft_replay.specs.Merged.{Events, merged}
use Rattle.ft_shelves.proofs.Decided.{untied}
use Rattle.ft_shelves.specs.declared.sign.Sign.{Sign}
use Rattle.ft_shelves.specs.declared.sign.Sign.TheVariants.{Insert, Retract}
use Rattle.ft_table.specs.Tabled.{is_in, Tabled}
use Rattle.ft_table.specs.Values.{values_at, values_by}
use Rattle.std.proofs.lemmas.Option.{same_Some}
use Rattle.std.specs.Cmp.{tied_then}
use Rattle.std.specs.FinMap.{get-insert, get-remove}
use Rattle.std.specs.Option.{IfSome, option_map_or}
use Rattle.std.specs.Ordering.{eq_by_cmp, is_eq, ordering_then}
use Rattle.ft_replay.proofs.Spots.{traced-cmp}

-- a base with triggers and lanes that are its own
abbrev told : Base → Triggers → Lanes → Base
told base triggers lanes = record base { triggers = triggers; lanes = lanes }

-- an event that is held has still to come to shelves, or to go from them
pub record MayChange (base : Base) (triggers : Triggers) (lanes : Lanes) (sign : Sign) (pos : Pos) (event : Traced) (shelves : Shelves) : Type 0 where
  pub same : told base triggers lanes ≡ base
  pub savers : HasSavers triggers
  pub held : IsHeldAt lanes pos event
  pub kept : AreKept triggers (events_before sign (merged lanes) pos) shelves

pub may_change : (base : Base) {triggers : Triggers} {lanes : Lanes} → triggers ≡ base.triggers → lanes ≡ base.lanes → HasSavers base.triggers
    → (sign : Sign) (pos : Pos) (event : Traced) → IsHeldAt base.lanes pos event
    → {shelves : Shelves} {kept : Option Shelves} → Some shelves ≡ kept → IfSome kept (AreKeptBefore sign base pos)
    → MayChange base triggers lanes sign pos event shelves
may_change base {triggers} {lanes} own all savers sign pos event held {shelves} {kept} some before =
    let same : told base triggers lanes ≡ base = λ i. record base { triggers = own i; lanes = all i } in
    let awaits : AreKeptBefore sign base pos shelves = subst (λ (o : Option Shelves). IfSome o (AreKeptBefore sign base pos)) (sym some) before in
    record {
      same = same;
      savers = subst HasSavers (sym own) savers;
      held = subst (λ (l : Lanes). IsHeldAt l pos event) (sym all) held;
      kept = subst (λ (b : Base). AreKeptBefore sign b pos shelves) (sym same) awaits;
    }

-- what is the same does not differ
never_differ : (b : Bool) → differ b b ≡ true → ⊥
never_differ true moved = let both : ◌≡◌ {A = Bool} false true = moved in absurd cc
never_differ false moved = let both : ◌≡◌ {A = Bool} false true = moved in absurd cc

module _ {base : Base} {triggers : Triggers} {lanes : Lanes} {sign : Sign} {pos : Pos} {event : Traced} {shelves : Shelves} (may : MayChange base triggers lanes sign pos event shelves) where
  abbrev all : Events
  all = merged lanes

  abbrev before : Events
  before = events_before sign all pos

  abbrev after : Events
  after = events_after sign all pos

  placed : map.get all pos ≡ Some event
  placed = ap (λ (stamp : ℕ). map.get all (record { stamp = stamp; cpu = pos.cpu; line = pos.line })) (sym may.held.1) ∙ placed_there lanes pos.cpu pos.line event may.held.0

  less : (q : Pos) → eq_by_cmp pos_cmp q pos ≡ false → map.get (map.remove all pos) q ≡ map.get all q
  less q other = get-remove pos_cmp_total all pos q ∙ ap (λ (b : Bool). cond b None (map.get all q)) other

  at_first : (w : Sign) → map.get (events_before w all pos) pos ≡ event_before w event
  at_first Insert = get-remove_same pos_cmp_total all pos
  at_first Retract = placed

  at_last : (w : Sign) → map.get (events_after w all pos) pos ≡ event_after w event
  at_last Insert = placed
  at_last Retract = get-remove_same pos_cmp_total all pos

  same_apart : (w : Sign) (q : Pos) → eq_by_cmp pos_cmp q pos ≡ false → map.get (events_after w all pos) q ≡ map.get (events_before w all pos) q
  same_apart Insert q other = sym (less q other)
  same_apart Retract q other = less q other

  -- it is the one event that is left to come or to go
  pub moving : AreMoving triggers lanes sign before after ((pos, event) ∷ []) shelves
  unfolding IsDistinct
  moving = events_all triggers lanes sign before after may.savers (held_before sign) ((pos, event) ∷ [])
      (record { held = may.held; before = λ id _. has_at triggers before pos (event_before sign event) (at_first sign) id; after = λ id _. has_at triggers after pos (event_after sign event) (at_last sign) id }, tt)
      (tt, tt)
      (λ at none. acts_alike triggers before after at (sym (same_apart sign at.pos (elsewhere (eq_by_cmp pos_cmp at.pos pos) none))))
      shelves may.kept
    where
      held_before : (w : Sign) → AllHeld lanes (events_before w all pos)
      held_before Insert = less_held lanes all pos (merged_held lanes)
      held_before Retract = merged_held lanes

      elsewhere : (tie : Bool) → cond tie (Some event) None ≡ None → tie ≡ false
      elsewhere true some = let both : ◌≡◌ {A = Option Traced} (Some event) None = some in absurd cc
      elsewhere false none = refl

  pub kept_after : (new : Shelves) → FormsStay shelves new → AreViewsOf triggers lanes (with_event triggers (input_of triggers lanes shelves) pos (event_after sign event)) new → AreKeptAfter sign base pos new
  kept_after new forms views = subst (λ (b : Base). AreKeptAfter sign b pos new) may.same
      (events_none triggers lanes sign before after refl (changing_fewer moving new forms views))

  -- if its hits are plain, its acts are
  pub plain_acts : IsPlainHit base.triggers event → memory.AllActPlainly triggers shelves event
  plain_acts plain id hist attached key found = plain_shelf triggers shelves may.kept.each id hist attached (subst (λ (b : Base). IsPlainHit b.triggers event) (sym may.same) plain id hist attached key found)

  none_by : (w : Sign) → EventNeedsNoMemory w base.triggers event → NeedsNoMemory w triggers shelves event
  none_by Insert missed = subst (λ (b : Base). IsNoHit b.triggers event) (sym may.same) missed
  none_by Retract plain = plain_acts plain

  pub needs_none : EventNeedsNoMemory sign base.triggers event → NeedsNoMemory sign triggers shelves event
  needs_none = none_by sign

  -- ---- a saver's hits, by the events

  module _ (id : ℕ) (hist : Hist) (attached : map.get triggers id ≡ Some hist) (saves : role_at triggers id ≡ Saves) where
    -- what a saver's hit adds at a place, by the act there
    abbrev added_by : Pos → List Part → Option (List Part × Traced) → Option (List ℤ)
    added_by pos key = option_and_then (λ (act : List Part × Traced). one_hit act.0 (Some (values_at hist pos act.1 None)) key)

    abbrev added : Pos → List Part → Option Traced → Option (List ℤ)
    added pos key event = added_by pos key (option_and_then (act_under hist) event)

    adds : (events : Events) (pos : Pos) (key : List Part) → values_found triggers events id (mark_at pos key) ≡ added pos key (map.get events pos)
    unfolding acts_of
    adds events pos key =
        by (option_and_then (act_under hist) (map.get events pos)) (subst (λ (x : Role × Option (List Part × Traced)). IsSaid x.0 x.1) (λ i. (saves i, attached_act triggers id hist attached (map.get events pos) i)) (replayed_right triggers events at))
      where
        at : At
        at = record { pos = pos; trigger = id }

        IsSaid : Role → Option (List Part × Traced) → Type 0
        IsSaid role act = IsEntry (values_by triggers) (ops_on triggers events) at role act (λ k. values_found triggers events id (mark_at pos k)) (saving_found triggers events id pos)

        by : (act : Option (List Part × Traced)) → IsSaid Saves act → values_found triggers events id (mark_at pos key) ≡ added_by pos key act
        by None said = said.1 key
        by (Some act) said = said.1 key ∙ ap (λ (v : List ℤ). one_hit act.0 (Some v) key) (values_there triggers id hist pos act.1 None attached)

    -- what a change puts under the mark of its hit
    abbrev value : Sign → Option (List ℤ)
    value Insert = Some (values_at hist pos event None)
    value Retract = None

    -- what stands under a mark afterwards: what is put if there is a hit and the mark of its key ties, else what stood there
    abbrev put_at : Option (List ℤ) → (List Part → Bool) → Option (List Part) → Option (List ℤ) → Option (List ℤ)
    put_at new ties own was = option_map_or (λ key. cond (ties key) new was) own was

    untouched : (new : Option (List ℤ)) (ties : List Part → Bool) → ((key : List Part) → ties key ≡ false) → (own : Option (List Part)) (was : Option (List ℤ)) → put_at new ties own was ≡ was
    untouched new ties apart None was = refl
    untouched new ties apart (Some key) was = ap (λ b. cond b new was) (apart key)

    abbrev ties_with : Mark → List Part → Bool
    ties_with m key = eq_by_cmp mark_cmp m (mark_at pos key)

    edited : (w : Sign) (table : Tabled) → ((table_edit w pos event hist table).size ≡ table.size)
        × ((m : Mark) → map.get (table_edit w pos event hist table).hits m ≡ put_at (value w) (ties_with m) (hit hist event) (map.get table.hits m))
    edited Insert table = elim (hit hist event) as (λ o. let new : Tabled = option_map_or (λ key. with_hit table (mark_at pos key) (values_at hist pos event None)) o table in
        (new.size ≡ table.size) × ((m : Mark) → map.get new.hits m ≡ put_at (value Insert) (ties_with m) o (map.get table.hits m))) [
          | None ↦ (refl, λ _. refl)
          | Some key ↦ (refl, get-insert mark_cmp_total table.hits (mark_at pos key) (values_at hist pos event None))
        ]
    edited Retract table = elim (hit hist event) as (λ o. let new : Tabled = option_map_or (λ key. without_hit table (mark_at pos key)) o table in
        (new.size ≡ table.size) × ((m : Mark) → map.get new.hits m ≡ put_at (value Retract) (ties_with m) o (map.get table.hits m))) [
          | None ↦ (refl, λ _. refl)
          | Some key ↦ (refl, get-remove mark_cmp_total table.hits (mark_at pos key))
        ]

    -- the marks of places tie exactly if both the places and the keys do
    ties_at : (q : Pos) (key : List Part) (b : Bool) → eq_by_cmp pos_cmp q pos ≡ b → (own : List Part) → ties_with (mark_at q key) own ≡ (b && same_key key own)
    ties_at q key b tie own =
        ap (λ o. is_eq (ordering_then o (key_cmp key own))) (traced-cmp q pos) ∙ sym (tied_then (pos_cmp q pos) (key_cmp key own)) ∙ ap (λ c. c && same_key key own) tie

    -- at the event's place a change leaves what a saver's hit adds there
    added_here : (w : Sign) (key : List Part) → added pos key (event_after w event) ≡ put_at (value w) (same_key key) (hit hist event) (added pos key (event_before w event))
    added_here Insert key = elim (hit hist event) as (λ o. added_by pos key (option_map (λ k. (k, event)) o) ≡ put_at (value Insert) (same_key key) o None) [
      | None ↦ refl
      | Some own ↦ refl
    ]
    added_here Retract key = elim (hit hist event) as (λ o. None ≡ put_at (value Retract) (same_key key) o (added_by pos key (option_map (λ k. (k, event)) o))) [
      | None ↦ refl
      | Some own ↦ elim (same_key key own) as (λ b. None ≡ cond b None (cond b (value Insert) None)) [ true ↦ refl | false ↦ refl ]
    ]

    abbrev old : Tabled
    old = table_for hist (replayed_hits triggers before id)

    abbrev new : Tabled
    new = table_edit sign pos event hist old

    new_traced : AreTraced new.hits
    new_traced m made =
        (edited sign old).1 m
        ∙ untouched (value sign) (ties_with m) (λ key. untied mark_cmp_total mark_same m (mark_at pos key) (λ same. made (ap (λ (x : Mark). x.spot.maker) same))) (hit hist event) (map.get old.hits m)
        ∙ hits_traced triggers before id m made

    new_at : (q : Pos) (key : List Part) → map.get new.hits (mark_at q key) ≡ values_found triggers after id (mark_at q key)
    new_at q key =
        (edited sign old).1 (mark_at q key)
        ∙ ap (put_at (value sign) (ties_with (mark_at q key)) (hit hist event)) (get-replayed_hits triggers before id (mark_at q key) ∙ adds before q key)
        ∙ sym (adds after q key ∙ by (eq_by_cmp pos_cmp q pos) refl)
      where
        by : (b : Bool) → eq_by_cmp pos_cmp q pos ≡ b → added q key (map.get after q) ≡ put_at (value sign) (ties_with (mark_at q key)) (hit hist event) (added q key (map.get before q))
        by true tie =
            subst (λ (p : Pos). added p key (map.get after p) ≡ put_at (value sign) (same_key key) (hit hist event) (added p key (map.get before p))) (sym (same_from_tie pos_same q pos tie))
            (ap (added pos key) (at_last sign) ∙ added_here sign key ∙ sym (ap (λ o. put_at (value sign) (same_key key) (hit hist event) (added pos key o)) (at_first sign)))
            ∙ sym (ap (λ (ties : List Part → Bool). put_at (value sign) ties (hit hist event) (added q key (map.get before q))) (λ i own. ties_at q key true tie own i))
        by false other =
            ap (added q key) (same_apart sign q other) ∙ sym (untouched (value sign) (ties_with (mark_at q key)) (ties_at q key false other) (hit hist event) (added q key (map.get before q)))

    -- so a saver's table has its hit as an event comes, if it is one, and as it goes, it hasn't
    table_edited : table_for hist (replayed_hits triggers after id) ≡ new
    table_edited = let hits = hits_are triggers after id new.hits new_traced new_at in λ i. record { hits = sym hits i; size = sym (edited sign old).0 i }

  -- ---- what it costs

  -- if savers keep their keys, none moves
  none_moves : Grounds → SaversStay triggers before after → SomeSaverMoves (table_edit sign pos event) triggers shelves → ⊥
  none_moves grounds stay some =
      let id = some.id in
      let hist = some.hist in
      let key = some.moves.1.1.1.0 in
      let edit : Tabled → Tabled = table_edit sign pos event hist in
      let saves : role_at triggers id ≡ Saves = sym (shelves_role triggers shelves may.kept.each id) ∙ some.moves.0 in
      let has = its_shelf triggers shelves may.kept.each id hist some.attached in
      let table : some.moves.1.0 ≡ table_for hist (replayed_hits triggers before id) =
      same_Some some.moves.1.0 has.0.table (sym some.moves.1.1.0 ∙ ap (option_map (λ (shelf : Shelved). shelf.table)) has.1.0)
      ∙ table-of grounds triggers before shelves may.kept id hist has.0 some.attached has.1.0 in
      let same : is_in (edit some.moves.1.0) key ≡ is_in some.moves.1.0 key =
      ap (λ t. is_in (edit t) key) table
      ∙ sym (ap (λ t. is_in t key) (table_edited id hist some.attached saves))
      ∙ sym (admitted-in grounds.rows grounds.totals grounds.members triggers after id hist some.attached key)
      ∙ stay id saves key
      ∙ admitted-in grounds.rows grounds.totals grounds.members triggers before id hist some.attached key
      ∙ sym (ap (λ t. is_in t key) table) in
      never_differ (is_in some.moves.1.0 key) (ap (differ (is_in some.moves.1.0 key)) (sym same) ∙ some.moves.1.1.1.1)

  -- so there are few steps
  few : Grounds → (puts limit : ℕ) → (puts ≤ limit) ⊎ SomeSaverMoves (table_edit sign pos event) triggers shelves → SaversStay triggers before after → puts ≤ limit
  few grounds puts limit (inl less) stay = less
  few grounds puts limit (inr moved) stay = absurd (none_moves grounds stay moved)

  pub change_costs : Grounds → (old new : Steps) → new.evals ≤ old.evals + count_on triggers event → (new.puts ≤ old.puts + 3 * count_on triggers event) ⊎ SomeSaverMoves (table_edit sign pos event) triggers shelves → ChangeCosts sign base pos event old new
  change_costs grounds old new evals puts = subst (λ (b : Base). ChangeCosts sign b pos event old new) may.same
      (record { evals = evals; puts = few grounds new.puts (old.puts + 3 * count_on triggers event) puts })
