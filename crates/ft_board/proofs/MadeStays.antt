-- Events that triggers make stay as others come, go or get another filter, if those that make them stay with all who save or read what they read.
use Rattle.std.proofs.Common.{◌≡◌, ◌⊎◌, inl, inr, ⊎_elim, ℕ, Bool, true, false, List, refl, sym, ap, subst, ◌∙◌, Option, Some, None, is_some, unwrap_or, eq-eqb}
use Rattle.std.specs.Prelude.{◌==◌, ◌&&◌, option_and_then, option_map}
use Rattle.std.specs.Option.{IfSome, option_map_or}
use Rattle.std.specs.Ordering.{eq_by_cmp, nat_cmp}
use Rattle.std.specs.Cmp.{nat_cmp_total}
use Rattle.std.specs.FinMap as map
use Rattle.std.specs.FinMap.{nat_cmp-IsAntisymmetric}
use Rattle.std.proofs.lemmas.Bool.{and_parts, cases_Bool, cases_eq, false_from_ne_true, ne_eqb, or_from, or_parts, true≢false}
use Rattle.std.proofs.Math.Bool.{and-false}
use Rattle.std.proofs.lemmas.Option.{none-some, same_Some}
use Rattle.ft_hist.specs.Made.{made_event, made_of, counts_made}
use Rattle.ft_hist.specs.declared.label.Var.{Var}
use Rattle.ft_hist.specs.declared.label.Var.TheVariants as vars
use Rattle.ft_kept.specs.Entries.{IsReading}
use Rattle.ft_pairs.specs.Source.{Ops}
use Rattle.ft_pairs.specs.declared.at.At.{At}
use Rattle.ft_maps.specs.Entries.{get-remove_other, same_from_tie}
use Rattle.ft_pairs.specs.declared.role.Role.{Role}
use Rattle.ft_pairs.specs.declared.role.Role.TheVariants.{Plain, Saves, Reads}
use Rattle.ft_pairs.specs.declared.role.Variable.{Variable}
use Rattle.ft_hits.specs.declared.spot.Spot.{Spot}
use Rattle.ft_base.specs.OneTrigger.{GetsFilter, IsUnread, JoinsAs, base_without, is_in_family, reads_from}
use Rattle.ft_base.specs.Roles.{is_reader, role_at, role_of, saver_of}
use Rattle.ft_made.proofs.Views.{nothing}
use Rattle.ft_made.specs.MadeEvents.{made_at}
use Rattle.ft_repair.specs.ButOneTrigger.{AreKeptBut}
use Rattle.ft_repair.proofs.KeptFor.{its_shelf}
use Rattle.ft_repair.proofs.Repaired.{if_there, there_if}
use Rattle.ft_repair.proofs.Alike.{rest_none, rest_same}
use Rattle.ft_repair.proofs.Families.{nothing_read, outside_apart, outside_reads, reads_from_is, role_there}
use Rattle.ft_repair.proofs.KeptShelves.{filter_alike, replayed, replayed_right}
use Rattle.ft_repair.specs.Staying.{IsReadAlike, ReadsAsBefore}
use Rattle.ft_board.specs.Makers.{MadeStay, MakersStay, makes, shares_read, LeavesMakers}
use Rattle.ft_board.specs.inner.Views.{AreMadeBut}
use Rattle.ft_board.specs.inner.Mending.{OtherTablesStay}
use Rattle.ft_board.proofs.MadeShelves.{AreRightIf, ReadingsAre, made_here, nothing_at, table_by, table_stays}
use Rattle.ft_answers.specs.Deferral.{ReadsNothing}
use Rattle.ft_base.specs.Base.{Base, Triggers}
use Rattle.ft_board.specs.MadeShelves.{AreMade, AreMadeBy, made_on, MadeTables}
use Rattle.ft_fields.specs.Traced.{Traced}
use Rattle.ft_fields.specs.declared.key.Part.{Part}
use Rattle.ft_fields.specs.declared.pos.Pos.{Pos}
use Rattle.ft_hist.specs.Hist.{Hist}
use Rattle.ft_kept.specs.Shelves.{Shelves}
use Rattle.ft_lanes.specs.Held.{Lanes}
use Rattle.ft_made.specs.MadeTables.{IsMadeTable}
use Rattle.ft_repair.specs.KeptShelves.{AreKept, AreKeptOf}
use Rattle.ft_replay.specs.Found.{saving_found}
use Rattle.ft_replay.specs.Merged.{Events, merged}
use Rattle.ft_table.specs.Tabled.{Tabled}
use Rattle.ft_board.proofs.Makers.{filter_same, makes_none}

-- a reader keeps its readings if its saver stays and those that read it stay
abbrev pub ReadersStay : Type 0
ReadersStay = (triggers others : Triggers) (events : Events) (old new : Shelves) → AreKept triggers events old → AreKept others events new → (saver : ℕ) → IsReadAlike triggers others saver
    → (id : ℕ) → role_at triggers id ≡ Reads saver → ReadsAsBefore id old new

-- ---- who makes events

-- a trigger that reads has the role of a reader
reads_role : (triggers : Triggers) (variable : Option Var) → is_reader variable ≡ true → (saver : ℕ) × (role_of triggers variable ≡ Reads saver)
reads_role triggers None reads = let both : ◌≡◌ {A = Bool} false true = reads in absurd cc
reads_role triggers (Some (vars.Saves label)) reads = let both : ◌≡◌ {A = Bool} false true = reads in absurd cc
reads_role triggers (Some (vars.Reads own source)) reads = (unwrap_or (saver_of triggers source) 0, refl)

pub role_gone : (triggers : Triggers) (id : ℕ) → map.get triggers id ≡ None → role_at triggers id ≡ Plain
unfolding role_at
role_gone triggers id gone = ap (λ (o : Option Hist). option_map_or (λ (h : Hist). role_of triggers h.variable) o Plain) gone

-- the role of one that makes events
maker_role : (triggers : Triggers) (id : ℕ) (hist : Hist) → map.get triggers id ≡ Some hist → makes hist ≡ true → (saver : ℕ) × (role_at triggers id ≡ Reads saver)
maker_role triggers id hist there makes =
    let reads = reads_role triggers hist.variable (and_parts (is_some hist.onmatch) (is_reader hist.variable) makes).1 in
    (reads.0, role_there triggers id hist there ∙ reads.1)

-- what is read by a trigger of a role
reads_own : (saver : ℕ) (role : Role) → role ≡ Reads saver → reads_from saver role ≡ true
reads_own saver role is = ap (reads_from saver) is ∙ eq-eqb saver saver refl

not_read : (saver : ℕ) (role : Role) → (role ≡ Reads saver → ⊥) → reads_from saver role ≡ false
not_read saver role apart = false_from_ne_true (reads_from saver role) (λ reads. apart (reads_from_is saver role reads))

module _ (triggers : Triggers) (id : ℕ) (leaves : LeavesMakers triggers id) (maker : ℕ) (hist : Hist) (there : map.get triggers maker ≡ Some hist) (making : makes hist ≡ true) where
  module _ (saver : ℕ) (reads : role_at triggers maker ≡ Reads saver) where
    -- a trigger that leaves alone those that make events neither saves nor reads what one of them reads
    outside : is_in_family triggers saver id ≡ false
    outside =
        sym (ap (shares_read triggers id) (sym (role_there triggers maker hist there) ∙ reads))
        ∙ sym (ap (λ (b : Bool). b && shares_read triggers id (role_of triggers hist.variable)) (and_parts (is_some hist.onmatch) (is_reader hist.variable) making).0)
        ∙ leaves maker hist there

    apart_saver : saver ≡ id → ⊥
    apart_saver same = outside_apart triggers saver id outside (sym same)

    reads_other : reads_from saver (role_at triggers id) ≡ false
    reads_other = (or_parts (id == saver) (reads_from saver (role_at triggers id)) outside).1

    -- so it is none of those that read it
    apart_reader : (other : ℕ) → reads_from saver (role_at triggers other) ≡ true → other ≡ id → ⊥
    apart_reader other is same = true≢false (sym is ∙ ap (λ (k : ℕ). reads_from saver (role_at triggers k)) same ∙ reads_other)

  -- and it makes none itself
  apart_maker : maker ≡ id → ⊥
  apart_maker same =
      let role = maker_role triggers maker hist there making in
      apart_reader role.0 role.1 maker (reads_own role.0 (role_at triggers maker) role.1) same

-- ---- one that goes

module _ (triggers : Triggers) (id : ℕ) where
  -- one that reads nothing, and is not read, leaves alone those that make events
  pub unread_leaves : IsUnread triggers id → ((hist : Hist) → map.get triggers id ≡ Some hist → is_reader hist.variable ≡ false) → LeavesMakers triggers id
  unread_leaves unread quiet maker hist there = ap (λ (b : Bool). is_some hist.onmatch && b) (no_kin (role_of triggers hist.variable) (role_there triggers maker hist there)) ∙ and-false (is_some hist.onmatch)
    where
      no_kin : (own : Role) → role_at triggers maker ≡ own → shares_read triggers id own ≡ false
      no_kin Plain is = refl
      no_kin Saves is = refl
      no_kin (Reads saver) is = or_from (id == saver) (reads_from saver (role_at triggers id))
          (ne_eqb id saver (λ same. unread.unread maker (is ∙ ap (λ (k : ℕ). Reads k) (sym same))))
          (not_read saver (role_at triggers id) (nothing_read triggers id quiet saver))

  -- those that make events stay when one that leaves them alone goes
  pub left_stay : IsUnread triggers id → LeavesMakers triggers id → MakersStay triggers (map.remove triggers id)
  left_stay unread leaves = record {
    stay = λ maker hist there making. rest_same triggers id maker (apart_maker triggers id leaves maker hist there making) ∙ there;
    come = λ maker hist still making. sym (rest_same triggers id maker (λ same. none-some hist (sym (rest_none triggers id maker same) ∙ still))) ∙ still;
    alike = λ maker hist there making saver reads. record {
      own = rest_same triggers id saver (apart_saver triggers id leaves maker hist there making saver reads);
      readers = λ other. ⊎_elim
          (λ same. subst (λ (k : ℕ). reads_from saver (role_at (map.remove triggers id) k) ≡ reads_from saver (role_at triggers k)) (sym same)
          (ap (reads_from saver) (role_gone (map.remove triggers id) id (rest_none triggers id id refl)) ∙ sym (reads_other triggers id leaves maker hist there making saver reads)))
          (λ apart. ap (reads_from saver) (unread.others other apart))
          (cases_eq other id);
      stay = λ other is. rest_same triggers id other (apart_reader triggers id leaves maker hist there making saver reads other is);
    };
  }

-- ---- one that gets another filter

-- they stay when one that leaves them alone gets another filter, if that doesn't change whether it makes events
pub filter_stay : (id : ℕ) (old new : Base) (gets : GetsFilter id old new) → makes gets.hist ≡ makes gets.was → LeavesMakers new.triggers id → MakersStay old.triggers new.triggers
filter_stay id old new gets alike leaves = record {
  stay = stay;
  come = λ maker hist there making. sym (filter_same id old new gets maker (apart_maker new.triggers id leaves maker hist there making)) ∙ there;
  alike = λ maker hist there making saver reads.
      let out = outside new.triggers id leaves maker hist (stay maker hist there making) making saver (gets.roles maker ∙ reads) in
      filter_alike id old new gets saver (λ same. outside_apart new.triggers saver id out (sym same)) (λ own. outside_reads new.triggers saver id out (gets.roles id ∙ own));
}
  where
    stay : (maker : ℕ) (hist : Hist) → map.get old.triggers maker ≡ Some hist → makes hist ≡ true → map.get new.triggers maker ≡ Some hist
    stay maker hist there making = filter_same id old new gets maker (λ same.
        let was : gets.was ≡ hist = same_Some _ _ (sym gets.attached_before ∙ ap (map.get old.triggers) (sym same) ∙ there) in
        apart_maker new.triggers id leaves id gets.hist gets.attached (alike ∙ ap makes was ∙ making) refl) ∙ there

-- ---- what a trigger that makes no events finds

no_reading : (ops : Variable → Ops) (at : At) (role : Role) (act : Option (List Part × Traced)) (read : Option Pos) → IsReading ops at role act read → ((saver : ℕ) → role ≡ Reads saver → ⊥) → read ≡ None
no_reading ops at role None read is apart = is
no_reading ops at Plain (Some act) read is apart = is
no_reading ops at Saves (Some act) read is apart = is
no_reading ops at (Reads saver) (Some act) read is apart = absurd (apart saver refl)

module _ (triggers : Triggers) (events : Events) where
  -- one that reads nothing finds nothing
  unread_found : (id : ℕ) → ReadsNothing triggers id → (pos : Pos) → saving_found triggers events id pos ≡ None
  unread_found id nothing pos =
      let at : At = record { pos = pos; trigger = id } in
      no_reading (replayed triggers events).ops at (role_at triggers id) _ _ (replayed_right triggers events at).0 (nothing_read triggers id nothing)

  -- one that makes no events of readings makes none
  makes_nothing : (id : ℕ) (hist : Hist) → map.get triggers id ≡ Some hist → makes hist ≡ false → (at : Pos) (event : Traced) → option_and_then (made_of hist at event) (saving_found triggers events id at) ≡ None
  makes_nothing id hist there none at event = elim (is_some hist.onmatch) as (λ (b : Bool). is_some hist.onmatch ≡ b → option_and_then (made_of hist at event) (saving_found triggers events id at) ≡ None) [
    | false ↦ λ without. nothing _ (saving_found triggers events id at) (λ saved _. ap (option_map (made_event at event saved)) (makes_none hist.onmatch without))
    | true ↦ λ some.
        let quiet : is_reader hist.variable ≡ false = sym (ap (λ (b : Bool). b && is_reader hist.variable) some) ∙ none in
        nothing_at (made_of hist at event) _ (unread_found id (λ own attached. subst (λ (h : Hist). is_reader h.variable ≡ false) (same_Some _ _ (sym there ∙ attached)) quiet) at)
  ] refl

  -- if an event is made, a trigger is attached that makes such
  by_maker : (spot : Spot) (event : Traced) → (made_here (saving_found triggers events) spot event (map.get triggers spot.maker) ≡ None) ⊎ ((hist : Hist) × ((map.get triggers spot.maker ≡ Some hist) × (makes hist ≡ true)))
  by_maker spot event = by (map.get triggers spot.maker) refl
    where
      by : (o : Option Hist) → map.get triggers spot.maker ≡ o → (made_here (saving_found triggers events) spot event o ≡ None) ⊎ ((hist : Hist) × ((map.get triggers spot.maker ≡ Some hist) × (makes hist ≡ true)))
      by None gone = inl refl
      by (Some hist) there = ⊎_elim (λ making. inr (hist, (there, making))) (λ none. inl (makes_nothing spot.maker hist there none spot.pos event)) (cases_Bool (makes hist))

-- ---- what is made

module _ (readings : ReadingsAre) (reread : ReadersStay) (triggers others : Triggers) (events : Events) (old new : Shelves) (kept : AreKept triggers events old) (will : AreKept others events new)
    (same : MakersStay triggers others) where
  -- the readings of those that make events find what they found
  found_still : (id : ℕ) (hist : Hist) → map.get triggers id ≡ Some hist → map.get others id ≡ Some hist → makes hist ≡ true → (at : Pos) → saving_found others events id at ≡ saving_found triggers events id at
  found_still id hist there still making at =
      let role = maker_role triggers id hist there making in
      let had = its_shelf triggers old kept.each id hist there in
      let has = its_shelf others new will.each id hist still in
      let stay = reread triggers others events old new kept will role.0 (same.alike id hist there making role.0 role.1) id role.1 had.0 has.0 had.1.0 has.1.0 in
      sym (readings others events new will id hist has.0 still has.1.0 at) ∙ ap (λ r. map.get r at) stay.1 ∙ readings triggers events old kept id hist had.0 there had.1.0 at

  same_here : (spot : Spot) (event : Traced) (hist : Hist) → map.get triggers spot.maker ≡ Some hist → map.get others spot.maker ≡ Some hist → makes hist ≡ true
      → made_here (saving_found others events) spot event (map.get others spot.maker) ≡ made_here (saving_found triggers events) spot event (map.get triggers spot.maker)
  same_here spot event hist there still making =
      ap (made_here (saving_found others events) spot event) still
      ∙ ap (option_and_then (made_of hist spot.pos event)) (found_still spot.maker hist there still making spot.pos)
      ∙ sym (ap (made_here (saving_found triggers events) spot event) there)

  here_still : (spot : Spot) (event : Traced) → made_here (saving_found others events) spot event (map.get others spot.maker) ≡ made_here (saving_found triggers events) spot event (map.get triggers spot.maker)
  here_still spot event = ⊎_elim
      (λ none. ⊎_elim
      (λ gone. none ∙ sym gone)
      (λ its. same_here spot event its.0 its.1.0 (same.stay spot.maker its.0 its.1.0 its.1.1) its.1.1)
      (by_maker triggers events spot event))
      (λ its. same_here spot event its.0 (same.come spot.maker its.0 its.1.0 its.1.1) its.1.0 its.1.1)
      (by_maker others events spot event)

  -- so the same is made at each spot
  pub made_still : (spot : Spot) → made_at others events spot ≡ made_at triggers events spot
  unfolding made_at
  made_still spot = ap (λ (f : Traced → Option Traced). option_and_then f (map.get events spot.pos)) (λ i event. here_still spot event i)

-- ---- tables that are kept

-- if the same events are made, a trigger has the same table of them
same_table : (triggers others : Triggers) (events : Events) → ((spot : Spot) → made_at others events spot ≡ made_at triggers events spot)
    → (hist : Hist) (table : Tabled) → IsMadeTable triggers events (saving_found triggers events) hist table → IsMadeTable others events (saving_found others events) hist table
unfolding made_at
same_table triggers others events same = table_stays triggers others events events (saving_found triggers events) (saving_found others events) same

module _ (stay : MadeStay) where
  -- as a trigger goes, the others keep theirs
  module _ (triggers : Triggers) (id : ℕ) (events : Events) (unread : IsUnread triggers id) (leaves : LeavesMakers triggers id) (old new : Shelves)
      (kept : AreKept triggers events old) (left : AreKept (map.remove triggers id) events new) where
    left_made : (made : MadeTables) → AreMadeBy triggers events (saving_found triggers events) made → AreMadeBy (map.remove triggers id) events (saving_found (map.remove triggers id) events) (map.remove made id)
    left_made made are other hist still counts =
        let apart : other ≡ id → ⊥ = λ same. none-some hist (sym (rest_none triggers id other same) ∙ still) in
        subst (IsMadeTable (map.remove triggers id) events (saving_found (map.remove triggers id) events) hist) (sym (ap (table_by hist) (get-remove_other nat_cmp_total nat_cmp-IsAntisymmetric made id other apart)))
        (same_table triggers (map.remove triggers id) events (stay triggers (map.remove triggers id) events old new kept left (left_stay triggers id unread leaves)) hist (made_on made other hist)
        (are other hist (sym (rest_same triggers id other apart) ∙ still) counts))

  pub left_if : (base : Base) (id : ℕ) (old new : Option Shelves) (made : MadeTables) → IsUnread base.triggers id → LeavesMakers base.triggers id → AreRightIf base.triggers (merged base.lanes) old made
      → IfSome new (AreKeptBut id base) → (old ≡ None → new ≡ None) → AreRightIf (map.remove base.triggers id) (merged base.lanes) new (map.remove made id)
  left_if base id old None made unread leaves right left gone = (tt, tt)
  left_if base id None (Some new) made unread leaves right left gone = let both : ◌≡◌ {A = Option Shelves} (Some new) None = gone refl in absurd cc
  left_if base id (Some old) (Some new) made unread leaves right left gone = (left, left_made base.triggers id (merged base.lanes) unread leaves old new right.0 left made right.1)

  -- as one is attached, they keep theirs too
  module _ (old new : Base) (id : ℕ) (hist : Hist) (joins : JoinsAs id hist old new) where
    joins_made : (had has : Shelves) (made : MadeTables) → AreKeptOf old had → AreMade old made → LeavesMakers new.triggers id → AreKeptOf new has → AreMadeBut id new made
    joins_made had has made kept are leaves will other its there counts apart =
        let before : AreKept (map.remove new.triggers id) (merged new.lanes) had = subst (λ (b : Base). AreKept b.triggers (merged b.lanes) had) (sym joins.before) kept in
        let were : AreMade (base_without new id) made = subst (λ (b : Base). AreMade b made) (sym joins.before) are in
        same_table (map.remove new.triggers id) new.triggers (merged new.lanes)
        (λ spot. sym (stay new.triggers (map.remove new.triggers id) (merged new.lanes) has had will before (left_stay new.triggers id joins.unread leaves) spot)) its (made_on made other its)
        (were other its (rest_same new.triggers id other apart ∙ there) counts)

    pub joins_await : (kept : Option Shelves) (made : MadeTables) → AreRightIf old.triggers (merged old.lanes) kept made
        → IfSome kept (λ _. LeavesMakers new.triggers id → (has : Shelves) → AreKeptOf new has → AreMadeBut id new made)
    joins_await None made right = tt
    joins_await (Some had) made right = λ leaves has will. joins_made had has made right.0 right.1 leaves will

  -- and as one gets another filter
  module _ (id : ℕ) (old new : Base) (gets : GetsFilter id old new) (alike : makes gets.hist ≡ makes gets.was) where
    filter_made : (had has : Shelves) (made : MadeTables) → AreKeptOf old had → AreMade old made → LeavesMakers new.triggers id → AreKeptOf new has → AreMadeBut id new made
    filter_made had has made kept are leaves will other its there counts apart =
        let then : AreKept new.triggers (merged old.lanes) has = subst (λ (lanes : Lanes). AreKept new.triggers (merged lanes) has) gets.lanes will in
        subst (λ (lanes : Lanes). IsMadeTable new.triggers (merged lanes) (saving_found new.triggers (merged lanes)) its (made_on made other its)) (sym gets.lanes)
        (same_table old.triggers new.triggers (merged old.lanes) (stay old.triggers new.triggers (merged old.lanes) had has kept then (filter_stay id old new gets alike leaves)) its (made_on made other its)
        (are other its (sym (filter_same id old new gets other apart) ∙ there) counts))

    pub filter_await : (kept later : Option Shelves) (made : MadeTables) → (kept ≡ None → later ≡ None) → AreRightIf old.triggers (merged old.lanes) kept made
        → IfSome later (λ _. LeavesMakers new.triggers id → (has : Shelves) → AreKeptOf new has → AreMadeBut id new made)
    filter_await kept None made gone right = tt
    filter_await None (Some later) made gone right = let both : ◌≡◌ {A = Option Shelves} (Some later) None = gone refl in absurd cc
    filter_await (Some had) (Some later) made gone right = λ leaves has will. filter_made had has made right.0 right.1 leaves will

-- all tables are right, if those of other triggers are, and the trigger's own if it counts made events
pub one_right : (base : Base) (id : ℕ) (old new : MadeTables) → OtherTablesStay id old new → AreMadeBut id base old
    → ((hist : Hist) → map.get base.triggers id ≡ Some hist → counts_made hist ≡ true → IsMadeTable base.triggers (merged base.lanes) (saving_found base.triggers (merged base.lanes)) hist (made_on new id hist)) → AreMade base new
one_right base id old new stay but its other hist there counts = ⊎_elim
    (λ same. subst (λ (k : ℕ). IsMadeTable base.triggers (merged base.lanes) (saving_found base.triggers (merged base.lanes)) hist (made_on new k hist)) (sym same) (its hist (ap (map.get base.triggers) (sym same) ∙ there) counts))
    (λ apart. subst (IsMadeTable base.triggers (merged base.lanes) (saving_found base.triggers (merged base.lanes)) hist)
    (sym (ap (table_by hist) (stay other (false_from_ne_true (eq_by_cmp nat_cmp other id) (λ tie. apart (same_from_tie nat_cmp-IsAntisymmetric other id tie))))))
    (but other hist there counts apart))
    (cases_eq other id)

-- so all are right if there are shelves and the trigger leaves alone those that make events
pub refitted : (base : Base) (id : ℕ) (old new : MadeTables) (shelves : Shelves) (kept : Option Shelves) → Some shelves ≡ kept → LeavesMakers base.triggers id → IfSome kept (AreKeptOf base)
    → IfSome kept (λ _. LeavesMakers base.triggers id → (has : Shelves) → AreKeptOf base has → AreMadeBut id base old) → OtherTablesStay id old new
    → ((hist : Hist) → map.get base.triggers id ≡ Some hist → counts_made hist ≡ true → IsMadeTable base.triggers (merged base.lanes) (saving_found base.triggers (merged base.lanes)) hist (made_on new id hist))
    → AreRightIf base.triggers (merged base.lanes) kept new
refitted base id old new shelves kept there leaves are await stay its = (
  are,
  if_there (λ _. AreMade base new) shelves kept there (one_right base id old new stay
      (there_if (λ _. LeavesMakers base.triggers id → (has : Shelves) → AreKeptOf base has → AreMadeBut id base old) shelves kept there await leaves shelves (there_if (AreKeptOf base) shelves kept there are)) its),
)
