-- Tables of made events: one by one, if no event is made, as events come or go, as they are brought up to date, and that they are those of what the shelves keep of readings.
use Rattle.std.proofs.Common.{◌≡◌, ℕ, Bool, true, false, cond, List, [], ◌∷◌, refl, sym, ap, subst, ◌∙◌, Option, Some, None, ◌⊎◌, inl, inr}
use Rattle.std.specs.Prelude.{unwrap_or, option_map, option_and_then, ◌++◌}
use Rattle.std.specs.List.{AllByRecursion}
use Rattle.std.specs.Option.{option_map_or, IfSome, is_none}
use Rattle.std.specs.Ordering.{nat_cmp, eq_by_cmp}
use Rattle.std.specs.Cmp.{nat_cmp_total}
use Rattle.std.specs.FinMap as map
use Rattle.std.specs.FinMap.{find, get-empty, get-entries, get-insert, nat_cmp-IsAntisymmetric}
use Rattle.std.proofs.lemmas.Option.{same_Some, IfSome_then, none-some}
use Rattle.ft_hist.specs.Made.{made_of, counts_made}
use Rattle.ft_kept.specs.Shelves.{kept_on, Shelved, Shelves}
use Rattle.ft_maps.specs.Entries.{get-insert_same, same_from_tie}
use Rattle.ft_hits.specs.declared.spot.Spot.{Spot}
use Rattle.ft_base.specs.Base.{empty_base, Base, Triggers}
use Rattle.ft_base.proofs.Apart.{entries_found, AreApart, above-is, all_both, all_of, entries_apart}
use Rattle.ft_made.proofs.Same.{makes, makes_none, makes_same, none_makes}
use Rattle.ft_made.specs.Laws.{AreFound}
use Rattle.ft_made.specs.MadeEvents.{made_by}
use Rattle.ft_made.specs.MadeHits.{values_of_made}
use Rattle.ft_changes.specs.Findings.{Findings, Lead}
use Rattle.ft_repair.proofs.KeptFor.{its_shelf}
use Rattle.ft_board.specs.MadeShelves.{OfEachCounted, AreMade, AreMadeBy, made_on, MadeTables}
use Rattle.ft_board.specs.inner.Mending.{OtherTablesStay, CanMendTo}
use Rattle.ft_kept.specs.Changes.{ReadingsTold, Tells}
use Rattle.ft_replay.specs.Hits.{TriggerHit, hit_at}
use Rattle.ft_made.specs.Updating.{CanUpdate}
use Rattle.ft_repair.specs.Repaired.{IfBoth}
use Rattle.ft_repair.proofs.Repaired.{if_there, there_if}
use Rattle.ft_board.specs.inner.Readings.{readings_on}
use Rattle.ft_changes.specs.declared.changed.ReadingChange.{ReadingChange}
use Rattle.ft_fields.specs.Places.{pos_cmp}
use Rattle.ft_fields.specs.Traced.{Traced}
use Rattle.ft_fields.specs.declared.pos.Pos.{Pos}
use Rattle.ft_hist.specs.Hist.{Hist}
use Rattle.ft_made.specs.MadeTables.{found_in, IsMadeTable}
use Rattle.ft_made.specs.Making.{MakeNone}
use Rattle.ft_repair.specs.KeptShelves.{AreKept, AreKeptOf}
use Rattle.ft_replay.specs.Found.{saving_found}
use Rattle.ft_replay.specs.Merged.{Events, merged}
use Rattle.ft_table.specs.Tabled.{Tabled}
use Rattle.std.specs.declared.cmp.Ordering.TheVariants.{Less}

-- ---- tables one by one

-- the table of a trigger, by what its id has
abbrev pub table_by : Hist → Option Tabled → Tabled
table_by hist kept = unwrap_or kept (record { hits = map.empty; size = hist.size })

module _ (old new : MadeTables) (id : ℕ) (table : Tabled) (put : new ≡ map.insert old id table) where
  -- a table that is put is the trigger's
  pub table_put : (hist : Hist) → made_on new id hist ≡ table
  table_put hist = ap (λ (made : MadeTables). made_on made id hist) put ∙ ap (table_by hist) (get-insert_same nat_cmp_total old id table)

  -- and the others stay
  pub others_put : OtherTablesStay id old new
  others_put other apart = ap (λ (made : MadeTables). map.get made other) put ∙ get-insert nat_cmp_total old id table other ∙ ap (λ (b : Bool). cond b (Some table) (map.get old other)) apart

-- ---- if no event is made

module _ (triggers : Triggers) (events : Events) (found : Findings) (none : MakeNone triggers) where
  pub nothing_made : AreMadeBy triggers events found map.empty
  nothing_made id hist there counts =
      subst (IsMadeTable triggers events found hist)
      (sym (ap (λ (o : Option Tabled). unwrap_or o (record { hits = map.empty; size = hist.size })) (get-empty {X = Tabled} nat_cmp id))) (record {
        size = refl;
        hits = λ mark. get-empty _ mark ∙ sym (ap (values_of_made hist mark) (none_makes triggers events mark.spot none (found mark.spot.maker mark.spot.pos)));
      })

-- if no trigger is attached, none counts any
pub none_counts : (made : MadeTables) → AreMade empty_base made
none_counts made id hist there counts = let both : ◌≡◌ {A = Option Hist} None (Some hist) = sym (get-empty {X = Hist} nat_cmp id) ∙ there in absurd cc

-- ---- readings and events

-- what shelves keep of readings is what these find
abbrev pub ReadingsAre : Type 0
ReadingsAre = (triggers : Triggers) (events : Events) (shelves : Shelves) → AreKept triggers events shelves
    → (id : ℕ) (hist : Hist) (shelf : Shelved) → map.get triggers id ≡ Some hist → map.get shelves id ≡ Some shelf → (at : Pos) → map.get shelf.readings at ≡ saving_found triggers events id at

-- all of some events are among more
abbrev pub AreAmong : Events → Events → Type 0
AreAmong events more = (at : Pos) (event : Traced) → map.get events at ≡ Some event → map.get more at ≡ Some event

pub among_same : (events : Events) → AreAmong events events
among_same events at event there = there

-- ---- what is made

pub nothing_at : {X Y : Type 0} (f : X → Option Y) (o : Option X) → o ≡ None → option_and_then f o ≡ None
nothing_at f o none = ap (option_and_then f) none

-- where no event is, readings find nothing
no_saving : (triggers : Triggers) (events : Events) (id : ℕ) (at : Pos) → map.get events at ≡ None → saving_found triggers events id at ≡ None
unfolding saving_found hit_at
no_saving triggers events id at none = nothing_at (λ (found : TriggerHit). found.saved) (hit_at triggers events id at) (nothing_at _ (map.get events at) none)

-- what a trigger makes of an event, by what its reading found
abbrev pub made_here : Findings → Spot → Traced → Option Hist → Option Traced
made_here found spot event hist = option_and_then (λ (h : Hist). option_and_then (made_of h spot.pos event) (found spot.maker spot.pos)) hist

-- a table is a matter of what is made at each spot
pub table_stays : (triggers others : Triggers) (events more : Events) (found later : Findings) → ((spot : Spot) → made_by others more later spot ≡ made_by triggers events found spot)
    → (hist : Hist) (table : Tabled) → IsMadeTable triggers events found hist table → IsMadeTable others more later hist table
table_stays triggers others events more found later same hist table is = record { size = is.size; hits = λ mark. is.hits mark ∙ sym (ap (values_of_made hist mark) (same mark.spot)) }

-- what attached triggers' readings find among some events makes the same among more
module _ (triggers : Triggers) (events more : Events) (among : AreAmong events more) (found : Findings) (are : AreFound triggers events found) where
  abbrev finds : Findings
  finds = saving_found triggers events

  pub same_made : (spot : Spot) → made_by triggers more found spot ≡ made_by triggers events finds spot
  same_made spot =
      makes_same triggers more spot (found spot.maker spot.pos) (finds spot.maker spot.pos) (λ event hist there. ap (option_and_then (made_of hist spot.pos event)) (are spot.maker hist there spot.pos))
      ∙ by (map.get events spot.pos) refl
    where
      by : (o : Option Traced) → map.get events spot.pos ≡ o → made_by triggers more finds spot ≡ option_and_then (λ (event : Traced). made_here finds spot event (map.get triggers spot.maker)) o
      by None gone = ap (makes triggers more spot) (no_saving triggers events spot.maker spot.pos gone) ∙ makes_none triggers more spot
      by (Some event) there = ap (option_and_then (λ (e : Traced). made_here finds spot e (map.get triggers spot.maker))) (among spot.pos event there)

  pub made_more : (made : MadeTables) → AreMadeBy triggers events finds made → AreMadeBy triggers more found made
  made_more made its id hist there counts = table_stays triggers triggers events more finds found same_made hist (made_on made id hist) (its id hist there counts)

  pub made_less : (made : MadeTables) → AreMadeBy triggers more found made → AreMadeBy triggers events finds made
  made_less made its id hist there counts = table_stays triggers triggers more events found finds (λ spot. sym (same_made spot)) hist (made_on made id hist) (its id hist there counts)

-- ---- what is told

-- what was told since nothing was is all that is told
pub all_told : {T X : Type 0} (more : List T) (old new : Option (List T)) → (old ≡ Some []) ⊎ ((old ≡ None) × X) → Tells more old new → IfSome new (λ told. told ≡ more)
all_told more old new asked (inl none) = subst (λ o. IfSome o (λ told. told ≡ more)) (sym none) tt
all_told more old new (inl nothing) (inr tells) = subst (λ o. IfSome o (λ told. told ≡ more)) (sym (tells ∙ ap (option_map (λ told. told ++ more)) nothing)) refl
all_told more old new (inr unasked) (inr tells) = subst (λ o. IfSome o (λ told. told ≡ more)) (sym (tells ∙ ap (option_map (λ told. told ++ more)) unasked.0)) tt

kept_found : (shelves : Shelves) → (kept_on shelves).read ≡ found_in (readings_on shelves)
unfolding kept_on
kept_found shelves = λ i id at. by at (map.get shelves id) i where
  by : (at : Pos) (shelf : Option Shelved) → option_and_then (λ (s : Shelved). map.get s.readings at) shelf ≡ map.get (option_map_or (λ (s : Shelved). s.readings) shelf map.empty) at
  by at None = sym (get-empty {X = Pos} pos_cmp at)
  by at (Some shelf) = refl

-- ---- an edit

-- if there are shelves, they and the tables of made events are those of some events
abbrev pub AreRightIf : Triggers → Events → Option Shelves → MadeTables → Type 0
AreRightIf triggers events kept made = IfSome kept (AreKept triggers events) × IfSome kept (λ _. AreMadeBy triggers events (saving_found triggers events) made)

-- what kept shelves have of readings is what the triggers' readings find
pub are_found : ReadingsAre → (triggers : Triggers) (events : Events) (shelves : Shelves) → AreKept triggers events shelves → AreFound triggers events (found_in (readings_on shelves))
are_found readings triggers events shelves kept id hist there pos =
    let has = its_shelf triggers shelves kept.each id hist there in
    ap (λ (o : Option Shelved). map.get (option_map_or (λ (s : Shelved). s.readings) o map.empty) pos) has.1.0 ∙ readings triggers events shelves kept id hist has.0 there has.1.0 pos

module _ (readings : ReadingsAre) (triggers : Triggers) (events more : Events) (among : AreAmong events more) where
  -- after a repair that tells of readings, tables that were right before can be mended
  pub can_mend : {X : Type 0} (asked told : Option (List ReadingChange)) (old later : Option Shelves) (made : MadeTables) → (asked ≡ Some []) ⊎ ((asked ≡ None) × X)
      → AreRightIf triggers events old made → (old ≡ None → later ≡ None) → IfBoth (ReadingsTold asked told) old later → IfSome later (λ shelves. CanMendTo triggers more told (found_in (readings_on shelves)) made)
  can_mend asked told old None made asks right gone reread = tt
  can_mend asked told None (Some later) made asks right gone reread = let both : ◌≡◌ {A = Option Shelves} (Some later) None = gone refl in absurd cc
  can_mend asked told (Some old) (Some later) made asks right gone reread = record {
    found = found_in (readings_on old);
    made = made_more triggers events more among (found_in (readings_on old)) (are_found readings triggers events old right.0) made right.1;
    lead = IfSome_then told (all_told reread.readings asked told asks reread.told) (λ changes all. leads (sym all));
  } where
    leads : {changes : List ReadingChange} → reread.readings ≡ changes → Lead changes (found_in (readings_on old)) (found_in (readings_on later))
    leads all = subst (λ (x : List ReadingChange × (Findings × Findings)). Lead x.0 x.1.0 x.1.1) (λ i. (all i, (kept_found old i, kept_found later i))) reread.lead

  -- tables that are mended are right if the shelves are left
  pub mended_if : (later new : Option Shelves) (made : MadeTables) → (new ≡ later) ⊎ (new ≡ None) → IfSome later (AreKept triggers events)
      → IfSome new (λ shelves. AreMadeBy triggers more (found_in (readings_on shelves)) made) → AreRightIf triggers events new made
  mended_if later None made left kept are = (tt, tt)
  mended_if later (Some new) made (inr none) kept are = let both : ◌≡◌ {A = Option Shelves} (Some new) None = none in absurd cc
  mended_if later (Some new) made (inl same) kept are =
      let still : AreKept triggers events new = subst (λ (o : Option Shelves). IfSome o (AreKept triggers events)) (sym same) kept in
      (still, made_less triggers events more among (found_in (readings_on new)) (are_found readings triggers events new still) made are)

-- ---- tables that are brought up to date

-- the table of each trigger can be, if what was told leads to what shelves keep
pub can_update : (triggers : Triggers) (events : Events) (changes : List ReadingChange) (made : MadeTables) (kept : Option Shelves) (told : Option (List ReadingChange)) → is_none kept ≡ false → told ≡ Some changes
    → IfSome kept (λ shelves. CanMendTo triggers events told (found_in (readings_on shelves)) made) → OfEachCounted triggers (λ id hist. CanUpdate triggers events changes hist (made_on made id hist))
can_update triggers events changes made None told up is can = let both : ◌≡◌ {A = Bool} true false = up in absurd cc
can_update triggers events changes made (Some shelves) told up is can = λ id hist there counts. record {
  found = can.found;
  now = found_in (readings_on shelves);
  lead = subst (λ (o : Option (List ReadingChange)). IfSome o (λ changes. Lead changes can.found (found_in (readings_on shelves)))) is can.lead;
  made = can.made id hist there counts;
}

-- a table that is made of what shelves keep of readings is that of what these find
pub found_table : ReadingsAre → (triggers : Triggers) (events : Events) (shelves : Shelves) → AreKept triggers events shelves
    → (hist : Hist) (table : Tabled) → IsMadeTable triggers events (found_in (readings_on shelves)) hist table → IsMadeTable triggers events (saving_found triggers events) hist table
found_table readings triggers events shelves kept = table_stays triggers triggers events events (found_in (readings_on shelves)) (saving_found triggers events)
    (λ spot. sym (same_made triggers events events (among_same events) (found_in (readings_on shelves)) (are_found readings triggers events shelves kept) spot))

-- so tables that are all made anew are right
pub made_anew : ReadingsAre → (base : Base) (kept : Option Shelves) (shelves : Shelves) (made : MadeTables) → Some shelves ≡ kept → IfSome kept (AreKeptOf base) → AreMadeBy base.triggers (merged base.lanes) (found_in (readings_on shelves)) made
    → AreRightIf base.triggers (merged base.lanes) kept made
made_anew readings base kept shelves made is are anew = (
  are,
  if_there (λ _. AreMade base made) shelves kept is (λ id hist there counts.
      found_table readings base.triggers (merged base.lanes) shelves (there_if (AreKeptOf base) shelves kept is are) hist (made_on made id hist) (anew id hist there counts)),
)

-- what holds of shelves holds of those that are left of them
pub if_left : (P : Shelves → Type 0) (later new : Option Shelves) → (new ≡ later) ⊎ (new ≡ None) → IfSome later P → IfSome new P
if_left P later new (inl same) holds = subst (λ (o : Option Shelves). IfSome o P) (sym same) holds
if_left P later new (inr none) holds = subst (λ (o : Option Shelves). IfSome o P) (sym none) tt

module _ (triggers : Triggers) (Updates : Hist → Tabled → Tabled → Type 0) (old : MadeTables) where
  -- the triggers that are left are attached, and have the tables that they had; of the others, those that count made events have theirs up to date
  pub record AreUpdating (left : List (ℕ × Hist)) (new : MadeTables) : Type 0 where
    pub done : (id : ℕ) (hist : Hist) → map.get triggers id ≡ Some hist → find nat_cmp id left ≡ None → counts_made hist ≡ true → Updates hist (made_on old id hist) (made_on new id hist)
    pub attached : AllByRecursion (λ e. map.get triggers e.0 ≡ Some e.1) left
    pub same : AllByRecursion (λ e. map.get new e.0 ≡ map.get old e.0) left
    pub apart : AreApart nat_cmp left

  -- first all are left
  pub updating_all : (left : List (ℕ × Hist)) → left ≡ map.entries triggers → AreUpdating left old
  updating_all left all = subst (λ (es : List (ℕ × Hist)). AreUpdating es old) (sym all) (record {
    done = λ id hist there none. absurd (none-some hist (sym (get-entries triggers id ∙ none) ∙ there));
    attached = entries_found nat_cmp nat_cmp_total triggers;
    same = all_of (λ e. map.get old e.0 ≡ map.get old e.0) (λ e. refl) (map.entries triggers);
    apart = entries_apart nat_cmp triggers;
  })

  module _ (left : List (ℕ × Hist)) (mid : MadeTables) (are : AreUpdating left mid) where
    -- at last none is
    pub updating_none : left ≡ [] → OfEachCounted triggers (λ id hist. Updates hist (made_on old id hist) (made_on mid id hist))
    updating_none none id hist there = are.done id hist there (ap (find nat_cmp id) none)

    module _ (e : ℕ × Hist) (rest : List (ℕ × Hist)) (more : left ≡ e ∷ rest) where
      first : AreUpdating (e ∷ rest) mid
      first = subst (λ (es : List (ℕ × Hist)). AreUpdating es mid) more are

      -- the first of them is attached, and has the table that it had
      pub first_attached : map.get triggers e.0 ≡ Some e.1
      first_attached = first.attached.0

      pub first_same : made_on mid e.0 e.1 ≡ made_on old e.0 e.1
      first_same = ap (table_by e.1) first.same.0

      -- as its table is brought up to date, the rest are left
      pub updating_more : (new : MadeTables) → OtherTablesStay e.0 mid new → (counts_made e.1 ≡ true → Updates e.1 (made_on mid e.0 e.1) (made_on new e.0 e.1)) → AreUpdating rest new
      updating_more new stay here = record {
        done = λ id hist there none counts. elim (eq_by_cmp nat_cmp id e.0) as (λ (b : Bool). eq_by_cmp nat_cmp id e.0 ≡ b → Updates hist (made_on old id hist) (made_on new id hist)) [
          | true ↦ λ tie.
              let same : id ≡ e.0 = same_from_tie nat_cmp-IsAntisymmetric id e.0 tie in
              let its : e.1 ≡ hist = same_Some _ _ (sym first_attached ∙ sym (ap (map.get triggers) same) ∙ there) in
              subst (λ (x : ℕ × Hist). Updates x.1 (made_on old x.0 x.1) (made_on new x.0 x.1)) (λ i. (sym same i, its i))
              (subst (λ (t : Tabled). Updates e.1 t (made_on new e.0 e.1)) first_same (here (ap counts_made its ∙ counts)))
          | false ↦ λ apart. subst (Updates hist (made_on old id hist)) (sym (ap (table_by hist) (stay id apart)))
              (first.done id hist there (ap (λ (b : Bool). cond b (Some e.1) (find nat_cmp id rest)) apart ∙ none) counts)
        ] refl;
        attached = first.attached.1;
        same = all_both (λ q. nat_cmp e.0 q.0 ≡ Less) (λ q. map.get mid q.0 ≡ map.get old q.0) (λ q. map.get new q.0 ≡ map.get old q.0)
            (λ q above was. stay q.0 (above-is nat_cmp nat_cmp_total e.0 q.0 above) ∙ was) rest first.apart.0 first.same.1;
        apart = first.apart.1;
      }
