-- Strikes one after the other: what they make of a base, and what they report together.
use Rattle.std.proofs.Common.{◌≡◌, ◌<◌, ◌+◌, ℕ, Bool, true, false, List, [], ◌∷◌, Option, Some, None, Result, Ok, Err, refl, sym, ap, subst, ◌∙◌, arith, rules, inl, inr}
use Rattle.std.specs.Prelude.{◌≢◌, ◌⊎◌, ◌||◌, Vec, MatchOption, IfSome, IsSome, IsSomeAnd}
use Rattle.std.specs.List.{IsDistinct}
use Rattle.std.specs.Option.{option_map_or}
use Rattle.std.specs.declared.alloc.Global.{Global}
use Rattle.std.specs.FinMap as map
use Rattle.std.proofs.lemmas.Bool.{true≢false}
use Rattle.ft_fields.specs.declared.key.Part.{Part}
use Rattle.ft_hist.specs.Hist.{Hist}
use Rattle.ft_hist.specs.Made.{counts_made}
use Rattle.ft_table.specs.Counted.{Counted}
use Rattle.ft_changes.specs.declared.changed.Changed.{Changed}
use Rattle.ft_changes.specs.Reports.{same_row, is_reported}
use Rattle.ft_maps.specs.Seen.{seen}
use Rattle.ft_base.specs.Base.{Base, Triggers}
use Rattle.ft_base.specs.declared.refused.Place.{Place}
use Rattle.ft_base.specs.declared.refused.Refused.{Refused}
use Rattle.ft_base.specs.declared.refused.Refused.TheVariants.{Memory, NoLane, NoEvent}
use Rattle.ft_answers.specs.Edits.{lanes_without}
use Rattle.ft_answers.specs.Held.{Lane, event_at}
use Rattle.ft_fields.specs.Traced.{Traced}
use Rattle.ft_answers.specs.After.{after_strike}
use Rattle.ft_answers.specs.Edited.{EditGives}
use Rattle.ft_answers.specs.Reporting.{Reports, IsReport, IsMadeReport, row_in, made_row_in}
use Rattle.ft_answers.specs.Shown.{Shown}
use Rattle.ft_answers.specs.declared.done.Done.{Done}
use Rattle.ft_answers.specs.declared.edited.Edited.{Edited}
use Rattle.ft_layout.specs.declared.places.PlaceLayout.{PlaceLayout}
use Rattle.ft_session.specs.Strikes.{StrikesEnd, struck_then, after_strikes, HasGone, IsJointReport, ReportsStrikes}
use Rattle.ft_session.specs.declared.joint_report.JointReport.{JointReport}
use Rattle.ft_session.specs.inner.Fronts.{after_others}
use Rattle.ft_session.specs.inner.JointReports.{RowTree, row_cmp, names, Adds, Lists, Covers, IsHeld, Joins, NamesNothing}
use Rattle.ft_session.proofs.RowSets.{listed, listed_once}

-- ---- one strike

-- the triggers of an accepted edit
triggers_of : Base → Result (Base × Place) Refused → Triggers
triggers_of base (Ok done) = done.0.triggers
triggers_of base (Err refused) = base.triggers

-- a strike leaves the triggers as they are
pub struck_triggers : (base : Base) (cpu line : ℕ) (new : Base) (place : Place) → after_strike base cpu line ≡ Ok (new, place) → new.triggers ≡ base.triggers
unfolding after_strike triggers_of
struck_triggers base cpu line new place e = sym (ap (triggers_of base) e) ∙ by (map.get base.lanes cpu)
  where
    at : (lane : Lane) (o : Option Traced) → triggers_of base (option_map_or (λ event. Ok (record base { lanes = lanes_without base.lanes cpu line }, record { cpu = cpu; line = line })) o (Err NoEvent)) ≡ base.triggers
    at lane None = refl
    at lane (Some event) = refl

    by : (o : Option Lane)
        → triggers_of base (option_map_or (λ lane. option_map_or (λ event. Ok (record base { lanes = lanes_without base.lanes cpu line }, record { cpu = cpu; line = line })) (map.get lane.events line) (Err NoEvent)) o (Err (NoLane cpu)))
        ≡ base.triggers
    by None = refl
    by (Some lane) = at lane (map.get lane.events line)

-- a strike that never needs memory is refused as it is due
pub struck_refused : (after : Result (Base × Place) Refused) (why : Refused) → ◌≢◌ {A = Result (Done Edited) Refused} (Err why) (Err Memory) → (why ≡ Memory) ⊎ (after ≡ Err why) → after ≡ Err why
struck_refused after why other (inl memory) = absurd (other (ap Err memory))
struck_refused after why other (inr due) = due

-- ---- what is made of a base

-- a place, in case one is asked for
abbrev pub no_place : PlaceLayout
no_place = record { stamp = 0; cpu = 0; line = 0 }

no_more : (count : ℕ) → count + 0 ≡ count
no_more count = omega arith

module _ (whole : StrikesEnd) (count : ℕ) (base : Base) (place : PlaceLayout) (rest left : List PlaceLayout) (first : left ≡ place ∷ rest) (is : whole ≡ after_others count (after_strikes base left)) where
  -- the next one is struck
  pub strikes_more : (new : Base) (at : Place) → after_strike base place.cpu place.line ≡ Ok (new, at) → whole ≡ after_others (count + 1) (after_strikes new rest)
  unfolding after_strikes
  strikes_more new at gives =
      let others : StrikesEnd = after_strikes new rest in
      let more : count + (others.count + 1) ≡ (count + 1) + others.count = omega arith in
      is
      ∙ ap (λ l. after_others count (after_strikes base l)) first
      ∙ ap (λ r. after_others count (struck_then base (λ b. after_strikes b rest) r)) gives
      ∙ (λ i. record others { count = more i })

  -- or it is refused
  pub strikes_stop : (refused : Refused) → after_strike base place.cpu place.line ≡ Err refused → whole ≡ record { base = base; count = count; refused = Some refused }
  unfolding after_strikes
  strikes_stop refused gives =
      is
      ∙ ap (λ l. after_others count (after_strikes base l)) first
      ∙ ap (λ r. after_others count (struck_then base (λ b. after_strikes b rest) r)) gives
      ∙ (λ i. record { base = base; count = no_more count i; refused = Some refused })

-- no place is left
pub strikes_end : (whole : StrikesEnd) (count : ℕ) (base : Base) (left : List PlaceLayout) → left ≡ [] → whole ≡ after_others count (after_strikes base left) → whole ≡ record { base = base; count = count; refused = None }
unfolding after_strikes
strikes_end whole count base left none is = is ∙ ap (λ l. after_others count (after_strikes base l)) none ∙ (λ i. record { base = base; count = no_more count i; refused = None })

-- none was struck yet
pub strikes_none : (base : Base) (places : List PlaceLayout) → after_strikes base places ≡ after_others 0 (after_strikes base places)
strikes_none base places =
    let struck : StrikesEnd = after_strikes base places in
    let same : struck.count ≡ 0 + struck.count = omega arith in
    λ i. record struck { count = same i }

-- ---- what is reported

-- a row that neither names is not named by both, and one that both name is named by one
either : (a b : Bool) → (a || b) ≡ false → (a ≡ false) × (b ≡ false)
either true b e = absurd (true≢false e)
either false b e = (refl, e)

module _ {made : Bool} {row : Base → ℕ → List Part → Option Counted} where
  covers_none : (base : Base) (named : ℕ → List Part → Bool) → ((id : ℕ) (key : List Part) → named id key ≡ false) → Covers made row base base named
  covers_none base named none = record {
    held = λ id key is. absurd (true≢false (sym is ∙ none id key));
    all = λ id hist there counts key out. refl;
  }

  covers_more : (old mid new : Base) → mid.triggers ≡ old.triggers → (before more now : ℕ → List Part → Bool) → ((id : ℕ) (key : List Part) → now id key ≡ (before id key || more id key))
      → Covers made row old mid before → Covers made row mid new more → Covers made row old new now
  covers_more old mid new same before more now both past next = record {
    held = λ id key is. by id key (before id key) refl (sym (both id key) ∙ is);
    all = λ id hist there counts key out.
        let apart = either (before id key) (more id key) (sym (both id key) ∙ out) in
        next.all id hist (ap (λ (ts : Triggers). map.get ts id) same ∙ there) counts key apart.1 ∙ past.all id hist there counts key apart.0;
  }
    where
      by : (id : ℕ) (key : List Part) (b : Bool) → before id key ≡ b → (before id key || more id key) ≡ true → (hist : Hist) × ((map.get old.triggers id ≡ Some hist) × (counts_made hist ≡ made))
      by id key true is either_is = past.held id key is
      by id key false is either_is =
          let its = next.held id key (sym (ap (λ b. b || more id key) is) ∙ either_is) in
          (its.0, (sym (ap (λ (ts : Triggers). map.get ts id) same) ∙ its.1.0, its.1.1))

-- rows that are joined cover what differs after all edits
joint_rows : (made : Bool) (row : Base → ℕ → List Part → Option Counted) (old mid new : Base) → mid.triggers ≡ old.triggers → (before : Option RowTree) (report : Option (Vec Changed Global)) (now : Option RowTree) → Adds before report now
    → IfSome before (λ rows. Covers made row old mid (names rows)) → IfSome report (λ rows. Covers made row mid new (is_reported rows.items)) → IfSome now (λ rows. Covers made row old new (names rows))
joint_rows made row old mid new same before report None joins past next = tt
joint_rows made row old mid new same None report (Some now) joins past next = absurd joins
joint_rows made row old mid new same (Some before) None (Some now) joins past next = absurd joins
joint_rows made row old mid new same (Some before) (Some report) (Some now) joins past next = covers_more old mid new same (names before) (is_reported report.items) (names now) joins past next

named_none : (made : Bool) (row : Base → ℕ → List Part → Option Counted) (reports : Bool) (base : Base) (rows : Option RowTree) → NamesNothing reports rows → IfSome rows (λ rows. Covers made row base base (names rows))
named_none made row reports base None none = tt
named_none made row reports base (Some rows) none = covers_none base (names rows) none.0

-- what an edit reports covers what differs
report_covers : (old new : Base) (report : Option (Vec Changed Global)) → IfSome report (λ rows. IsReport old new rows.items) → IfSome report (λ rows. Covers false row_in old new (is_reported rows.items))
report_covers old new None is = tt
report_covers old new (Some rows) is = record { held = is.held; all = is.all }

made_covers : (old new : Base) (report : Option (Vec Changed Global)) → IfSome report (λ rows. IsMadeReport old new rows.items) → IfSome report (λ rows. Covers true made_row_in old new (is_reported rows.items))
made_covers old new None is = tt
made_covers old new (Some rows) is = record { held = is.made; all = is.all }

-- rows that are missing stay so, and so they are if a report is missing
missing_stays : (before : Option RowTree) (report : Option (Vec Changed Global)) (now : Option RowTree) → Adds before report now → before ≡ None → now ≡ None
missing_stays before report None joins none = refl
missing_stays None report (Some now) joins none = absurd joins
missing_stays (Some before) report (Some now) joins none = absurd cc

missing_comes : (before : Option RowTree) (report : Option (Vec Changed Global)) (now : Option RowTree) → Adds before report now → report ≡ None → now ≡ None
missing_comes before report None joins none = refl
missing_comes None report (Some now) joins none = absurd joins
missing_comes (Some before) None (Some now) joins none = absurd joins
missing_comes (Some before) (Some report) (Some now) joins none = absurd cc

is_there : {T : Type 0} (o : Option T) (x : T) → o ≡ Some x → IsSome o
is_there None x e = absurd cc
is_there (Some y) x e = search rules

-- what is there after strikes was there before
was_there : {T : Type 0} (before after : Option T) → (before ≡ None → after ≡ None) → IsSome after → IsSome before
was_there None after fewer there = absurd (true≢false (sym (subst IsSome (fewer refl) there)))
was_there (Some x) after fewer there = refl

-- before the first strike
pub joins_none : (reports : Bool) (desk : Shown) (joint : JointReport) → NamesNothing reports joint.rows → NamesNothing reports joint.made → joint.last ≡ None → Joins reports desk desk 0 joint
joins_none reports desk joint rows made last = record {
  triggers = refl;
  fewer = λ cpu line none. none;
  place = subst (λ (o : Option Place). IfSome o (HasGone desk.base desk.base)) (sym last) tt;
  rows = named_none false row_in reports desk.base joint.rows rows;
  made = named_none true made_row_in reports desk.base joint.made made;
  silent = λ not. (rows.1 not, made.1 not);
  later = λ is. is;
  none = λ is. (refl, last);
  some = λ is. absurd (omega (arith, is));
}

module _ (reports : Bool) (old mid new : Shown) (count : ℕ) (before : JointReport) (joins : Joins reports old mid count before) where
  -- after one more
  pub joins_more : (after : Result (Base × Place) Refused) (done : Done Edited) (now : JointReport) → (triggers : new.base.triggers ≡ mid.base.triggers)
      → HasGone mid.base new.base done.value.place × ((cpu line : ℕ) → event_at mid.base.lanes cpu line ≡ None → event_at new.base.lanes cpu line ≡ None)
      → EditGives (λ edited. edited.place) after mid new (Ok done) → Reports mid new (Ok done)
      → Adds before.rows done.value.report now.rows → Adds before.made done.value.made now.made → now.last ≡ Some done.value.place
      → Joins reports old new (count + 1) now
  joins_more after done now triggers goes gives told rows made last = record {
    triggers = triggers ∙ joins.triggers;
    fewer = λ cpu line none. goes.1 cpu line (joins.fewer cpu line none);
    place = subst (λ (o : Option Place). IfSome o (HasGone old.base new.base)) (sym last)
        (was_there (event_at old.base.lanes done.value.place.cpu done.value.place.line) (event_at mid.base.lanes done.value.place.cpu done.value.place.line) (joins.fewer done.value.place.cpu done.value.place.line) goes.0.0, goes.0.1);
    rows = joint_rows false row_in old.base mid.base new.base joins.triggers before.rows done.value.report now.rows rows joins.rows (report_covers mid.base new.base done.value.report told.0.0);
    made = joint_rows true made_row_in old.base mid.base new.base joins.triggers before.made done.value.made now.made made joins.made (made_covers mid.base new.base done.value.made told.1.0);
    silent = λ not. (missing_stays before.rows done.value.report now.rows rows (joins.silent not).0, missing_stays before.made done.value.made now.made made (joins.silent not).1);
    later = λ is. gives.2 (joins.later is);
    none = λ is. absurd (omega (arith, is));
    some = λ is. (
      λ deferred. (missing_comes before.rows done.value.report now.rows rows (told.0.1 deferred), missing_comes before.made done.value.made now.made made (told.1.1.0 deferred)),
      is_there now.last done.value.place last,
    );
  }

  -- after one that is refused
  pub joins_same : new.base ≡ mid.base → new.deferred ≡ mid.deferred → Joins reports old new count before
  joins_same base deferred = record {
    triggers = ap (λ (b : Base). b.triggers) base ∙ joins.triggers;
    fewer = λ cpu line none. ap (λ (b : Base). event_at b.lanes cpu line) base ∙ joins.fewer cpu line none;
    place = subst (λ (b : Base). IfSome before.last (HasGone old.base b)) (sym base) joins.place;
    rows = subst (λ (b : Base). IfSome before.rows (λ rows. Covers false row_in old.base b (names rows))) (sym base) joins.rows;
    made = subst (λ (b : Base). IfSome before.made (λ rows. Covers true made_row_in old.base b (names rows))) (sym base) joins.made;
    silent = joins.silent;
    later = λ is. deferred ∙ joins.later is;
    none = λ is. (deferred ∙ (joins.none is).0, (joins.none is).1);
    some = λ is. (λ yes. (joins.some is).0 (sym deferred ∙ yes), (joins.some is).1);
  }

-- ---- what is held of it

-- a list of rows that cover what differs is a report
rows_report : (old new : Base) (rows : Option RowTree) (report : Option (Vec Changed Global)) → Lists rows report → IfSome rows (λ rows. Covers false row_in old new (names rows)) → IfSome report (λ list. IsJointReport old new list.items)
rows_report old new rows None lists covers = tt
rows_report old new None (Some list) lists covers = absurd lists
rows_report old new (Some rows) (Some list) lists covers = record {
  once = subst (IsDistinct same_row) (sym lists) (listed_once (seen row_cmp rows));
  held = λ id key is. covers.held id key (sym (listed (seen row_cmp rows) id key) ∙ ap (λ l. is_reported l id key) (sym lists) ∙ is);
  all = λ id hist there counts key out. covers.all id hist there counts key (sym (listed (seen row_cmp rows) id key) ∙ ap (λ l. is_reported l id key) (sym lists) ∙ out);
}

made_report : (old new : Base) (rows : Option RowTree) (report : Option (Vec Changed Global)) → Lists rows report → IfSome rows (λ rows. Covers true made_row_in old new (names rows)) → IfSome report (λ list. IsMadeReport old new list.items)
made_report old new rows None lists covers = tt
made_report old new None (Some list) lists covers = absurd lists
made_report old new (Some rows) (Some list) lists covers = record {
  once = subst (IsDistinct same_row) (sym lists) (listed_once (seen row_cmp rows));
  made = λ id key is. covers.held id key (sym (listed (seen row_cmp rows) id key) ∙ ap (λ l. is_reported l id key) (sym lists) ∙ is);
  all = λ id hist there counts key out. covers.all id hist there counts key (sym (listed (seen row_cmp rows) id key) ∙ ap (λ l. is_reported l id key) (sym lists) ∙ out);
}

-- rows that are missing give no list
not_listed : (rows : Option RowTree) (report : Option (Vec Changed Global)) → Lists rows report → rows ≡ None → report ≡ None
not_listed rows None lists none = refl
not_listed None (Some list) lists none = absurd lists
not_listed (Some rows) (Some list) lists none = absurd cc

module _ (reports : Bool) (old new : Shown) (count : ℕ) (joint : JointReport) (joins : Joins reports old new count joint) where
  reports_held : (edited : Edited) → HasGone old.base new.base edited.place → 0 < count → Lists joint.rows edited.report → Lists joint.made edited.made → ReportsStrikes reports old new edited
  reports_held edited place some rows made = record {
    place = place;
    rows = rows_report old.base new.base joint.rows edited.report rows joins.rows;
    made = made_report old.base new.base joint.made edited.made made joins.made;
    silent = λ not. (not_listed joint.rows edited.report rows (joins.silent not).0, not_listed joint.made edited.made made (joins.silent not).1);
    deferred = λ yes. (not_listed joint.rows edited.report rows ((joins.some some).0 yes).0, not_listed joint.made edited.made made ((joins.some some).0 yes).1);
  }

  -- what is held if no event was struck
  pub held_none : (before now : Option Edited) → IsHeld joint before now → count ≡ 0 → now ≡ before
  held_none before now held none = subst (λ (last : Option Place). MatchOption last (now ≡ before) (λ place. IsSomeAnd now (λ edited. (edited.place ≡ place) × Lists joint.rows edited.report × Lists joint.made edited.made))) (joins.none none).1 held

  -- and if some were
  pub held_some : (before now : Option Edited) → IsHeld joint before now → 0 < count → IsSomeAnd now (ReportsStrikes reports old new)
  held_some before now held some = by joint.last (joins.some some).1 joins.place now held
    where
      by : (last : Option Place) → IsSome last → IfSome last (HasGone old.base new.base) → (now : Option Edited)
          → MatchOption last (now ≡ before) (λ place. IsSomeAnd now (λ edited. (edited.place ≡ place) × Lists joint.rows edited.report × Lists joint.made edited.made)) → IsSomeAnd now (ReportsStrikes reports old new)
      by None there gone now held = search rules
      by (Some place) there gone None held = search rules
      by (Some place) there gone (Some edited) held = reports_held edited (subst (HasGone old.base new.base) (sym held.0) gone) some held.1 held.2
