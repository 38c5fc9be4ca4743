-- Tables that hold just what made events add: what follows of one, how it changes with what is made at a spot and with what readings find, and how it is filled.
use Rattle.std.proofs.Common.{◌≡◌, ◌⊎◌, ⊎_elim, inl, inr, Bool, true, false, cond, List, [], ◌∷◌, ◌++◌, refl, sym, ap, subst, ◌∙◌, Some, None, Option, ℕ, map as list_map}
use Rattle.std.specs.Prelude.{ℤ, ◌==◌, IsSome, option_map, option_and_then, if◌then◌else◌}
use Rattle.std.specs.List.{cons_option, AllByRecursion, flat_map}
use Rattle.std.specs.Option.{option_map_or}
use Rattle.std.specs.Ordering.{is_eq, eq_by_cmp, ordering_then, nat_cmp}
use Rattle.std.specs.Cmp.{eq_by_cmp_equiv, nat_cmp_total, unsigned_ties}
use Rattle.std.specs.FinMap as map
use Rattle.std.specs.FinMap.{get-insert, get-remove, FinMap, find, get-empty, get-entries, get-from_entries, nat_cmp-IsAntisymmetric, same_map}
use Rattle.std.specs.declared.cmp.Ordering.TheVariants.{Less}
use Rattle.std.proofs.lemmas.Bool.{eqb-true, eq-eqb, or_left, or_right, true≢false}
use Rattle.std.proofs.lemmas.Cmp.{tied_itself}
use Rattle.std.proofs.lemmas.List.Folds.{list_any-append}
use Rattle.ft_fields.specs.Traced.{Traced}
use Rattle.ft_fields.specs.Orders.{key_cmp_total}
use Rattle.ft_fields.specs.Parts.{key_cmp, same_key}
use Rattle.ft_fields.specs.Places.{pos_cmp, pos_cmp_total, pos_same}
use Rattle.ft_fields.specs.Ties.{key_same}
use Rattle.ft_fields.specs.declared.key.Part.{Part}
use Rattle.ft_fields.specs.declared.pos.Pos.{Pos}
use Rattle.ft_hist.specs.Fitting.{KeyFits}
use Rattle.ft_hist.specs.Hist.{Hist}
use Rattle.ft_hist.specs.Hit.{hit}
use Rattle.ft_hist.specs.Triggers.{Triggers}
use Rattle.ft_hist.specs.Made.{made_event, made_of}
use Rattle.ft_maps.specs.Entries.{get-insert_other, get-remove_other, same_from_tie, entries-empty}
use Rattle.ft_maps.proofs.Common.{all_map}
use Rattle.ft_hits.specs.declared.mark.Mark.{Mark}
use Rattle.ft_hits.specs.declared.spot.Spot.{Spot}
use Rattle.ft_table.specs.Growth.{with_hit}
use Rattle.ft_table.specs.Marks.{mark_cmp, mark_cmp_total, mark_same}
use Rattle.ft_table.specs.OneKey.{without_hit}
use Rattle.ft_table.specs.Spots.{spot_cmp, spot_cmp_total, spot_same}
use Rattle.ft_table.specs.Tabled.{Tabled}
use Rattle.ft_table.specs.Values.{values_at}
use Rattle.ft_changes.specs.Findings.{Findings, after_change, Lead}
use Rattle.ft_changes.specs.Rivals.{is_of}
use Rattle.ft_changes.specs.declared.changed.ReadingChange.{ReadingChange}
use Rattle.ft_changes.proofs.Leading.{lead_trans}
use Rattle.ft_base.proofs.Apart.{AreApart, entries_apart, entries_found}
use Rattle.ft_replay.specs.Hits.{TriggerHit}
use Rattle.ft_replay.specs.Merged.{Events}
use Rattle.ft_replay.specs.Found.{pairs_in}
use Rattle.ft_replay.specs.declared.pair.Pair.{Pair}
use Rattle.ft_replay.proofs.KeptMaps.{paired}
use Rattle.ft_made.specs.Laws.{KeysAreUpdated, MadeTablesChange, MadeTablesFit, PutMadeChanges, TakeMadeChanges, UpdatedButForKeys}
use Rattle.ft_made.specs.MadeEvents.{made_by}
use Rattle.ft_made.specs.MadeHits.{made_hit, values_of_made}
use Rattle.ft_made.specs.MadeTables.{IsMadeTable, ChangesMade, with_made, without_made, AreInOrder, ArePairsOf, found_in}
use Rattle.ft_made.specs.Updating.{HaveKey, HaveChangedKeys, keys_at, keys_of_made, changed_keys, made_as, change_spot, CanUpdate, IsUpdated}
use Rattle.ft_made.specs.inner.First.{first_change, first_changes}
use Rattle.ft_made.proofs.Same.{makes, makes_none, makes_same}
use Rattle.ft_made.proofs.Order.{none_above, none_behind}
use Rattle.ft_made.proofs.Views.{nothing}

-- ---- keys fit

-- the hit of a key, at a spot
abbrev pub hit_under : Hist → Spot → Traced → List Part → TriggerHit
hit_under hist spot event key = record { spot = spot; key = key; saved = None; values = values_at hist spot.pos event None }

-- what a hit adds under a key, if that is the hit's
abbrev adds_under : List Part → TriggerHit → Option (List ℤ)
adds_under key found = if same_key key found.key then Some found.values else None

-- a made event adds nothing at a mark, or it is a hit of the mark's key
none_or_its : (hist : Hist) (mark : Mark) (made : Option Traced) → (values_of_made hist mark made ≡ None) ⊎ (option_and_then (hit hist) made ≡ Some mark.key)
none_or_its hist mark None = inl refl
none_or_its hist mark (Some event) = elim (hit hist event) as (λ o. (option_and_then (adds_under mark.key) (option_map (hit_under hist mark.spot event) o) ≡ None) ⊎ (o ≡ Some mark.key)) [
  | None ↦ inl refl
  | Some key ↦ elim (same_key mark.key key) as (λ b. same_key mark.key key ≡ b → ((if b then Some (values_at hist mark.spot.pos event None) else None) ≡ None) ⊎ (Some key ≡ Some mark.key)) [
    | true ↦ λ tie. inr (ap Some (sym (same_from_tie key_same mark.key key tie)))
    | false ↦ λ _. inl refl
  ] refl
]

module _ (fits : (hist : Hist) (event : Traced) (parts : List Part) → hit hist event ≡ Some parts → KeyFits hist.keys parts) where
  fit_under : (hist : Hist) (mark : Mark) (made : Option Traced) → IsSome (values_of_made hist mark made) → KeyFits hist.keys mark.key
  fit_under hist mark None some = absurd (true≢false (sym some))
  fit_under hist mark (Some event) some = ⊎_elim (λ none. absurd (true≢false (sym (subst IsSome none some)))) (fits hist event mark.key) (none_or_its hist mark (Some event))

  pub made_fit : MadeTablesFit
  made_fit triggers events found hist table is mark some = fit_under hist mark (made_by triggers events found mark.spot) (subst IsSome (is.hits mark) some)

-- ---- one spot

-- two spots are the same, or apart
same_or_apart : (a b : Spot) → (a ≡ b) ⊎ (a ≡ b → ⊥)
same_or_apart a b = elim (eq_by_cmp spot_cmp a b) as (λ t. eq_by_cmp spot_cmp a b ≡ t → (a ≡ b) ⊎ (a ≡ b → ⊥)) [
  | true ↦ λ tie. inl (same_from_tie spot_same a b tie)
  | false ↦ λ other. inr (λ same. true≢false (sym ((eq_by_cmp_equiv spot_cmp_total).refl b) ∙ ap (λ (s : Spot). eq_by_cmp spot_cmp s b) (sym same) ∙ other))
] refl

pub made_change : MadeTablesChange
made_change triggers others events more found later hist spot before after is changes same = record {
  size = changes.size ∙ is.size;
  hits = λ mark. ⊎_elim
      (λ here. subst (λ (s : Spot). map.get after.hits (record { spot = s; key = mark.key }) ≡ values_of_made hist (record { spot = s; key = mark.key }) (made_by others more later s)) (sym here) (changes.here mark.key))
      (λ apart. changes.elsewhere mark apart ∙ is.hits mark ∙ ap (values_of_made hist mark) (sym (same mark.spot apart)))
      (same_or_apart mark.spot spot);
}

-- ---- one made event

module _ (hist : Hist) (spot : Spot) where
  abbrev at_key : List Part → Mark
  at_key key = record { spot = spot; key = key }

  -- a table comes to hold at the spot what a hit adds, or nothing if there is none, and stays as it was elsewhere
  abbrev Becomes : Option TriggerHit → Tabled → Tabled → Type 0
  Becomes o before after =
      (after.size ≡ before.size)
      × (((key : List Part) → map.get after.hits (at_key key) ≡ option_and_then (adds_under key) o) × ((mark : Mark) → (mark.spot ≡ spot → ⊥) → map.get after.hits mark ≡ map.get before.hits mark))

  changes_made : (made : Option Traced) (before after : Tabled) → Becomes (option_and_then (made_hit hist spot) made) before after → ChangesMade hist spot made before after
  changes_made made before after (size, (here, elsewhere)) = record { size = size; here = here; elsewhere = elsewhere }

  -- a mark of another spot is none of this one's
  not_at : (mark : Mark) (key : List Part) → (mark.spot ≡ spot → ⊥) → mark ≡ at_key key → ⊥
  not_at mark key apart same = apart (ap (λ (m : Mark). m.spot) same)

  -- marks of the spot tie if and only if their keys do
  tied_at : (a b : List Part) → eq_by_cmp mark_cmp (at_key a) (at_key b) ≡ same_key a b
  tied_at a b = ap (λ o. is_eq (ordering_then o (key_cmp a b))) (tied_itself spot_cmp_total spot)

  put_found : (table : Tabled) → ((key : List Part) → map.get table.hits (at_key key) ≡ None) → (o : Option TriggerHit) → Becomes o table (option_map_or (λ found. with_hit table (at_key found.key) found.values) o table)
  put_found table free None = (refl, (free, λ mark apart. refl))
  put_found table free (Some found) = (
    refl,
    (
      λ key.
          get-insert mark_cmp_total table.hits (at_key found.key) found.values (at_key key)
          ∙ (λ i. cond (tied_at key found.key i) (Some found.values) (free key i)),
      λ mark apart. get-insert_other mark_cmp_total mark_same table.hits (at_key found.key) found.values mark (not_at mark found.key apart),
    ),
  )

  -- either way nothing is left of a hit that is taken out
  none_left : (b : Bool) (values : List ℤ) (o : Option (List ℤ)) → o ≡ cond b (Some values) None → cond b None o ≡ None
  none_left true values o is = refl
  none_left false values o is = is

  take_found : (table : Tabled) (o : Option TriggerHit) → ((key : List Part) → map.get table.hits (at_key key) ≡ option_and_then (adds_under key) o) → Becomes None table (option_map_or (λ found. without_hit table (at_key found.key)) o table)
  take_found table None holds = (refl, (holds, λ mark apart. refl))
  take_found table (Some found) holds = (
    refl,
    (
      λ key.
          get-remove mark_cmp_total table.hits (at_key found.key) (at_key key)
          ∙ ap (λ b. cond b None (map.get table.hits (at_key key))) (tied_at key found.key)
          ∙ none_left (same_key key found.key) found.values (map.get table.hits (at_key key)) (holds key),
      λ mark apart. get-remove_other mark_cmp_total mark_same table.hits (at_key found.key) mark (not_at mark found.key apart),
    ),
  )

pub put_changes : PutMadeChanges
put_changes hist spot made table free = changes_made hist spot made table (with_made hist spot made table) (put_found hist spot table free (option_and_then (made_hit hist spot) made))

pub take_changes : TakeMadeChanges
take_changes hist spot made table holds = changes_made hist spot None table (without_made hist spot made table) (take_found hist spot table (option_and_then (made_hit hist spot) made) holds)

-- ---- one reading

-- what is read of an empty list
abbrev pub no_change : ReadingChange
no_change = record { id = 0; pos = record { stamp = 0; cpu = 0; line = 0 }; before = None; after = None }

-- the changed reading finds what its change says
after_here : (change : ReadingChange) (found : Findings) → after_change change found change.id change.pos ≡ change.after
after_here change found = rw (eq-eqb change.id change.id refl, (eq_by_cmp_equiv pos_cmp_total).refl change.pos)

-- each other reading finds what it found
after_elsewhere : (change : ReadingChange) (found : Findings) (spot : Spot) → (spot ≡ change_spot change) ⊎ (after_change change found spot.maker spot.pos ≡ found spot.maker spot.pos)
after_elsewhere change found spot = by (spot.maker == change.id) refl (eq_by_cmp pos_cmp spot.pos change.pos) refl where
  was : Option Pos
  was = found spot.maker spot.pos

  by : (own : Bool) → (spot.maker == change.id) ≡ own → (here : Bool) → eq_by_cmp pos_cmp spot.pos change.pos ≡ here
      → (spot ≡ change_spot change) ⊎ ((if own then (if here then change.after else was) else was) ≡ was)
  by false other here tie = inr refl
  by true own false apart = inr refl
  by true own true tie = inl (λ i. record { pos = same_from_tie pos_same spot.pos change.pos tie i; maker = eqb-true spot.maker change.id own i })

module _ (triggers : Triggers) (events : Events) (change : ReadingChange) (found : Findings) where
  -- the changed reading makes what its change says
  makes_after : made_by triggers events (after_change change found) (change_spot change) ≡ made_as triggers events change change.after
  makes_after = ap (made_as triggers events change) (after_here change found)

  -- each other reading makes what it made
  makes_elsewhere : (spot : Spot) → (spot ≡ change_spot change) ⊎ (made_by triggers events (after_change change found) spot ≡ made_by triggers events found spot)
  makes_elsewhere spot = ⊎_elim inl (λ same. inr (ap (makes triggers events spot) same)) (after_elsewhere change found spot)

-- ---- tables that are updated

module _ (triggers : Triggers) (events : Events) (hist : Hist) where
  -- a table is made of what readings have come to find, and changes lead on to what they find
  abbrev pub IsOnTheWay : List ReadingChange → Findings → Tabled → Type 0
  IsOnTheWay changes now table = (between : Findings) × (Lead changes between now × IsMadeTable triggers events between hist table)

  module _ (change : ReadingChange) (more left : List ReadingChange) (next : left ≡ change ∷ more) (now : Findings) (before : Tabled) (on : IsOnTheWay left now before)
      (was : Option Traced) (had : was ≡ made_as triggers events change change.before) where
    way : IsOnTheWay (change ∷ more) now before
    way = subst (λ (changes : List ReadingChange). IsOnTheWay changes now before) next on

    -- at the spot of the next change the table holds what its reading made; once that is taken out, nothing stands there
    pub next_taken : ChangesMade hist (change_spot change) None before (without_made hist (change_spot change) was before)
    next_taken = take_changes hist (change_spot change) was before (λ key.
        let mark : Mark = record { spot = change_spot change; key = key } in
        way.1.1.hits mark ∙ ap (values_of_made hist mark) (ap (made_as triggers events change) way.1.0.0 ∙ sym had))

    -- with what it makes now put in, the table is made of what readings find once this one has changed
    pub next_updated : (is : Option Traced) → is ≡ made_as triggers events change change.after
        → IsOnTheWay more now (with_made hist (change_spot change) is (without_made hist (change_spot change) was before))
    next_updated is has =
        let between : Tabled = without_made hist (change_spot change) was before in
        let put : ChangesMade hist (change_spot change) is between (with_made hist (change_spot change) is between) = put_changes hist (change_spot change) is between next_taken.here in (
          after_change change way.0,
          (
            way.1.0.1,
            made_change triggers triggers events events way.0 (after_change change way.0) hist (change_spot change) before (with_made hist (change_spot change) is between) way.1.1
                (record {
                  size = put.size ∙ next_taken.size;
                  here = λ key. put.here key ∙ ap (values_of_made hist (record { spot = change_spot change; key = key })) (has ∙ sym (makes_after triggers events change way.0));
                  elsewhere = λ mark apart. put.elsewhere mark apart ∙ next_taken.elsewhere mark apart;
                })
                (λ spot apart. ⊎_elim (λ here. absurd (apart here)) (λ same. same) (makes_elsewhere triggers events change way.0 spot)),
          ),
        )

  -- if no change is left, it is made of what readings find
  pub way_done : (now : Findings) (table : Tabled) → IsOnTheWay [] now table → IsMadeTable triggers events now hist table
  way_done now table (between, (same, made)) = record {
    size = made.size;
    hits = λ mark. made.hits mark ∙ ap (λ found. values_of_made hist mark (makes triggers events mark.spot found)) (sym (same mark.spot.maker mark.spot.pos));
  }

-- ---- hits under other keys

-- an event that is counted under one of some keys adds nothing under another
adds_nothing : (hist : Hist) (mark : Mark) (made : Option Traced) (keys : List (List Part)) → HaveKey hist made keys → is_of keys mark.key ≡ false → values_of_made hist mark made ≡ None
adds_nothing hist mark made keys have other = ⊎_elim (λ none. none) (λ its. absurd (true≢false (sym (have mark.key its) ∙ other))) (none_or_its hist mark made)

pub updated_but : UpdatedButForKeys
updated_but triggers events found later hist keys before after was is have = record {
  size = is.size ∙ sym was.size;
  hits = λ mark none. is.hits mark
      ∙ ⊎_elim (λ same. ap (values_of_made hist mark) same)
      (λ both. adds_nothing hist mark (made_by triggers events later mark.spot) keys both.1 none ∙ sym (adds_nothing hist mark (made_by triggers events found mark.spot) keys both.0 none))
      (have mark.spot)
      ∙ sym (was.hits mark);
}

-- ---- changed readings

module _ (hist : Hist) where
  -- the key of what is made is the only one of it
  its_key : (made : Option Traced) → HaveKey hist made (keys_of_made hist made)
  its_key made key is =
      ap (λ (o : Option (List Part)). is_of (cons_option o []) key) is
      ∙ or_left (same_key key key) false ((eq_by_cmp_equiv key_cmp_total).refl key)

  -- one after another, keys have those of both
  have_left : (made : Option Traced) (xs ys : List (List Part)) → HaveKey hist made xs → HaveKey hist made (xs ++ ys)
  have_left made xs ys have key is = list_any-append (same_key key) xs ys ∙ or_left (is_of xs key) (is_of ys key) (have key is)

  have_right : (made : Option Traced) (xs ys : List (List Part)) → HaveKey hist made ys → HaveKey hist made (xs ++ ys)
  have_right made xs ys have key is = list_any-append (same_key key) xs ys ∙ or_right (is_of xs key) (is_of ys key) (have key is)

module _ (triggers : Triggers) (events : Events) (hist : Hist) where
  -- one change after others: both lists of keys together
  have_both : (found between now : Findings) (xs ys : List (List Part)) → HaveChangedKeys triggers events found between hist xs → HaveChangedKeys triggers events between now hist ys
      → HaveChangedKeys triggers events found now hist (xs ++ ys)
  have_both found between now xs ys one two spot =
      let was : Option Traced = made_by triggers events found spot in
      let is : Option Traced = made_by triggers events now spot in
      ⊎_elim
      (λ same. ⊎_elim (λ still. inl (still ∙ same)) (λ keys. inr (have_right hist was xs ys (subst (λ made. HaveKey hist made ys) same keys.0), have_right hist is xs ys keys.1)) (two spot))
      (λ keys. inr (have_left hist was xs ys keys.0, ⊎_elim (λ still. have_left hist is xs ys (subst (λ made. HaveKey hist made xs) (sym still) keys.1)) (λ more. have_right hist is xs ys more.1) (two spot)))
      (one spot)

  -- the keys of one change
  one_has : (change : ReadingChange) (found : Findings) → found change.id change.pos ≡ change.before
      → HaveChangedKeys triggers events found (after_change change found) hist (keys_at triggers events hist change)
  one_has change found had spot =
      let was : Option Traced = made_as triggers events change change.before in
      let is : Option Traced = made_as triggers events change change.after in
      let HasKey : Option Traced → Type 0 = λ made. HaveKey hist made (keys_at triggers events hist change) in
      ⊎_elim (λ here. inr (
        subst HasKey (sym (ap (made_by triggers events found) here ∙ ap (makes triggers events (change_spot change)) had)) (have_left hist was (keys_of_made hist was) (keys_of_made hist is) (its_key hist was)),
        subst HasKey (sym (ap (made_by triggers events (after_change change found)) here ∙ makes_after triggers events change found)) (have_right hist is (keys_of_made hist was) (keys_of_made hist is) (its_key hist is)),
      )) inl (makes_elsewhere triggers events change found spot)

pub keys_have : KeysAreUpdated
unfolding changed_keys
keys_have triggers events hist [] found now same = λ spot. inl (ap (makes triggers events spot) (same spot.maker spot.pos))
keys_have triggers events hist (change ∷ more) found now (had, lead) =
    have_both triggers events hist found (after_change change found) now (keys_at triggers events hist change) (changed_keys triggers events hist more)
    (one_has triggers events hist change found had) (keys_have triggers events hist more (after_change change found) now lead)

-- ---- readings and their pairs

-- the readings that have these pairs
abbrev readings_of : List Pair → FinMap pos_cmp Pos
readings_of pairs = map.from_entries (list_map (λ pair. (pair.read, pair.saved)) pairs)

back_from : (es : List (Pos × Pos)) → list_map (λ (pair : Pair). (pair.read, pair.saved)) (list_map paired es) ≡ es
back_from [] = refl
back_from (e ∷ es) = ap (λ (more : List (Pos × Pos)). e ∷ more) (back_from es)

same_readings : (readings : FinMap pos_cmp Pos) → readings_of (pairs_in readings) ≡ readings
same_readings readings = same_map pos_cmp_total pos_same _ _ (λ pos.
    get-from_entries pos_cmp_total (list_map (λ (pair : Pair). (pair.read, pair.saved)) (pairs_in readings)) pos
    ∙ ap (find pos_cmp pos) (back_from (map.entries readings)) ∙ sym (get-entries readings pos))

-- ---- one trigger's readings

-- nothing is kept, whether one is found or none is
none_of : (o : Option Pos) → option_map_or (λ (saved : Pos). None) o o ≡ None
none_of None = refl
none_of (Some saved) = refl

module _ (id : ℕ) (now : Findings) where
  -- what readings find, if those of the trigger at these places find nothing yet
  abbrev without : List (Pos × Pos) → Findings
  without es q pos = if q == id then option_map_or (λ (saved : Pos). None) (find pos_cmp pos es) (now q pos) else now q pos

  abbrev change_at : Pos × Pos → ReadingChange
  change_at e = first_change id (paired e)

  -- once the first of these finds its saving, the others are left
  one_less : (e : Pos × Pos) (es : List (Pos × Pos)) → AllByRecursion (λ q. pos_cmp e.0 q.0 ≡ Less) es → now id e.0 ≡ Some e.1
      → (q : ℕ) (pos : Pos) → after_change (change_at e) (without (e ∷ es)) q pos ≡ without es q pos
  one_less e es above there q pos = by (q == id) refl (eq_by_cmp pos_cmp pos e.0) refl where
    left : Option Pos → Option Pos
    left o = option_map_or (λ (saved : Pos). None) o (now q pos)

    by : (own : Bool) → (q == id) ≡ own → (tie : Bool) → eq_by_cmp pos_cmp pos e.0 ≡ tie
        → (let was : Option Pos = if own then left (cond tie (Some e.1) (find pos_cmp pos es)) else now q pos in
        (if own then (if tie then Some e.1 else was) else was) ≡ (if own then left (find pos_cmp pos es) else now q pos))
    by false other tie is = refl
    by true own false apart = refl
    by true own true tie =
        let at : pos ≡ e.0 = same_from_tie pos_same pos e.0 tie in
        sym (ap left (none_behind pos_cmp pos e es at above) ∙ (λ i. now (eqb-true q id own i) (at i)) ∙ there)

  -- their changes lead from there
  lead_first : (es : List (Pos × Pos)) → AreApart pos_cmp es → AllByRecursion (λ e. now id e.0 ≡ Some e.1) es → Lead (list_map (first_change id) (list_map paired es)) (without es) now
  lead_first [] apart there = λ q pos. elim (q == id) as (λ b. now q pos ≡ (if b then now q pos else now q pos)) [ true ↦ refl | false ↦ refl ]
  lead_first (e ∷ es) apart there = (
    ap (λ b. if b then option_map_or (λ (saved : Pos). None) (find pos_cmp e.0 (e ∷ es)) (now id e.0) else now id e.0) (eq-eqb id id refl)
        ∙ ap (λ b. option_map_or (λ (saved : Pos). None) (cond b (Some e.1) (find pos_cmp e.0 es)) (now id e.0)) ((eq_by_cmp_equiv pos_cmp_total).refl e.0),
    subst (λ (found : Findings). Lead (list_map (first_change id) (list_map paired es)) found now) (λ i q pos. sym (one_less e es apart.0 there.0 q pos) i) (lead_first es apart.1 there.1),
  )

-- ---- all triggers' readings

module _ (triggers : Triggers) (pairs : ℕ → List Pair) where
  -- the readings of a trigger that makes events; none of any other
  abbrev making : ℕ × Hist → FinMap pos_cmp Pos
  making t = option_map_or (λ onmatch. readings_of (pairs t.0)) t.1.onmatch map.empty

  -- what the attached triggers' readings find, if they make events
  abbrev pub all_found : Findings
  all_found id pos = option_and_then (λ hist. map.get (making (id, hist)) pos) (map.get triggers id)

  -- the same, if those of these triggers find nothing yet
  abbrev not_yet : List (ℕ × Hist) → Findings
  not_yet ts id pos = option_map_or (λ (hist : Hist). None) (find nat_cmp id ts) (all_found id pos)

  nothing_first : (id : ℕ) (pos : Pos) → not_yet (map.entries triggers) id pos ≡ None
  nothing_first id pos =
      ap (λ o. option_map_or (λ (hist : Hist). None) o (all_found id pos)) (sym (get-entries triggers id))
      ∙ elim (map.get triggers id) as (λ o. option_map_or (λ (hist : Hist). None) o (option_and_then (λ hist. map.get (making (id, hist)) pos) o) ≡ None) [ None ↦ refl | Some hist ↦ refl ]

  -- a table is made of what is kept of triggers' readings, and the changes of those of these triggers lead on to all
  abbrev pub IsFilledBut : Events → Hist → List (ℕ × Hist) → Tabled → Type 0
  IsFilledBut events hist ts table = IsOnTheWay triggers events hist (flat_map (first_changes pairs) ts) all_found table

  module _ (in_order : AreInOrder triggers pairs) where
    module _ (t : ℕ × Hist) (ts : List (ℕ × Hist)) (above : AllByRecursion (λ u. nat_cmp t.0 u.0 ≡ Less) ts) (attached : map.get triggers t.0 ≡ Some t.1) where
      own : (pos : Pos) → not_yet ts t.0 pos ≡ map.get (making t) pos
      own pos =
          ap (λ o. option_map_or (λ (hist : Hist). None) o (all_found t.0 pos)) (none_above nat_cmp t.0 ts above)
          ∙ ap (option_and_then (λ hist. map.get (making (t.0, hist)) pos)) attached

      one_more : (q : ℕ) (pos : Pos) → without t.0 (not_yet ts) (map.entries (making t)) q pos ≡ not_yet (t ∷ ts) q pos
      one_more q pos =
          let was : Option Pos = find pos_cmp pos (map.entries (making t)) in
          let is : Option Pos = not_yet ts q pos in
          ap (λ b. if b then option_map_or (λ (saved : Pos). None) was is else is) (unsigned_ties q t.0)
          ∙ elim (eq_by_cmp nat_cmp q t.0) as (λ b. eq_by_cmp nat_cmp q t.0 ≡ b
          → (if b then option_map_or (λ (saved : Pos). None) was is else is) ≡ option_map_or (λ (hist : Hist). None) (cond b (Some t.1) (find nat_cmp q ts)) (all_found q pos)) [
            | true ↦ λ tie. ap (option_map_or (λ (saved : Pos). None) was) ((λ i. not_yet ts (same_from_tie nat_cmp-IsAntisymmetric q t.0 tie i) pos) ∙ own pos ∙ get-entries (making t) pos) ∙ none_of was
            | false ↦ λ _. refl
          ] refl

      kept_pairs : pairs t.0 ≡ pairs_in (readings_of (pairs t.0))
      kept_pairs =
          let found : (readings : FinMap pos_cmp Pos) × (pairs t.0 ≡ pairs_in readings) = in_order t.0 t.1 attached in
          found.1 ∙ ap pairs_in (sym (ap readings_of found.1 ∙ same_readings found.0))

      changes-are : first_changes pairs t ≡ list_map (first_change t.0) (pairs_in (making t))
      changes-are = elim t.1.onmatch as (λ o. option_map_or (λ onmatch. list_map (first_change t.0) (pairs t.0)) o [] ≡ list_map (first_change t.0) (pairs_in (option_map_or (λ onmatch. readings_of (pairs t.0)) o map.empty))) [
        | None ↦ sym (ap (λ (es : List (Pos × Pos)). list_map (first_change t.0) (list_map paired es)) (entries-empty pos_cmp))
        | Some onmatch ↦ ap (list_map (first_change t.0)) kept_pairs
      ]

      -- the changes of one trigger's readings lead on
      lead_on : Lead (first_changes pairs t) (not_yet (t ∷ ts)) (not_yet ts)
      lead_on = subst (λ (changes : List ReadingChange). Lead changes (not_yet (t ∷ ts)) (not_yet ts)) (sym changes-are)
          (subst (λ (found : Findings). Lead (list_map (first_change t.0) (pairs_in (making t))) found (not_yet ts)) (λ i q pos. one_more q pos i)
          (lead_first t.0 (not_yet ts) (map.entries (making t)) (entries_apart pos_cmp (making t))
          (all_map _ _ (λ e is. own e.0 ∙ is) (map.entries (making t)) (entries_found pos_cmp pos_cmp_total (making t)))))

    -- the changes of all of them lead to what they find
    lead_all : (ts : List (ℕ × Hist)) → AreApart nat_cmp ts → AllByRecursion (λ t. map.get triggers t.0 ≡ Some t.1) ts → Lead (flat_map (first_changes pairs) ts) (not_yet ts) all_found
    lead_all [] apart attached = λ id pos. refl
    lead_all (t ∷ ts) apart attached =
        lead_trans (first_changes pairs t) (flat_map (first_changes pairs) ts) (not_yet (t ∷ ts)) (not_yet ts) all_found (lead_on t ts apart.0 attached.0) (lead_all ts apart.1 attached.1)

    -- at first nothing is made
    pub new_filled : (events : Events) (hist : Hist) → IsFilledBut events hist (map.entries triggers) (record { hits = map.empty; size = hist.size })
    new_filled events hist = (
      not_yet (map.entries triggers),
      (
        lead_all (map.entries triggers) (entries_apart nat_cmp triggers) (entries_found nat_cmp nat_cmp_total triggers),
        record {
          size = refl;
          hits = λ mark.
              get-empty {X = List ℤ} mark_cmp mark
              ∙ sym (ap (values_of_made hist mark) (ap (makes triggers events mark.spot) (nothing_first mark.spot.maker mark.spot.pos) ∙ makes_none triggers events mark.spot));
        },
      ),
    )

  -- what they find makes what readings of these pairs make
  module _ (events : Events) (found : ℕ → FinMap pos_cmp Pos) (are : ArePairsOf triggers pairs found) where
    makes_all : (s : Spot) → made_by triggers events all_found s ≡ made_by triggers events (found_in found) s
    makes_all s = makes_same triggers events s (all_found s.maker s.pos) (map.get (found s.maker) s.pos) (λ event maker attached.
        ap (λ o. option_and_then (made_of maker s.pos event) (option_and_then (λ maker. map.get (making (s.maker, maker)) s.pos) o)) attached
        ∙ elim maker.onmatch as (λ o. option_and_then (λ saved. option_map (made_event s.pos event saved) o) (map.get (option_map_or (λ onmatch. readings_of (pairs s.maker)) o map.empty) s.pos)
        ≡ option_and_then (λ saved. option_map (made_event s.pos event saved) o) (map.get (found s.maker) s.pos)) [
          | None ↦ nothing _ _ (λ saved is. refl) ∙ sym (nothing _ _ (λ saved is. refl))
          | Some onmatch ↦ ap (λ (readings : FinMap pos_cmp Pos). option_and_then (λ saved. Some (made_event s.pos event saved onmatch)) (map.get readings s.pos)) (ap readings_of (are s.maker maker attached) ∙ same_readings (found s.maker))
        ])

    pub all_made : (hist : Hist) (table : Tabled) → IsMadeTable triggers events all_found hist table → IsMadeTable triggers events (found_in found) hist table
    all_made hist table is = record { size = is.size; hits = λ mark. is.hits mark ∙ ap (values_of_made hist mark) (makes_all mark.spot) }

-- ---- the next trigger's readings

-- changes and then others lead over what the first come to
lead_over : (xs ys : List ReadingChange) (found now : Findings) → Lead (xs ++ ys) found now → (between : Findings) × (Lead xs found between × Lead ys between now)
lead_over [] ys found now lead = (found, ((λ id pos. refl), lead))
lead_over (x ∷ xs) ys found now (had, lead) =
    let rest : (between : Findings) × (Lead xs (after_change x found) between × Lead ys between now) = lead_over xs ys (after_change x found) now lead in
    (rest.0, ((had, rest.1.0), rest.1.1))

-- the table can be updated by the changes of the next trigger's readings, and then it lacks those of the others
pub next_filled : (triggers : Triggers) (pairs : ℕ → List Pair) (events : Events) (hist : Hist) (t : ℕ × Hist) (ts all : List (ℕ × Hist)) → all ≡ t ∷ ts → (changes : List ReadingChange) → changes ≡ first_changes pairs t
    → (table : Tabled) → IsFilledBut triggers pairs events hist all table
    → CanUpdate triggers events changes hist table × ((new : Tabled) → IsUpdated triggers events changes hist table new → IsFilledBut triggers pairs events hist ts new)
next_filled triggers pairs events hist t ts all more changes are table filled =
    let way : IsFilledBut triggers pairs events hist (t ∷ ts) table = subst (λ (us : List (ℕ × Hist)). IsFilledBut triggers pairs events hist us table) more filled in
    let over : (between : Findings) × (Lead (first_changes pairs t) way.0 between × Lead (flat_map (first_changes pairs) ts) between (all_found triggers pairs)) =
    lead_over (first_changes pairs t) (flat_map (first_changes pairs) ts) way.0 (all_found triggers pairs) way.1.0 in
    let lead : Lead changes way.0 over.0 = subst (λ (cs : List ReadingChange). Lead cs way.0 over.0) (sym are) over.1.0 in
    (record { found = way.0; now = over.0; lead = lead; made = way.1.1 }, λ new updated. (over.0, (over.1.1, updated way.0 over.0 lead way.1.1)))
