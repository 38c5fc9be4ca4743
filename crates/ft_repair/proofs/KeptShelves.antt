-- What kept shelves hold is what replaying gives: told place by place, both say what the acts say, and that is one thing. So what stays in replays stays on shelves.
use Rattle.std.proofs.Common.{◌≡◌, ℕ, Bool, true, false, cond, List, [], refl, sym, ap, subst, ◌∙◌, Some, None, Option, eqb-true, true≢false, unwrap_or, ⊎_elim}
use Rattle.std.specs.Prelude.{◌==◌, IsSome, option_map, option_and_then, ◌&&◌, false}
use Rattle.std.specs.FinMap as map
use Rattle.ft_maps.proofs.Common.{cond_same}
use Rattle.ft_fields.specs.Parts.{same_key}
use Rattle.ft_fields.specs.Ties.{key_same}
use Rattle.ft_hist.specs.Fitting.{KeyFits}
use Rattle.ft_hits.specs.declared.mark.Mark.{Mark}
use Rattle.ft_pairs.specs.Source.{Ops, IsSource}
use Rattle.ft_pairs.specs.declared.at.Op.{Op}
use Rattle.ft_table.specs.Hits.{Hits, AreTraced}
use Rattle.ft_table.specs.Spots.{IsMade, traced}
use Rattle.ft_kept.specs.Shelves.{is_saver, admits_on, Kept, kept_on, Shelved, Shelves}
use Rattle.ft_base.specs.Roles.{saver_of, is_reader, role_at, role_of}
use Rattle.ft_replay.specs.Hits.{TriggerHit, found_at, hit_at, read_as, replayed_hits, table_for}
use Rattle.ft_replay.specs.Found.{values_found, saving_found, pairs_in}
use Rattle.ft_replay.specs.Operations.{is_admitted, ops_on}
use Rattle.ft_replay.specs.Replay.{replay}
use Rattle.ft_replay.proofs.Listed.{get-replayed_hits, values_under}
use Rattle.ft_replay.proofs.Matched.{matched}
use Rattle.ft_repair.proofs.Alike.{entry_moves, same_values, op_stays_there, acts_same, no_op_of, rest_same}
use Rattle.ft_table.specs.Growth.{InGrows, RowsGrow, TotalsGrow}
use Rattle.ft_table.specs.Rows.{AllFit}
use Rattle.ft_replay.specs.Tally.{tally_of}
use Rattle.ft_replay.proofs.KeptMaps.{pairs-are, values-are}
use Rattle.ft_replay.proofs.Replaying.{admitted-in, tally-replayed}
use Rattle.ft_kept.proofs.Forms.{admits_by, hits_by, read_by}
use Rattle.ft_repair.proofs.Families.{attached_as, role_there, saves_some, not_reads, reads_from_is, reads_some}
use Rattle.ft_repair.proofs.KeptFor.{its_shelf, own_shelf}
use Rattle.ft_hist.specs.declared.label.Var.{Var}
use Rattle.ft_hist.specs.declared.label.Var.TheVariants as vars
use Rattle.ft_base.specs.OneTrigger.{GetsFilter, reads_from}
use Rattle.ft_base.specs.Base.{Base, Triggers}
use Rattle.ft_fields.specs.Places.{pos_cmp_total, pos_same}
use Rattle.ft_fields.specs.Traced.{Traced}
use Rattle.ft_fields.specs.declared.key.Part.{Part}
use Rattle.ft_fields.specs.declared.pos.Pos.{Pos}
use Rattle.ft_hist.specs.Hist.{Hist}
use Rattle.ft_hist.specs.Hit.{hit}
use Rattle.ft_kept.specs.Acts.{Acts, acts_of, op_of}
use Rattle.ft_kept.specs.Entries.{Finds, hits_here, HitsHere, IsEntry, IsRight, one_hit, read_here}
use Rattle.ft_kept.specs.Views.{act_under}
use Rattle.ft_lanes.specs.Held.{Lanes}
use Rattle.ft_maps.specs.Entries.{same_from_tie}
use Rattle.ft_pairs.specs.Roles.{op_as}
use Rattle.ft_pairs.specs.declared.at.At.{At}
use Rattle.ft_pairs.specs.declared.role.Role.{Role}
use Rattle.ft_pairs.specs.declared.role.Role.TheVariants.{Plain, Reads, Saves}
use Rattle.ft_pairs.specs.declared.role.Variable.{Variable}
use Rattle.ft_repair.specs.KeptShelves.{AreKept, AreKeptOf}
use Rattle.ft_replay.specs.Merged.{Events, merged}
use Rattle.ft_table.specs.Tabled.{is_in, Tabled}
use Rattle.ft_table.specs.Values.{values_at, values_by, ValuesBy}
use Rattle.std.proofs.lemmas.Bool.{cases_eq, eq-eqb, eqb-false}
use Rattle.std.specs.FinMap.{same_map}
use Rattle.std.specs.Option.{option_map_or}
use Rattle.ft_repair.specs.Staying.{IsReadAlike, ReadsAsBefore}

-- ---- spots

-- the mark of a hit of an event of the trace
abbrev pub mark_at : Pos → List Part → Mark
mark_at pos key = record { spot = traced pos; key = key }

-- a mark is such a one, or a trigger made the event
pub each_mark : (P : Mark → Type 0) → ((pos : Pos) (key : List Part) → P (mark_at pos key)) → ((m : Mark) → IsMade m.spot → P m) → (m : Mark) → P m
each_mark P own made m = from (m.spot.maker == 0) refl
  where
    from : (b : Bool) → (m.spot.maker == 0) ≡ b → P m
    from true e = subst (λ n. P (record { spot = record { pos = m.spot.pos; maker = n }; key = m.key })) (sym (eqb-true m.spot.maker 0 e)) (own m.spot.pos m.key)
    from false e = made m (eqb-false m.spot.maker 0 e)

module _ (triggers : Triggers) (events : Events) (id : ℕ) where
  -- no hit in a replay is of an event that a trigger made
  none_made : (m : Mark) → IsMade m.spot → values_found triggers events id m ≡ None
  unfolding values_found
  none_made m made = from (m.spot.maker == 0) refl
    where
      from : (b : Bool) → (m.spot.maker == 0) ≡ b → values_under m.key (option_and_then (hit_at triggers events id) (cond b (Some m.spot.pos) None)) ≡ None
      from true e = absurd (made (eqb-true m.spot.maker 0 e))
      from false e = refl

  pub hits_traced : AreTraced (replayed_hits triggers events id)
  hits_traced m made = get-replayed_hits triggers events id m ∙ none_made m made

  -- hits of events of the trace are the replay's, if they are so at their spots
  pub hits_are : (hits : Hits) → AreTraced hits → ((pos : Pos) (key : List Part) → map.get hits (mark_at pos key) ≡ values_found triggers events id (mark_at pos key)) → hits ≡ replayed_hits triggers events id
  hits_are hits are_traced at = values-are triggers events id hits (each_mark (λ m. map.get hits m ≡ values_found triggers events id m) at (λ m made. are_traced m made ∙ sym (none_made m made)))

-- ---- the replay

-- the key of each hit fits the key items of its trigger
abbrev pub HitsFit : Type 0
HitsFit = (hist : Hist) (event : Traced) (parts : List Part) → hit hist event ≡ Some parts → KeyFits hist.keys parts

module _ (triggers : Triggers) (events : Events) where
  -- what replaying gives, as what is kept
  abbrev pub replayed : Kept
  replayed = record { hits = λ id mark. values_found triggers events id mark; ops = λ variable at. ops_on triggers events variable at; read = λ id pos. saving_found triggers events id pos }

  -- its operations are those of the acts
  pub replayed_ops : (variable : Variable) (at : At) → ops_on triggers events variable at ≡ op_of (role_at triggers) (is_admitted (replay triggers events)) (acts_of triggers events) variable at
  unfolding op_of acts_of ops_on
  replayed_ops variable at = by (map.get events at.pos) (map.get triggers at.trigger)
    where
      op : List Part → Option Op
      op = op_as (is_admitted (replay triggers events)) (role_at triggers at.trigger) variable at.trigger

      by : (event : Option Traced) (hist : Option Hist)
          → option_and_then (λ event. option_and_then (λ hist. option_and_then op (hit hist event)) hist) event
          ≡ option_and_then (λ (act : List Part × Traced). op act.0) (option_and_then (λ event. option_and_then (λ hist. act_under hist event) hist) event)
      by None hist = refl
      by (Some event) None = refl
      by (Some event) (Some hist) = elim (hit hist event) as (λ o. option_and_then op o ≡ option_and_then (λ (act : List Part × Traced). op act.0) (option_map (λ key. (key, event)) o)) [
        | None ↦ refl
        | Some key ↦ refl
      ]

  module _ (at : At) where
    -- the hit of a key that an event is, of a trigger with a role
    abbrev hit_with : Hist → Traced → List Part → Option Pos → TriggerHit
    hit_with hist event key saved = record { spot = traced at.pos; key = key; saved = saved; values = values_at hist at.pos event saved }

    abbrev hit_as : Role → Hist → Traced → List Part → Option TriggerHit
    hit_as role hist event key = option_map (hit_with hist event key) (read_as role (λ variable. found_at triggers events variable at) key)

    abbrev hit_by : Hist → Traced → Option TriggerHit
    hit_by hist event = option_and_then (hit_as (role_of triggers hist.variable) hist event) (hit hist event)

    -- a hit, or none, is what the act says
    abbrev IsSaid : Role → Option (List Part × Traced) → Option TriggerHit → Type 0
    IsSaid role act found = IsEntry (values_by triggers) (ops_on triggers events) at role act (λ key. values_under key found) (option_and_then (λ (f : TriggerHit). f.saved) found)

    module _ (hist : Hist) (attached : map.get triggers at.trigger ≡ Some hist) (event : Traced) where
      adds : (own : List Part) (saved : Option Pos) (key : List Part) → values_under key (Some (hit_with hist event own saved)) ≡ one_hit own (Some (values_by triggers at.trigger at.pos event saved)) key
      unfolding values_by
      adds own saved key = ap (λ (o : Option Hist). one_hit own (Some (option_map_or (λ h. values_at h at.pos event saved) o [])) key) (sym attached)

      of_key : (role : Role) (key : Option (List Part)) → IsSaid role (option_map (λ k. (k, event)) key) (option_and_then (hit_as role hist event) key)
      of_key role None = (refl, λ _. refl)
      of_key Plain (Some own) = (refl, adds own None)
      of_key Saves (Some own) = (refl, adds own None)
      of_key (Reads saver) (Some own) =
          let variable : Variable = record { saver = saver; key = own } in
          elim (found_at triggers events variable at) as (λ o. IsSource (ops_on triggers events variable) at (option_map (λ place. record { pos = place; trigger = saver }) o)
          → IsSaid (Reads saver) (Some (own, event)) (option_map (hit_with hist event own) (option_map (λ saved. Some saved) o))) [
            | None ↦ λ source. ((None, (source, refl)), λ key. sym (cond_same (same_key key own) None))
            | Some saved ↦ λ source. ((Some (record { pos = saved; trigger = saver }), (source, refl)), adds own (Some saved))
          ] (matched triggers events variable at)

    -- the key of a hit fits the trigger's key items
    pub key_fits : (hist : Hist) → map.get triggers at.trigger ≡ Some hist → HitsFit → (key : List Part) → IsSome (values_found triggers events at.trigger (mark_at at.pos key)) → KeyFits hist.keys key
    unfolding values_found hit_at
    key_fits hist attached fits key some = by_event (map.get events at.pos) (subst (λ (o : Option Hist). IsSome (values_under key (option_and_then (λ (e : Traced). option_and_then (λ (h : Hist). hit_by h e) o) (map.get events at.pos)))) attached some)
      where
        by_key : (event : Traced) (own : List Part) → KeyFits hist.keys own → (o : Option (Option Pos)) → IsSome (values_under key (option_map (hit_with hist event own) o)) → KeyFits hist.keys key
        by_key event own fit None some = absurd cc
        by_key event own fit (Some saved) some = elim (same_key key own) as (λ b. same_key key own ≡ b → IsSome (cond b (Some (values_at hist at.pos event saved)) None) → KeyFits hist.keys key) [
          | true ↦ λ tie _. subst (KeyFits hist.keys) (sym (same_from_tie key_same key own tie)) fit
          | false ↦ λ _ none. absurd cc
        ] refl some

        by_event : (event : Option Traced) → IsSome (values_under key (option_and_then (hit_by hist) event)) → KeyFits hist.keys key
        by_event None some = absurd cc
        by_event (Some event) some = elim (hit hist event) as (λ o. hit hist event ≡ o → IsSome (values_under key (option_and_then (hit_as (role_of triggers hist.variable) hist event) o)) → KeyFits hist.keys key) [
          | None ↦ λ _ none. absurd cc
          | Some own ↦ λ is. by_key event own (fits hist event own is) (read_as (role_of triggers hist.variable) (λ variable. found_at triggers events variable at) own)
        ] refl some

    -- and at each place it has what the act there says
    pub replayed_right : IsRight (role_at triggers) (values_by triggers) (acts_of triggers events) replayed at
    unfolding acts_of values_found saving_found hit_at role_at
    replayed_right = by (map.get triggers at.trigger) refl (map.get events at.pos)
      where
        by : (hist : Option Hist) → map.get triggers at.trigger ≡ hist → (event : Option Traced) → IsSaid
            (option_map_or (λ (h : Hist). role_of triggers h.variable) hist Plain)
            (option_and_then (λ (e : Traced). option_and_then (λ (h : Hist). act_under h e) hist) event)
            (option_and_then (λ (e : Traced). option_and_then (λ (h : Hist). hit_by h e) hist) event)
        by None attached None = (refl, λ _. refl)
        by None attached (Some event) = (refl, λ _. refl)
        by (Some hist) attached None = (refl, λ _. refl)
        by (Some hist) attached (Some event) = of_key hist attached event (role_of triggers hist.variable) (hit hist event)

-- ---- two tellings

-- what a reading finds is one thing
abbrev pub OneSource : Type 0
OneSource = (ops : Ops) (at : At) (a b : Option At) → IsSource ops at a → IsSource ops at b → a ≡ b

-- what an act says is one thing
one_entry : OneSource → (values : ValuesBy) (ops : Variable → Ops) (at : At) (role : Role) (act : Option (List Part × Traced)) (hits others : HitsHere) (read found : Option Pos)
    → IsEntry values ops at role act hits read → IsEntry values ops at role act others found → (found ≡ read) × ((key : List Part) → others key ≡ hits key)
one_entry one values ops at role None hits others read found is will = (will.0 ∙ sym is.0, λ key. will.1 key ∙ sym (is.1 key))
one_entry one values ops at Plain (Some act) hits others read found is will = (will.0 ∙ sym is.0, λ key. will.1 key ∙ sym (is.1 key))
one_entry one values ops at Saves (Some act) hits others read found is will = (will.0 ∙ sym is.0, λ key. will.1 key ∙ sym (is.1 key))
one_entry one values ops at (Reads saver) (Some act) hits others read found is will =
    let before : Finds (ops (record { saver = saver; key = act.0 })) at read = is.0 in
    let after : Finds (ops (record { saver = saver; key = act.0 })) at found = will.0 in
    let source : after.0 ≡ before.0 = one (ops (record { saver = saver; key = act.0 })) at after.0 before.0 after.1.0 before.1.0 in
    let same : found ≡ read = after.1.1 ∙ ap (option_map (λ (saved : At). saved.pos)) source ∙ sym before.1.1 in
    (same, λ key. will.1 key ∙ ap (λ (o : Option Pos). one_hit act.0 (option_map (λ (saved : Pos). values at.trigger at.pos act.1 (Some saved)) o) key) same ∙ sym (is.1 key))

-- a trigger that acts alike at a place, with its role, has the same there, if the operations on what it reads are the same
pub one_right : OneSource → (triggers others : Triggers) (acts more : Acts) (kept will : Kept) (at : At)
    → map.get others at.trigger ≡ map.get triggers at.trigger → role_at others at.trigger ≡ role_at triggers at.trigger → more at ≡ acts at
    → ((saver : ℕ) → role_at triggers at.trigger ≡ Reads saver → (key : List Part) → will.ops (record { saver = saver; key = key }) ≡ kept.ops (record { saver = saver; key = key }))
    → IsRight (role_at triggers) (values_by triggers) acts kept at → IsRight (role_at others) (values_by others) more will at
    → (read_here will at ≡ read_here kept at) × ((key : List Part) → hits_here will at key ≡ hits_here kept at key)
one_right one triggers others acts more kept will at hist role act ops is will_be =
    one_entry one (values_by others) will.ops at (role_at others at.trigger) (more at) (hits_here kept at) (hits_here will at) (read_here kept at) (read_here will at)
    (subst (λ (x : Role × Option (List Part × Traced)). IsEntry (values_by others) will.ops at x.0 x.1 (hits_here kept at) (read_here kept at)) (λ i. (sym role i, sym act i))
    (entry_moves at (values_by triggers) (values_by others) (same_values triggers others at.trigger hist) kept.ops will.ops (hits_here kept at) (read_here kept at) (role_at triggers at.trigger) (acts at) ops is))
    will_be

-- ---- kept shelves

-- what is known of tables that grow by hits, and of what readings find
pub record Grounds : Type 0 where
  pub rows : RowsGrow
  pub totals : TotalsGrow
  pub members : InGrows
  pub one : OneSource

module _ (grounds : Grounds) (triggers : Triggers) (events : Events) (shelves : Shelves) (kept : AreKept triggers events shelves) where
  -- the operations on what a trigger reads are those of the replay
  abbrev ReadsReplayed : ℕ → Type 0
  ReadsReplayed id = (saver : ℕ) → role_at triggers id ≡ Reads saver → (key : List Part)
      → ops_on triggers events (record { saver = saver; key = key }) ≡ (kept_on shelves).ops (record { saver = saver; key = key })

  -- then each place has what the replay has there
  entry : (at : At) → ReadsReplayed at.trigger
      → (saving_found triggers events at.trigger at.pos ≡ read_here (kept_on shelves) at) × ((key : List Part) → values_found triggers events at.trigger (mark_at at.pos key) ≡ hits_here (kept_on shelves) at key)
  entry at reads =
      one_right grounds.one triggers triggers (acts_of triggers events) (acts_of triggers events) (kept_on shelves) (replayed triggers events) at refl refl refl reads
      (kept.kept.entries at) (replayed_right triggers events at)

  module _ (id : ℕ) (hist : Hist) (shelf : Shelved) (attached : map.get triggers id ≡ Some hist) (there : map.get shelves id ≡ Some shelf) where
    table-with : ReadsReplayed id → shelf.table ≡ table_for hist (replayed_hits triggers events id)
    table-with reads =
        let own = own_shelf triggers shelves kept.each id hist shelf attached there in
        let hits = hits_are triggers events id shelf.table.hits own.traced (λ pos key. sym (hits_by shelves id (Some shelf) there (mark_at pos key)) ∙ sym ((entry (record { pos = pos; trigger = id }) reads).1 key)) in
        λ i. record { hits = hits i; size = own.size i }

    readings-with : ReadsReplayed id → (pos : Pos) → map.get shelf.readings pos ≡ saving_found triggers events id pos
    readings-with reads pos = sym (read_by shelves id (Some shelf) there pos) ∙ sym (entry (record { pos = pos; trigger = id }) reads).0

  -- savers read nothing, so what they admit needs no operations
  admitted : (id : ℕ) → role_at triggers id ≡ Saves → (key : List Part) → is_admitted (replay triggers events) id key ≡ admits_on shelves id key
  admitted id saves key =
      let attached = attached_as triggers id (saves_some (role_at triggers id) saves) in
      let has = its_shelf triggers shelves kept.each id attached.0 attached.1 in
      let table = table-with id attached.0 has.0 attached.1 has.1.0 (λ saver reads. let both : ◌≡◌ {A = Role} Saves (Reads saver) = sym saves ∙ reads in absurd cc) in
      let role : has.0.role ≡ Saves = has.1.1.role ∙ sym (role_there triggers id attached.0 attached.1) ∙ saves in
      admitted-in grounds.rows grounds.totals grounds.members triggers events id attached.0 attached.1 key
      ∙ (λ i. is_saver (sym role i) && is_in (sym table i) key)
      ∙ sym (admits_by shelves id (Some has.0) has.1.0 key)

  -- so the operations that are kept are those of the whole replay
  pub ops-on : (variable : Variable) (at : At) → (kept_on shelves).ops variable at ≡ ops_on triggers events variable at
  ops-on variable at =
      kept.kept.ops variable at
      ∙ sym (op_stays_there (role_at triggers) (role_at triggers) (admits_on shelves) (is_admitted (replay triggers events)) (acts_of triggers events) (acts_of triggers events) variable at refl refl (λ saves _. admitted at.trigger saves))
      ∙ sym (replayed_ops triggers events variable at)

  reads_replayed : (id : ℕ) → ReadsReplayed id
  reads_replayed id saver _ key i at = sym (ops-on (record { saver = saver; key = key }) at) i

  module _ (id : ℕ) (hist : Hist) (shelf : Shelved) (attached : map.get triggers id ≡ Some hist) (there : map.get shelves id ≡ Some shelf) where
    -- a shelf's table is the one that replaying fills
    pub table-of : shelf.table ≡ table_for hist (replayed_hits triggers events id)
    table-of = table-with id hist shelf attached there (reads_replayed id)

    -- its readings found there what is kept of them
    pub readings-are : (pos : Pos) → map.get shelf.readings pos ≡ saving_found triggers events id pos
    readings-are = readings-with id hist shelf attached there (reads_replayed id)

    -- it gives the tally that replaying gives
    pub tally-on : map.get (replay triggers events).tallies id ≡ Some (tally_of shelf.table (pairs_in shelf.readings))
    tally-on =
        tally-replayed grounds.rows grounds.totals grounds.members triggers events id hist attached
        ∙ (λ i. Some (tally_of (sym table-of i) (sym (pairs-are triggers events id shelf.readings readings-are) i)))

    -- and the keys of its hits fit the trigger's key items
    pub fit-on : HitsFit → AllFit shelf.table hist
    fit-on fits mark is = each_mark (λ m. IsSome (map.get (replayed_hits triggers events id) m) → KeyFits hist.keys m.key)
        (λ pos key some. key_fits triggers events (record { pos = pos; trigger = id }) hist attached fits key (subst IsSome (get-replayed_hits triggers events id (mark_at pos key)) some))
        (λ m made some. let none = subst IsSome (hits_traced triggers events id m made) some in absurd cc) mark (subst (λ (t : Tabled). IsSome (map.get t.hits mark)) table-of is)

-- ---- what stays, by whatever triggers beside it the shelves are kept

-- a trigger that reads nothing has one role
quiet_role : (triggers others : Triggers) (variable : Option Var) → is_reader variable ≡ false → role_of others variable ≡ role_of triggers variable
quiet_role triggers others None quiet = refl
quiet_role triggers others (Some (vars.Saves label)) quiet = refl
quiet_role triggers others (Some (vars.Reads own source)) quiet = let both : ◌≡◌ {A = Bool} true false = quiet in absurd cc

-- one that saves reads nothing
saves_quiet : (triggers : Triggers) (variable : Option Var) → role_of triggers variable ≡ Saves → is_reader variable ≡ false
saves_quiet triggers None saves = refl
saves_quiet triggers (Some (vars.Saves label)) saves = refl
saves_quiet triggers (Some (vars.Reads own source)) saves = let both : ◌≡◌ {A = Role} (Reads (unwrap_or (saver_of triggers source) 0)) Saves = saves in absurd cc

-- what is read by a trigger of a role
reads_one : (saver : ℕ) (role : Role) → reads_from saver role ≡ false → role ≡ Reads saver → ⊥
reads_one saver role other reads = true≢false (sym (ap (reads_from saver) reads ∙ eq-eqb saver saver refl) ∙ other)

-- in replays

module _ (grounds : Grounds) (triggers others : Triggers) (events : Events) where
  -- a trigger stays, with its role, and so do the operations on what it reads
  pub record Stays (id : ℕ) (hist : Hist) : Type 0 where
    pub had : map.get triggers id ≡ Some hist
    pub has : map.get others id ≡ Some hist
    pub role : role_at others id ≡ role_at triggers id
    pub reads : (saver : ℕ) → role_at triggers id ≡ Reads saver → (key : List Part) → ops_on others events (record { saver = saver; key = key }) ≡ ops_on triggers events (record { saver = saver; key = key })

  module _ {id : ℕ} {hist : Hist} (stays : Stays id hist) where
    same_there : map.get others id ≡ map.get triggers id
    same_there = stays.has ∙ sym stays.had

    pub same_entry : (pos : Pos) → (saving_found others events id pos ≡ saving_found triggers events id pos) × ((key : List Part) → values_found others events id (mark_at pos key) ≡ values_found triggers events id (mark_at pos key))
    same_entry pos =
        let at : At = record { pos = pos; trigger = id } in
        one_right grounds.one triggers others (acts_of triggers events) (acts_of others events) (replayed triggers events) (replayed others events) at
        same_there stays.role (acts_same triggers others events at same_there) stays.reads (replayed_right triggers events at) (replayed_right others events at)

    pub same_hits : replayed_hits others events id ≡ replayed_hits triggers events id
    same_hits = hits_are triggers events id (replayed_hits others events id) (hits_traced others events id) (λ pos key. get-replayed_hits others events id (mark_at pos key) ∙ (same_entry pos).1 key)

    -- it admits the keys that it admitted
    same_keys : (key : List Part) → is_admitted (replay others events) id key ≡ is_admitted (replay triggers events) id key
    same_keys key =
        admitted-in grounds.rows grounds.totals grounds.members others events id hist stays.has key
        ∙ (λ i. is_in (table_for hist (same_hits i)) key)
        ∙ sym (admitted-in grounds.rows grounds.totals grounds.members triggers events id hist stays.had key)

  -- one that reads nothing stays by itself
  pub quiet_stays : (id : ℕ) (hist : Hist) → map.get triggers id ≡ Some hist → map.get others id ≡ Some hist → is_reader hist.variable ≡ false → Stays id hist
  quiet_stays id hist attached still quiet = record {
    had = attached;
    has = still;
    role = role_there others id hist still ∙ quiet_role triggers others hist.variable quiet ∙ sym (role_there triggers id hist attached);
    reads = λ saver is. absurd (not_reads triggers hist.variable quiet saver (sym (role_there triggers id hist attached) ∙ is));
  }

  module _ (saver : ℕ) (alike : IsReadAlike triggers others saver) where
    abbrev variable : List Part → Variable
    variable key = record { saver = saver; key = key }

    -- who reads it now read it before
    reads_now : (id : ℕ) → role_at triggers id ≡ Reads saver → role_at others id ≡ Reads saver
    reads_now id reads = reads_from_is saver (role_at others id) (alike.readers id ∙ ap (reads_from saver) reads ∙ eq-eqb saver saver refl)

    -- who saves it reads nothing
    quiet_saver : (some : Triggers) → role_at some saver ≡ Saves → (hist : Hist) × ((map.get some saver ≡ Some hist) × (is_reader hist.variable ≡ false))
    quiet_saver some saves =
        let its = attached_as some saver (saves_some (role_at some saver) saves) in
        (its.0, (its.1, saves_quiet some its.0.variable (sym (role_there some saver its.0 its.1) ∙ saves)))

    saver_stays : role_at triggers saver ≡ Saves → (hist : Hist) × Stays saver hist
    saver_stays saves = let its = quiet_saver triggers saves in (its.0, quiet_stays saver its.0 its.1.0 (alike.own ∙ its.1.0) its.1.1)

    -- who saves it now saved it before
    saves_before : role_at others saver ≡ Saves → role_at triggers saver ≡ Saves
    saves_before saves =
        let its = quiet_saver others saves in
        let stays = quiet_stays saver its.0 (sym alike.own ∙ its.1.0) its.1.0 its.1.1 in
        sym stays.role ∙ saves

    abbrev OpStays : List Part → At → Type 0
    OpStays key at = op_of (role_at others) (is_admitted (replay others events)) (acts_of others events) (variable key) at
        ≡ op_of (role_at triggers) (is_admitted (replay triggers events)) (acts_of triggers events) (variable key) at

    op_there : (key : List Part) (at : At) → role_at others at.trigger ≡ role_at triggers at.trigger → map.get others at.trigger ≡ map.get triggers at.trigger
        → (role_at triggers at.trigger ≡ Saves → (k : List Part) → is_admitted (replay others events) at.trigger k ≡ is_admitted (replay triggers events) at.trigger k) → OpStays key at
    op_there key at role there admits =
        op_stays_there (role_at triggers) (role_at others) (is_admitted (replay triggers events)) (is_admitted (replay others events)) (acts_of triggers events) (acts_of others events) (variable key) at
        role (acts_same triggers others events at there) (λ saves _. admits saves)

    -- who neither saves nor reads it does nothing to it
    op_none : (key : List Part) (at : At) → (at.trigger ≡ saver → role_at triggers at.trigger ≡ Saves → ⊥) → reads_from saver (role_at triggers at.trigger) ≡ false → OpStays key at
    op_none key at unsaved unread =
        no_op_of (role_at others) (is_admitted (replay others events)) (acts_of others events) (variable key) at
        (λ saves same. unsaved same (subst (λ (k : ℕ). role_at others k ≡ Saves → role_at triggers k ≡ Saves) (sym same) saves_before saves)) (reads_one saver (role_at others at.trigger) (alike.readers at.trigger ∙ unread))
        ∙ sym (no_op_of (role_at triggers) (is_admitted (replay triggers events)) (acts_of triggers events) (variable key) at (λ saves same. unsaved same saves) (reads_one saver (role_at triggers at.trigger) unread))

    pub op_stays : (key : List Part) (at : At) → ops_on others events (variable key) at ≡ ops_on triggers events (variable key) at
    op_stays key at = replayed_ops others events (variable key) at ∙ by_role (role_at triggers at.trigger) refl ∙ sym (replayed_ops triggers events (variable key) at)
      where
        reads : role_at triggers at.trigger ≡ Reads saver → OpStays key at
        reads is = op_there key at (reads_now at.trigger is ∙ sym is) (alike.stay at.trigger (ap (reads_from saver) is ∙ eq-eqb saver saver refl))
            (λ saves. let both : ◌≡◌ {A = Role} Saves (Reads saver) = sym saves ∙ is in absurd cc)

        saves : role_at triggers at.trigger ≡ Saves → at.trigger ≡ saver → OpStays key at
        saves is same =
            let its = saver_stays (subst (λ (k : ℕ). role_at triggers k ≡ Saves) same is) in
            let stays : Stays at.trigger its.0 = subst (λ (k : ℕ). Stays k its.0) (sym same) its.1 in
            op_there key at stays.role (same_there stays) (λ _. same_keys stays)

        by_role : (role : Role) → role_at triggers at.trigger ≡ role → OpStays key at
        by_role Plain is = op_none key at (λ _ other. let both : ◌≡◌ {A = Role} Plain Saves = sym is ∙ other in absurd cc) (ap (reads_from saver) is)
        by_role Saves is = ⊎_elim (saves is) (λ apart. op_none key at (λ same _. apart same) (ap (reads_from saver) is)) (cases_eq at.trigger saver)
        by_role (Reads other) is = elim (other == saver) as (λ (b : Bool). (other == saver) ≡ b → OpStays key at) [
          | true ↦ λ same. reads (is ∙ ap (λ (k : ℕ). Reads k) (eqb-true other saver same))
          | false ↦ λ apart. op_none key at (λ _ saved. let both : ◌≡◌ {A = Role} (Reads other) Saves = sym is ∙ saved in absurd cc) (ap (reads_from saver) is ∙ apart)
        ] refl

    pub reader_stays : (id : ℕ) → role_at triggers id ≡ Reads saver → (hist : Hist) × Stays id hist
    reader_stays id reads =
        let attached = attached_as triggers id (reads_some (role_at triggers id) saver reads) in (
          attached.0,
          record {
            had = attached.1;
            has = alike.stay id (ap (reads_from saver) reads ∙ eq-eqb saver saver refl) ∙ attached.1;
            role = reads_now id reads ∙ sym reads;
            reads = λ other is.
                let same : saver ≡ other = let both : ◌≡◌ {A = Role} (Reads saver) (Reads other) = sym reads ∙ is in cc in
                subst (λ (k : ℕ). (key : List Part) → ops_on others events (record { saver = k; key = key }) ≡ ops_on triggers events (record { saver = k; key = key })) same (λ key i at. op_stays key at i);
          },
        )

-- on shelves

module _ (grounds : Grounds) (triggers others : Triggers) (events : Events) (old new : Shelves) (kept : AreKept triggers events old) (will : AreKept others events new) where
  pub ops_stay : (saver : ℕ) → IsReadAlike triggers others saver → (key : List Part) (at : At) → (kept_on new).ops (record { saver = saver; key = key }) at ≡ (kept_on old).ops (record { saver = saver; key = key }) at
  ops_stay saver alike key at =
      let variable : Variable = record { saver = saver; key = key } in
      ops-on grounds others events new will variable at ∙ op_stays grounds triggers others events saver alike key at ∙ sym (ops-on grounds triggers events old kept variable at)

  shelf_stays : (id : ℕ) (hist : Hist) → Stays grounds triggers others events id hist → ReadsAsBefore id old new
  shelf_stays id hist stays shelf its there is = (
    table-of grounds others events new will id hist its stays.has is ∙ ap (table_for hist) (same_hits grounds triggers others events stays) ∙ sym (table-of grounds triggers events old kept id hist shelf stays.had there),
    same_map pos_cmp_total pos_same its.readings shelf.readings (λ pos.
        readings-are grounds others events new will id hist its stays.has is pos
        ∙ (same_entry grounds triggers others events stays pos).0
        ∙ sym (readings-are grounds triggers events old kept id hist shelf stays.had there pos)),
  )

  pub quiet_shelf : (id : ℕ) (hist : Hist) → map.get triggers id ≡ Some hist → map.get others id ≡ Some hist → is_reader hist.variable ≡ false → ReadsAsBefore id old new
  quiet_shelf id hist attached still quiet = shelf_stays id hist (quiet_stays grounds triggers others events id hist attached still quiet)

  pub reader_shelf : (saver : ℕ) → IsReadAlike triggers others saver → (id : ℕ) → role_at triggers id ≡ Reads saver → ReadsAsBefore id old new
  reader_shelf saver alike id reads = let stays = reader_stays grounds triggers others events saver alike id reads in shelf_stays id stays.0 stays.1

-- another filter of a trigger that neither saves what is read nor reads it leaves the saver and its readers as they are
pub filter_alike : (id : ℕ) (base changed : Base) → GetsFilter id base changed → (saver : ℕ) → (saver ≡ id → ⊥) → (role_at base.triggers id ≡ Reads saver → ⊥) → IsReadAlike base.triggers changed.triggers saver
filter_alike id base changed gets saver apart unread = record {
  own = same saver apart;
  readers = λ other. ap (reads_from saver) (gets.roles other);
  stay = λ other reads. same other (λ is. unread (subst (λ (k : ℕ). role_at base.triggers k ≡ Reads saver) is (reads_from_is saver (role_at base.triggers other) reads)));
}
  where
    same : (other : ℕ) → (other ≡ id → ⊥) → map.get changed.triggers other ≡ map.get base.triggers other
    same other other_apart = sym (rest_same changed.triggers id other other_apart) ∙ ap (λ (t : Triggers). map.get t other) gets.others ∙ rest_same base.triggers id other other_apart

module _ (grounds : Grounds) (id : ℕ) (base changed : Base) (gets : GetsFilter id base changed) (old new : Shelves) (kept : AreKeptOf base old) (will : AreKeptOf changed new)
    (saver : ℕ) (apart : saver ≡ id → ⊥) (unread : role_at base.triggers id ≡ Reads saver → ⊥) (reader : ℕ) (reads : role_at base.triggers reader ≡ Reads saver) where
  then : AreKept changed.triggers (merged base.lanes) new
  then = subst (λ (lanes : Lanes). AreKept changed.triggers (merged lanes) new) gets.lanes will

  pub filter_stays : ReadsAsBefore reader old new
  filter_stays = reader_shelf grounds base.triggers changed.triggers (merged base.lanes) old new kept then saver (filter_alike id base changed gets saver apart unread) reader reads
