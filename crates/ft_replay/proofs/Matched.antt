-- A reading finds the last operation before it, if that is a saving; so it finds none that is later.
use Rattle.std.proofs.Common.{◌≡◌, ℕ, ◌≤◌, Bool, true, false, cond, List, [], ◌∷◌, refl, sym, ap, subst, ◌∙◌, Some, None, Option}
use Rattle.std.specs.Prelude.{fold, filter, option_map, option_and_then, ⊤}
use Rattle.std.specs.List.{All, cons_option, filter_map}
use Rattle.std.specs.Option.{option_map_or}
use Rattle.std.specs.declared.cmp.Ordering.{Ordering}
use Rattle.std.specs.declared.cmp.Ordering.TheVariants.{Less, Equal, Greater}
use Rattle.std.specs.Ordering.{nat_cmp, eq_by_cmp, is_gt, ordering_then}
use Rattle.std.specs.FinMap as map
use Rattle.std.proofs.lemmas.List.Elements.{All-nil, All-cons}
use Rattle.std.proofs.lemmas.Map.Keys.{le_from_not_gt}
use Rattle.ft_fields.specs.Traced.{Traced}
use Rattle.ft_fields.specs.declared.pos.Pos.{Pos}
use Rattle.ft_fields.specs.declared.key.Part.{Part}
use Rattle.ft_hist.specs.Hist.{Hist}
use Rattle.ft_hist.specs.Hit.{hit}
use Rattle.ft_maps.specs.Entries.{same_from_tie}
use Rattle.ft_pairs.specs.declared.at.At.{At}
use Rattle.ft_pairs.specs.declared.at.Op.{Op}
use Rattle.ft_pairs.specs.declared.at.Op.TheVariants.{Save, Read}
use Rattle.ft_pairs.specs.Order.{at_cmp}
use Rattle.ft_pairs.specs.Source.{Ops, IsLastBefore, IsSource}
use Rattle.ft_replay.specs.declared.pair.Pair.{Pair}
use Rattle.ft_pairs.specs.declared.role.Role.{Role}
use Rattle.ft_pairs.specs.declared.role.Role.TheVariants.{Plain, Saves, Reads}
use Rattle.ft_pairs.specs.declared.role.Variable.{Variable}
use Rattle.ft_table.specs.Spots.{traced}
use Rattle.ft_base.specs.Base.{Triggers}
use Rattle.ft_replay.specs.Merged.{Events}
use Rattle.ft_replay.specs.Hits.{TriggerHit, found_at, read_as, hit_at, trigger_hits, pair_of, pairs_of}
use Rattle.ft_replay.specs.Operations.{is_admitted, ops_on}
use Rattle.ft_pairs.specs.Roles.{op_as}
use Rattle.ft_replay.specs.Replay.{replay}
use Rattle.ft_table.specs.Values.{values_at}
use Rattle.ft_base.specs.Roles.{role_of, role_at}
use Rattle.ft_replay.specs.Tally.{Tally, empty_tally}
use Rattle.ft_pairs.specs.Variables.{variable_cmp, variable_same}
use Rattle.ft_replay.proofs.Acts.{Act, made, act_of, acts_in, is_before, size_at, growth_at, admits, left_as, left, left_before}
use Rattle.ft_replay.proofs.ActAt.{act_found}
use Rattle.ft_replay.proofs.Acting.{acts_sorted}
use Rattle.ft_replay.proofs.Reached.{found_at-is}
use Rattle.ft_replay.proofs.OneByOne.{tells, tallies-are}
use Rattle.ft_replay.proofs.Sources.{effect, ops_in, turn, sourced}
use Rattle.ft_replay.proofs.Telling.{savers_told}

module _ (triggers : Triggers) (events : Events) where
  abbrev acts : List Act
  acts = acts_in triggers events

  abbrev admitted : ℕ → List Part → Bool
  admitted = admits (size_at triggers) (role_at triggers) (growth_at triggers) acts

  -- a saver's key is admitted, by the saver's own hits alone, exactly if it is in the saver's table
  admitted-is : (id : ℕ) (hist : Hist) → map.get triggers id ≡ Some hist → role_at triggers id ≡ Saves → (key : List Part) → admitted id key ≡ is_admitted (replay triggers events) id key
  unfolding admits is_admitted
  admitted-is id hist attached saves key = sym (
      ap (λ (o : Option Tally). option_map_or (λ tally. map.contains_key tally.table key) o false)
      (tallies-are triggers events id ∙ ap (option_map (λ h. fold (tells triggers events id) empty_tally acts)) attached)
      ∙ ap (λ (t : Tally). map.contains_key t.table key) (savers_told (size_at triggers) (role_at triggers) (growth_at triggers) acts id saves empty_tally acts))

  module _ (variable : Variable) where
    abbrev op : Act → Option Op
    op a = op_as admitted (role_at triggers a.at.trigger) variable a.at.trigger a.key

    -- the saving at a place
    abbrev saving : Option Pos → Option At
    saving = option_map (λ place. record { pos = place; trigger = variable.saver })

    abbrev leaves_as : Role → Option Pos → Act → Option Pos
    leaves_as r old a = left_as (size_at triggers) (role_at triggers) (growth_at triggers) acts r variable old a

    turned_as : (r : Role) (old : Option Pos) (a : Act) → saving (leaves_as r old a) ≡ option_map_or (λ w. effect w a) (op_as admitted r variable a.at.trigger a.key) (saving old)
    turned_as Plain old a = refl
    turned_as Saves old a = elim (eq_by_cmp variable_cmp variable (record { saver = a.at.trigger; key = a.key })) as (λ b. eq_by_cmp variable_cmp variable (record { saver = a.at.trigger; key = a.key }) ≡ b
        → saving (cond b (cond (admitted a.at.trigger a.key) (Some a.at.pos) old) old) ≡ option_map_or (λ w. effect w a) (cond b (cond (admitted a.at.trigger a.key) (Some Save) None) None) (saving old)) [
          | true ↦ λ tie. elim (admitted a.at.trigger a.key) as (λ b. saving (cond b (Some a.at.pos) old) ≡ option_map_or (λ w. effect w a) (cond b (Some Save) None) (saving old)) [
            | true ↦ ap (λ (v : Variable). Some (record { pos = a.at.pos; trigger = v.saver })) (same_from_tie variable_same variable (record { saver = a.at.trigger; key = a.key }) tie)
            | false ↦ refl
          ]
          | false ↦ λ _. refl
        ] refl
    turned_as (Reads saver) old a = elim (eq_by_cmp variable_cmp variable (record { saver = saver; key = a.key })) as (λ b. saving (cond b None old) ≡ option_map_or (λ w. effect w a) (cond b (Some Read) None) (saving old)) [
      | true ↦ refl
      | false ↦ refl
    ]

    turned : (old : Option Pos) (xs : List Act) → saving (fold (left (size_at triggers) (role_at triggers) (growth_at triggers) acts variable) old xs) ≡ fold (turn op) (saving old) xs
    turned old [] = refl
    turned old (a ∷ xs) = turned (leaves_as (role_at triggers a.at.trigger) old a) xs ∙ ap (λ (o : Option At). fold (turn op) o xs) (turned_as (role_at triggers a.at.trigger) old a)

    op_same : (id : ℕ) (hist : Hist) → map.get triggers id ≡ Some hist → (key : List Part) → op_as admitted (role_at triggers id) variable id key ≡ op_as (is_admitted (replay triggers events)) (role_at triggers id) variable id key
    op_same id hist attached key = elim (role_at triggers id) as (λ r. role_at triggers id ≡ r → op_as admitted r variable id key ≡ op_as (is_admitted (replay triggers events)) r variable id key) [
      | Plain ↦ λ _. refl
      | Saves ↦ λ saves. ap (λ b. cond (eq_by_cmp variable_cmp variable (record { saver = id; key = key })) (cond b (Some Save) None) None) (admitted-is id hist attached saves key)
      | Reads s ↦ λ _. refl
    ] refl

    ops-are : (q : At) → ops_in op acts q ≡ ops_on triggers events variable q
    unfolding ops_on
    ops-are q = ap (option_and_then op) (act_found q triggers events) ∙ elim (map.get events q.pos) as (λ o.
        option_and_then op (option_and_then (λ event. option_and_then (λ hist. act_of (q.pos, event) (q.trigger, hist)) (map.get triggers q.trigger)) o)
        ≡ option_and_then (λ event. option_and_then (λ hist. option_and_then (op_as (is_admitted (replay triggers events)) (role_at triggers q.trigger) variable q.trigger) (hit hist event)) (map.get triggers q.trigger)) o) [
          | None ↦ refl
          | Some event ↦ elim (map.get triggers q.trigger) as (λ o. map.get triggers q.trigger ≡ o
              → option_and_then op (option_and_then (λ hist. act_of (q.pos, event) (q.trigger, hist)) o)
              ≡ option_and_then (λ hist. option_and_then (op_as (is_admitted (replay triggers events)) (role_at triggers q.trigger) variable q.trigger) (hit hist event)) o) [
                | None ↦ λ _. refl
                | Some hist ↦ λ attached. elim (hit hist event) as (λ o.
                    option_and_then op (option_map (made (q.pos, event) q.trigger) o) ≡ option_and_then (op_as (is_admitted (replay triggers events)) (role_at triggers q.trigger) variable q.trigger) o) [
                      | None ↦ refl
                      | Some key ↦ op_same q.trigger hist attached key
                    ]
              ] refl
        ]

    -- what a reading at a place finds is the last operation before it, if that is a saving
    pub matched : (at : At) → IsSource (ops_on triggers events variable) at (option_map (λ place. record { pos = place; trigger = variable.saver }) (found_at triggers events variable at))
    unfolding left_before
    matched at =
        subst (IsSource (ops_on triggers events variable) at) (sym (ap saving (found_at-is triggers at events variable) ∙ turned None (filter (is_before at) acts)))
        (subst (λ (ops : Ops). IsSource ops at (fold (turn op) None (filter (is_before at) acts))) (λ i q. ops-are q i)
        (sourced op acts (acts_sorted triggers events) at))

  -- ---- a saving stands before the reading that finds it

  not_later : (o r : Ordering) → ordering_then o r ≡ Less → is_gt o ≡ false
  not_later Less r h = refl
  not_later Equal r h = refl
  not_later Greater r h = ap is_gt h

  stamps : (p q : At) → at_cmp p q ≡ Less → p.pos.stamp ≤ q.pos.stamp
  stamps p q h = le_from_not_gt p.pos.stamp q.pos.stamp (not_later _ _ (by_pos (nat_cmp p.pos.stamp q.pos.stamp) _ _ h))
    where
      by_pos : (o r s : Ordering) → ordering_then (ordering_then o r) s ≡ Less → ordering_then o (ordering_then r s) ≡ Less
      by_pos Less r s h = refl
      by_pos Equal r s h = h
      by_pos Greater r s h = h

  found_first : (variable : Variable) (at : At) (saved : Pos) → found_at triggers events variable at ≡ Some saved → saved.stamp ≤ at.pos.stamp
  found_first variable at saved is =
      let last : IsLastBefore (ops_on triggers events variable) at (record { pos = saved; trigger = variable.saver }) Save =
      subst (λ o. IsSource (ops_on triggers events variable) at (option_map (λ place. record { pos = place; trigger = variable.saver }) o)) is (matched variable at)
      in
      stamps (record { pos = saved; trigger = variable.saver }) at last.before

  -- what a hit read, if it read, stands before it
  abbrev IsAfter : Pos → Option Pos → Type 0
  IsAfter read None = ⊤
  IsAfter read (Some saved) = saved.stamp ≤ read.stamp

  abbrev HitIsAfter : Option TriggerHit → Type 0
  HitIsAfter None = ⊤
  HitIsAfter (Some found) = IsAfter found.spot.pos found.saved

  module _ (id : ℕ) where
    -- the hit of a trigger with a role at an event with a key
    abbrev hit_as : Pos → Hist → Traced → List Part → Role → Option TriggerHit
    hit_as at hist event key r = option_map (λ saved. record { spot = traced at; key = key; saved = saved; values = values_at hist at event saved })
        (read_as r (λ variable. found_at triggers events variable (record { pos = at; trigger = id })) key)

    role_after : (at : Pos) (hist : Hist) (event : Traced) (key : List Part) (r : Role) → HitIsAfter (hit_as at hist event key r)
    role_after at hist event key Plain = tt
    role_after at hist event key Saves = tt
    role_after at hist event key (Reads saver) = elim (found_at triggers events (record { saver = saver; key = key }) (record { pos = at; trigger = id })) as (λ o.
        found_at triggers events (record { saver = saver; key = key }) (record { pos = at; trigger = id }) ≡ o
        → HitIsAfter (option_map (λ saved. record { spot = traced at; key = key; saved = saved; values = values_at hist at event saved }) (option_map (λ saved. Some saved) o))) [
          | None ↦ λ _. tt
          | Some saved ↦ λ is. found_first (record { saver = saver; key = key }) (record { pos = at; trigger = id }) saved is
        ] refl

    hit_after : (at : Pos) → HitIsAfter (hit_at triggers events id at)
    unfolding hit_at
    hit_after at = elim (map.get events at) as (λ o. HitIsAfter (option_and_then (λ event. option_and_then (λ hist. option_and_then (λ key. hit_as at hist event key (role_of triggers hist.variable)) (hit hist event)) (map.get triggers id)) o)) [
      | None ↦ tt
      | Some event ↦ elim (map.get triggers id) as (λ o. HitIsAfter (option_and_then (λ hist. option_and_then (λ key. hit_as at hist event key (role_of triggers hist.variable)) (hit hist event)) o)) [
        | None ↦ tt
        | Some hist ↦ elim (hit hist event) as (λ o. HitIsAfter (option_and_then (λ key. hit_as at hist event key (role_of triggers hist.variable)) o)) [
          | None ↦ tt
          | Some key ↦ role_after at hist event key (role_of triggers hist.variable)
        ]
      ]
    ]

    abbrev IsOrdered : Pair → Type 0
    IsOrdered pair = pair.saved.stamp ≤ pair.read.stamp

    with_saved : (read : Pos) (saved : Option Pos) (rest : List Pair) → IsAfter read saved → All IsOrdered rest → All IsOrdered (cons_option (option_map (λ s. record { saved = s; read = read }) saved) rest)
    with_saved read None rest h more = more
    with_saved read (Some s) rest h more = All-cons IsOrdered (record { saved = s; read = read }) rest h more

    with_hit : (o : Option TriggerHit) (hits : List TriggerHit) → HitIsAfter o → All IsOrdered (filter_map pair_of hits) → All IsOrdered (filter_map pair_of (cons_option o hits))
    with_hit None hits h more = more
    with_hit (Some found) hits h more = with_saved found.spot.pos found.saved (filter_map pair_of hits) h more

    pairs_after : (places : List Pos) → All IsOrdered (filter_map pair_of (filter_map (hit_at triggers events id) places))
    pairs_after [] = All-nil IsOrdered
    pairs_after (at ∷ places) = with_hit (hit_at triggers events id at) (filter_map (hit_at triggers events id) places) (hit_after at) (pairs_after places)

    -- each pair's saving stands before its reading
    pub saved_before : All (λ (pair : Pair). pair.saved.stamp ≤ pair.read.stamp) (pairs_of triggers events id)
    unfolding pairs_of trigger_hits
    saved_before = pairs_after (map.keys events)
