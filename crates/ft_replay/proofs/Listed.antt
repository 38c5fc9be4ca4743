-- A trigger's hits as a list that ascends, and what look-ups find in it.
use Rattle.std.proofs.Common.{◌≡◌, ℕ, Bool, true, false, cond, List, [], ◌∷◌, map as list_map, refl, sym, ap, subst, ◌∙◌, Some, None, Option, eqb-true}
use Rattle.std.specs.Prelude.{ℤ, ◌==◌, filter_map, IfSome, ◌||◌, if◌then◌else◌, option_and_then, option_map, ◌&&◌}
use Rattle.std.specs.Cmp.{tied_then}
use Rattle.std.specs.List.{AllByRecursion, cons_option, list_any}
use Rattle.std.specs.List.Sorted.{IsStrictlySortedBy}
use Rattle.std.specs.declared.cmp.Ordering.TheVariants.{Less}
use Rattle.std.specs.Ordering.{is_eq, eq_by_cmp}
use Rattle.std.specs.FinMap as map
use Rattle.std.specs.FinMap.{contains_key-keys, entries_sorted, find, get-from_entries}
use Rattle.std.proofs.lemmas.Map.Keys.{sorted_head, sorted_tail}
use Rattle.ft_fields.specs.Traced.{Traced}
use Rattle.ft_fields.specs.declared.pos.Pos.{Pos}
use Rattle.ft_fields.specs.Places.{pos_cmp}
use Rattle.ft_fields.specs.declared.key.Part.{Part}
use Rattle.ft_hist.specs.Hist.{Hist}
use Rattle.ft_hist.specs.Hit.{hit}
use Rattle.ft_fields.specs.Parts.{key_cmp, same_key}
use Rattle.ft_maps.specs.Entries.{strictly_sorted, same_from_tie}
use Rattle.ft_maps.proofs.Common.{cond_same, none_then}
use Rattle.ft_hits.specs.declared.mark.Mark.{Mark}
use Rattle.ft_hits.specs.declared.spot.Spot.{Spot}
use Rattle.ft_table.specs.Marks.{mark_cmp, mark_cmp_total}
use Rattle.ft_table.specs.Spots.{traced, spot_cmp, spot_same}
use Rattle.ft_base.specs.Base.{Triggers}
use Rattle.ft_replay.specs.Merged.{Events}
use Rattle.ft_replay.specs.Hits.{TriggerHit, found_at, hit_at, hit_on, trigger_hits, entry_of, replayed_hits, read_as}
use Rattle.ft_replay.specs.Found.{values_found}
use Rattle.ft_table.specs.Values.{values_at}
use Rattle.ft_base.specs.Roles.{role_of}
use Rattle.ft_replay.proofs.Spots.{IsTraced, traced_ascend, traced_among}

abbrev pub spot_of : TriggerHit → Spot
spot_of found = found.spot

-- each hit stands before those after it
abbrev pub Ascend : List TriggerHit → Type 0
Ascend hits = IsStrictlySortedBy spot_cmp (list_map spot_of hits)

-- the hits stand after a spot
abbrev pub AreBehind : Spot → List TriggerHit → Type 0
AreBehind at hits = AllByRecursion (λ p. spot_cmp at p ≡ Less) (list_map spot_of hits)

-- the hits are those of events of the trace
abbrev pub AreTraced : List TriggerHit → Type 0
AreTraced hits = AllByRecursion IsTraced (list_map spot_of hits)

-- the hit of a list at a spot
abbrev pub hit_in : List TriggerHit → Spot → Option TriggerHit
hit_in [] at = None
hit_in (found ∷ hits) at = cond (eq_by_cmp spot_cmp at found.spot) (Some found) (hit_in hits at)

pub none_in : (at : Spot) (hits : List TriggerHit) → AreBehind at hits → hit_in hits at ≡ None
none_in at [] h = refl
none_in at (found ∷ hits) h = ap (λ o. cond (is_eq o) (Some found) (hit_in hits at)) h.0 ∙ none_in at hits h.1

-- ---- hits made of spots

module _ (g : Spot → Option TriggerHit) (here : (at : Spot) → IfSome (g at) (λ found. found.spot ≡ at)) where
  made_behind : (p : Spot) (spots : List Spot) → AllByRecursion (λ q. spot_cmp p q ≡ Less) spots → AreBehind p (filter_map g spots)
  made_behind p [] h = tt
  made_behind p (at ∷ spots) h = from (g at) (here at) (made_behind p spots h.1)
    where
      from : (o : Option TriggerHit) → IfSome o (λ found. found.spot ≡ at) → AreBehind p (filter_map g spots) → AreBehind p (cons_option o (filter_map g spots))
      from None is rest = rest
      from (Some found) is rest = (ap (spot_cmp p) is ∙ h.0, rest)

  -- hits that are made of ascending spots ascend
  pub made_ascend : (spots : List Spot) → IsStrictlySortedBy spot_cmp spots → Ascend (filter_map g spots)
  unfolding IsStrictlySortedBy
  made_ascend [] sorted = tt
  made_ascend (at ∷ spots) sorted = from (g at) (here at) (made_ascend spots sorted.1)
    where
      from : (o : Option TriggerHit) → IfSome o (λ found. found.spot ≡ at) → Ascend (filter_map g spots) → Ascend (cons_option o (filter_map g spots))
      from None is rest = rest
      from (Some found) is rest = (subst (λ p. AreBehind p (filter_map g spots)) (sym is) (made_behind at spots sorted.0), rest)

  -- the hit at a spot is what is made of it, if it is one of the spots
  pub made_in : (at : Spot) (spots : List Spot) → hit_in (filter_map g spots) at ≡ cond (list_any (eq_by_cmp spot_cmp at) spots) (g at) None
  made_in at [] = refl
  made_in at (p ∷ spots) = from (eq_by_cmp spot_cmp at p) refl (g p) refl (here p) (made_in at spots)
    where
      no_more : (b : Bool) → g at ≡ None → cond b (g at) None ≡ g at
      no_more true none = refl
      no_more false none = sym none

      from : (b : Bool) → eq_by_cmp spot_cmp at p ≡ b → (o : Option TriggerHit) → g p ≡ o → IfSome o (λ found. found.spot ≡ p)
          → hit_in (filter_map g spots) at ≡ cond (list_any (eq_by_cmp spot_cmp at) spots) (g at) None
          → hit_in (cons_option o (filter_map g spots)) at ≡ cond (b || list_any (eq_by_cmp spot_cmp at) spots) (g at) None
      from true tie None none is rest = rest ∙ no_more (list_any (eq_by_cmp spot_cmp at) spots) (ap g (same_from_tie spot_same at p tie) ∙ none)
      from true tie (Some found) made is rest =
          ap (λ q. cond (eq_by_cmp spot_cmp at q) (Some found) (hit_in (filter_map g spots) at)) is
          ∙ ap (λ b. cond b (Some found) (hit_in (filter_map g spots) at)) tie
          ∙ sym (ap g (same_from_tie spot_same at p tie) ∙ made)
      from false apart None none is rest = rest
      from false apart (Some found) made is rest =
          ap (λ q. cond (eq_by_cmp spot_cmp at q) (Some found) (hit_in (filter_map g spots) at)) is
          ∙ ap (λ b. cond b (Some found) (hit_in (filter_map g spots) at)) apart ∙ rest

-- ---- what the map of some hits holds

-- what a hit adds, if it is of a key
abbrev pub values_under : List Part → Option TriggerHit → Option (List ℤ)
values_under key found = option_and_then (λ found. if same_key key found.key then Some found.values else None) found

-- the values by a mark are those of the hit at its spot, if that is of its key
pub find-entries : (m : Mark) (hits : List TriggerHit) → Ascend hits → find mark_cmp m (list_map entry_of hits) ≡ values_under m.key (hit_in hits m.spot)
find-entries m [] up = refl
find-entries m (found ∷ hits) up =
    ap (λ b. cond b (Some found.values) (find mark_cmp m (list_map entry_of hits))) (sym (tied_then (spot_cmp m.spot found.spot) (key_cmp m.key found.key)))
    ∙ from (eq_by_cmp spot_cmp m.spot found.spot) refl (find-entries m hits (sorted_tail spot_cmp found.spot (list_map spot_of hits) up))
  where
    from : (b : Bool) → eq_by_cmp spot_cmp m.spot found.spot ≡ b → find mark_cmp m (list_map entry_of hits) ≡ values_under m.key (hit_in hits m.spot)
        → cond (b && same_key m.key found.key) (Some found.values) (find mark_cmp m (list_map entry_of hits)) ≡ values_under m.key (cond b (Some found) (hit_in hits m.spot))
    from true tie rest =
        ap (λ o. cond (same_key m.key found.key) (Some found.values) o)
        (rest ∙ ap (values_under m.key) (none_in m.spot hits (subst (λ p. AreBehind p hits) (sym (same_from_tie spot_same m.spot found.spot tie)) (sorted_head spot_cmp found.spot (list_map spot_of hits) up))))
    from false apart rest = rest

-- ---- a trigger's hits

if_then : {X Y : Type 0} (P : Y → Type 0) (f : X → Option Y) → ((x : X) → IfSome (f x) P) → (o : Option X) → IfSome (option_and_then f o) P
if_then P f each None = tt
if_then P f each (Some x) = each x

if_made : {X Y : Type 0} (P : Y → Type 0) (f : X → Y) → ((x : X) → P (f x)) → (o : Option X) → IfSome (option_map f o) P
if_made P f each None = tt
if_made P f each (Some x) = each x

is_traced : (s : Spot) → (s.maker == 0) ≡ true → IsTraced s
is_traced s e = ap (λ n. record { pos = s.pos; maker = n }) (eqb-true s.maker 0 e)

module _ (triggers : Triggers) (events : Events) (id : ℕ) where
  -- the hit that reads this, and the hits under a key, of a trigger, of an event
  abbrev hit_with : Pos → Traced → Hist → List Part → Option Pos → TriggerHit
  hit_with at event hist key saved = record { spot = traced at; key = key; saved = saved; values = values_at hist at event saved }

  abbrev hit_under : Pos → Traced → Hist → List Part → Option TriggerHit
  hit_under at event hist key = option_map (hit_with at event hist key) (read_as (role_of triggers hist.variable) (λ variable. found_at triggers events variable (record { pos = at; trigger = id })) key)

  abbrev hit_by : Pos → Traced → Hist → Option TriggerHit
  hit_by at event hist = option_and_then (hit_under at event hist) (hit hist event)

  abbrev hit_of : Pos → Traced → Option TriggerHit
  hit_of at event = option_and_then (hit_by at event) (map.get triggers id)

  -- a hit stands at the spot of the place that it is of
  pub hit-traced : (at : Pos) → IfSome (hit_at triggers events id at) (λ found. found.spot ≡ traced at)
  unfolding hit_at
  hit-traced at =
      let P : TriggerHit → Type 0 = λ found. found.spot ≡ traced at in
      if_then P (hit_of at) (λ event. if_then P (hit_by at event) (λ hist. if_then P (hit_under at event hist)
      (λ key. if_made P (hit_with at event hist key) (λ saved. refl) (read_as (role_of triggers hist.variable) (λ variable. found_at triggers events variable (record { pos = at; trigger = id })) key))
      (hit hist event)) (map.get triggers id)) (map.get events at)

  -- where no event is, there is no hit
  no_hit : (at : Pos) → map.contains_key events at ≡ false → hit_at triggers events id at ≡ None
  unfolding hit_at
  no_hit at none = none_then (hit_of at) (map.get events at) none

  -- a hit on a spot stands there
  hit-spot : (s : Spot) → IfSome (hit_on triggers events id s) (λ found. found.spot ≡ s)
  hit-spot s = from (s.maker == 0) refl
    where
      from : (b : Bool) → (s.maker == 0) ≡ b → IfSome (option_and_then (hit_at triggers events id) (cond b (Some s.pos) None)) (λ found. found.spot ≡ s)
      from true e = subst (λ x. IfSome (hit_at triggers events id s.pos) (λ found. found.spot ≡ x)) (sym (is_traced s e)) (hit-traced s.pos)
      from false e = tt

  -- the hits at places are those on their spots
  on_spots : (places : List Pos) → filter_map (hit_at triggers events id) places ≡ filter_map (hit_on triggers events id) (list_map traced places)
  on_spots [] = refl
  on_spots (at ∷ places) = ap (cons_option (hit_at triggers events id at)) (on_spots places)

  -- a trigger's hits ascend
  pub trigger_hits_ascend : Ascend (trigger_hits triggers events id)
  unfolding trigger_hits
  trigger_hits_ascend = subst Ascend (sym (on_spots (map.keys events)))
      (made_ascend (hit_on triggers events id) hit-spot (list_map traced (map.keys events)) (traced_ascend (map.keys events) (strictly_sorted pos_cmp (map.entries events) (entries_sorted events))))

  -- and are those of events of the trace
  pub trigger_hits_traced : AreTraced (trigger_hits triggers events id)
  unfolding trigger_hits
  trigger_hits_traced = each (map.keys events)
    where
      with_one : (at : Pos) (o : Option TriggerHit) (hits : List TriggerHit) → IfSome o (λ found. found.spot ≡ traced at) → AreTraced hits → AreTraced (cons_option o hits)
      with_one at None hits is rest = rest
      with_one at (Some found) hits is rest = (is ∙ ap (λ s. traced s.pos) (sym is), rest)

      each : (places : List Pos) → AreTraced (filter_map (hit_at triggers events id) places)
      each [] = tt
      each (at ∷ places) = with_one at (hit_at triggers events id at) (filter_map (hit_at triggers events id) places) (hit-traced at) (each places)

  -- the hit at a spot
  pub hit_in-trigger_hits : (s : Spot) → hit_in (trigger_hits triggers events id) s ≡ hit_on triggers events id s
  unfolding trigger_hits
  hit_in-trigger_hits s =
      ap (λ hits. hit_in hits s) (on_spots (map.keys events))
      ∙ made_in (hit_on triggers events id) hit-spot s (list_map traced (map.keys events))
      ∙ from (s.maker == 0) refl
    where
      among : Bool
      among = list_any (eq_by_cmp spot_cmp s) (list_map traced (map.keys events))

      held : (b : Bool) → map.contains_key events s.pos ≡ b → cond b (hit_at triggers events id s.pos) None ≡ hit_at triggers events id s.pos
      held true e = refl
      held false e = sym (no_hit s.pos e)

      from : (b : Bool) → (s.maker == 0) ≡ b → cond among (option_and_then (hit_at triggers events id) (cond b (Some s.pos) None)) None ≡ option_and_then (hit_at triggers events id) (cond b (Some s.pos) None)
      from true e =
          ap (λ b. cond b (hit_at triggers events id s.pos) None)
          (ap (λ x. list_any (eq_by_cmp spot_cmp x) (list_map traced (map.keys events))) (is_traced s e) ∙ traced_among s.pos (map.keys events) ∙ sym (contains_key-keys events s.pos))
          ∙ held (map.contains_key events s.pos) refl
      from false e = cond_same among None

  -- the map of a trigger's hits holds what each of them adds
  pub get-replayed_hits : (m : Mark) → map.get (replayed_hits triggers events id) m ≡ values_found triggers events id m
  unfolding replayed_hits values_found
  get-replayed_hits m =
      get-from_entries mark_cmp_total (list_map entry_of (trigger_hits triggers events id)) m
      ∙ find-entries m (trigger_hits triggers events id) trigger_hits_ascend ∙ ap (values_under m.key) (hit_in-trigger_hits m.spot)
