-- An event whose name no trigger is on changes nothing.
use Rattle.std.proofs.Common.{◌≡◌, ℕ, Bool, true, false, cond, List, [], ◌∷◌, refl, sym, ap, subst, ◌∙◌, None}
use Rattle.std.specs.Prelude.{◌&&◌, fold, filter, if◌then◌else◌}
use Rattle.std.specs.List.{list_any, AllByRecursion}
use Rattle.std.specs.List.Sorted.{IsStrictlySortedBy}
use Rattle.std.specs.Option.{option_map_or}
use Rattle.std.specs.Map.{keys_of}
use Rattle.std.specs.FinMap as map
use Rattle.std.specs.FinMap.{entries_sorted}
use Rattle.std.specs.declared.cmp.Ordering.TheVariants.{Less}
use Rattle.std.proofs.lemmas.Bool.{or_parts}
use Rattle.ft_fields.specs.Traced.{Traced, name_of}
use Rattle.ft_fields.specs.declared.event.Name.{Name}
use Rattle.ft_fields.specs.declared.pos.Pos.{Pos}
use Rattle.ft_fields.specs.Places.{pos_cmp, pos_cmp_total}
use Rattle.ft_fields.specs.declared.key.Part.{Part}
use Rattle.ft_hist.specs.Hist.{Hist}
use Rattle.ft_hist.specs.Hit.{key_of, passes_filter, same_name}
use Rattle.ft_maps.specs.Entries.{entries-from_entries, strictly_sorted}
use Rattle.ft_base.specs.Base.{Triggers}
use Rattle.ft_replay.specs.Merged.{Events}
use Rattle.ft_replay.specs.Named.{is_on, is_named, named, events_on}
use Rattle.ft_replay.specs.Replay.{State, act, growth_by, act_at, step, replay}
use Rattle.ft_base.specs.Roles.{role_of}

-- ---- the events of some names

module _ (names : Name → Bool) where
  -- an entry whose event has one of the names
  abbrev pub has_one : Pos × Traced → Bool
  has_one entry = names (name_of entry.1.body)

  above_kept : (k : Pos) (es : List (Pos × Traced)) → AllByRecursion (λ q. pos_cmp k q ≡ Less) (keys_of es) → AllByRecursion (λ q. pos_cmp k q ≡ Less) (keys_of (filter has_one es))
  above_kept k [] h = tt
  above_kept k (e ∷ es) h =
      let rest = above_kept k es h.1 in
      elim (has_one e) as (λ b. AllByRecursion (λ q. pos_cmp k q ≡ Less) (keys_of (cond b (e ∷ filter has_one es) (filter has_one es)))) [ true ↦ (h.0, rest) | false ↦ rest ]

  kept_sorted : (es : List (Pos × Traced)) → IsStrictlySortedBy pos_cmp (keys_of es) → IsStrictlySortedBy pos_cmp (keys_of (filter has_one es))
  unfolding IsStrictlySortedBy
  kept_sorted [] h = tt
  kept_sorted (e ∷ es) h =
      let rest = kept_sorted es h.1 in
      elim (has_one e) as (λ b. IsStrictlySortedBy pos_cmp (keys_of (cond b (e ∷ filter has_one es) (filter has_one es)))) [ true ↦ (above_kept e.0 es h.0, rest) | false ↦ rest ]

  pub entries-on : (events : Events) → map.entries (events_on names events) ≡ filter has_one (map.entries events)
  unfolding events_on
  entries-on events = entries-from_entries pos_cmp_total (filter has_one (map.entries events)) (kept_sorted (map.entries events) (strictly_sorted pos_cmp (map.entries events) (entries_sorted events)))

  kept_all : (P : Pos × Traced → Type 0) (es : List (Pos × Traced)) → AllByRecursion P es → AllByRecursion P (filter has_one es)
  kept_all P [] h = tt
  kept_all P (e ∷ es) h =
      let rest = kept_all P es h.1 in
      elim (has_one e) as (λ b. AllByRecursion P (cond b (e ∷ filter has_one es) (filter has_one es))) [ true ↦ (h.0, rest) | false ↦ rest ]

  -- what holds of all events holds of these
  pub on_all : (P : Pos × Traced → Type 0) (events : Events) → AllByRecursion P (map.entries events) → AllByRecursion P (map.entries (events_on names events))
  on_all P events h = subst (AllByRecursion P) (sym (entries-on events)) (kept_all P (map.entries events) h)

-- ---- those whose name some trigger is on

module _ (triggers : Triggers) where
  -- a trigger that is not on the event's name doesn't act
  idle : (entry : Pos × Traced) (state : State) (attached : ℕ × Hist) → same_name attached.1.event (name_of entry.1.body) ≡ false → act_at triggers entry state attached ≡ state
  unfolding act_at
  idle entry state attached other =
      ap (λ (b : Bool). option_map_or (λ (key : List Part).
      act attached.1.size (role_of triggers attached.1.variable) (growth_by attached.1 entry.0 entry.1 key) state (record { pos = entry.0; trigger = attached.0 }) key
      ) (if b && passes_filter attached.1.filter entry.1 then key_of attached.1.keys entry.1 else None) state) other

  all_idle : (entry : Pos × Traced) (state : State) (ts : List (ℕ × Hist)) → list_any (λ attached. same_name attached.1.event (name_of entry.1.body)) ts ≡ false → fold (act_at triggers entry) state ts ≡ state
  all_idle entry state [] none = refl
  all_idle entry state (t ∷ ts) none =
      let here = same_name t.1.event (name_of entry.1.body) in
      let rest = list_any (λ (attached : ℕ × Hist). same_name attached.1.event (name_of entry.1.body)) ts in
      ap (λ (s : State). fold (act_at triggers entry) s ts) (idle entry state t (or_parts here rest none).0)
      ∙ all_idle entry state ts (or_parts here rest none).1

  pub unnamed_step : (state : State) (entry : Pos × Traced) → is_named triggers entry.1 ≡ false → step triggers state entry ≡ state
  unfolding step is_on
  unnamed_step state entry none = all_idle entry state (map.entries triggers) none

  -- an entry whose name some trigger is on
  abbrev pub is_kept : Pos × Traced → Bool
  is_kept entry = is_named triggers entry.1

  some_named : (state : State) (es : List (Pos × Traced)) → fold (step triggers) state (filter is_kept es) ≡ fold (step triggers) state es
  some_named state [] = refl
  some_named state (e ∷ es) =
      elim (is_kept e) as (λ b. is_kept e ≡ b → fold (step triggers) state (cond b (e ∷ filter is_kept es) (filter is_kept es)) ≡ fold (step triggers) (step triggers state e) es) [
        | true ↦ λ is. some_named (step triggers state e) es
        | false ↦ λ is. some_named state es ∙ ap (λ (s : State). fold (step triggers) s es) (sym (unnamed_step state e is))
      ] refl

  -- they are the events of the names that some trigger is on
  pub named-on : (events : Events) → named triggers events ≡ events_on (is_on triggers) events
  unfolding named events_on
  named-on events = refl

  pub entries-named : (events : Events) → map.entries (named triggers events) ≡ filter is_kept (map.entries events)
  entries-named events = ap (λ (m : Events). map.entries m) (named-on events) ∙ entries-on (is_on triggers) events

  -- what holds of all events holds of these
  pub named_all : (P : Pos × Traced → Type 0) (events : Events) → AllByRecursion P (map.entries events) → AllByRecursion P (map.entries (named triggers events))
  named_all P events h = subst (λ (m : Events). AllByRecursion P (map.entries m)) (sym (named-on events)) (on_all (is_on triggers) P events h)

  pub replay-named : (events : Events) → replay triggers (named triggers events) ≡ replay triggers events
  unfolding replay
  replay-named events = ap (fold (step triggers) _) (entries-named events) ∙ some_named _ (map.entries events)

-- if no entry passes, none is left
pub none_left : {X : Type 0} (fits : X → Bool) (xs : List X) → ((x : X) → fits x ≡ false) → filter fits xs ≡ []
none_left fits [] none = refl
none_left fits (x ∷ xs) none = ap (λ (b : Bool). cond b (x ∷ filter fits xs) (filter fits xs)) (none x) ∙ none_left fits xs none
