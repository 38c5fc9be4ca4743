-- The act at a place, by what is held and attached.
use Rattle.std.proofs.Common.{◌≡◌, ℕ, true, false, cond, List, [], ◌∷◌, ◌++◌, map as list_map, refl, sym, ap, subst, ◌∙◌, Some, None, Option}
use Rattle.std.specs.Prelude.{◌&&◌, option_map, option_and_then}
use Rattle.std.specs.List.{AllByRecursion, cons_option, flat_map, filter_map}
use Rattle.std.specs.declared.cmp.Ordering.TheVariants.{Less}
use Rattle.std.specs.Ordering.{nat_cmp, eq_by_cmp, is_eq}
use Rattle.std.specs.Cmp.{eq_by_cmp_equiv, tied_then}
use Rattle.std.specs.FinMap as map
use Rattle.std.specs.FinMap.{find, get-entries, nat_cmp-IsAntisymmetric}
use Rattle.ft_fields.specs.Traced.{Traced}
use Rattle.ft_fields.specs.declared.pos.Pos.{Pos}
use Rattle.ft_fields.specs.Places.{pos_cmp, pos_cmp_total, pos_same}
use Rattle.ft_fields.specs.declared.key.Part.{Part}
use Rattle.ft_hist.specs.Hist.{Hist}
use Rattle.ft_hist.specs.Hit.{hit}
use Rattle.ft_maps.specs.Entries.{same_from_tie}
use Rattle.ft_pairs.specs.declared.at.At.{At}
use Rattle.ft_pairs.specs.Order.{at_cmp}
use Rattle.ft_base.specs.Base.{Triggers}
use Rattle.ft_replay.specs.Merged.{Events}
use Rattle.ft_replay.proofs.Places.{or_none}
use Rattle.ft_replay.proofs.Acts.{Act, made, act_of, acts_at, acts_in}
use Rattle.ft_base.proofs.Apart.{AreApart, entries_apart}

-- acts by where they stand
abbrev pub by_place : List Act → List (At × Act)
by_place acts = list_map (λ a. (a.at, a)) acts

-- ---- places that are apart

apart_place : (at : At) (pos : Pos) (id : ℕ) → eq_by_cmp pos_cmp at.pos pos ≡ false → eq_by_cmp at_cmp at (record { pos = pos; trigger = id }) ≡ false
apart_place at pos id h = sym (tied_then (pos_cmp at.pos pos) (nat_cmp at.trigger id)) ∙ ap (λ b. b && is_eq (nat_cmp at.trigger id)) h

same_place : (at : At) (pos : Pos) (id : ℕ) → at.pos ≡ pos → eq_by_cmp at_cmp at (record { pos = pos; trigger = id }) ≡ eq_by_cmp nat_cmp at.trigger id
same_place at pos id same =
    sym (tied_then (pos_cmp at.pos pos) (nat_cmp at.trigger id))
    ∙ ap (λ b. b && is_eq (nat_cmp at.trigger id)) (ap (eq_by_cmp pos_cmp at.pos) (sym same) ∙ (eq_by_cmp_equiv pos_cmp_total).refl at.pos)

-- ---- the first of two lists that has the place

abbrev or_else : {X : Type 0} → Option X → Option X → Option X
or_else None y = y
or_else (Some x) y = Some x

find_both : (at : At) (xs ys : List Act) → find at_cmp at (by_place (xs ++ ys)) ≡ or_else (find at_cmp at (by_place xs)) (find at_cmp at (by_place ys))
find_both at [] ys = refl
find_both at (x ∷ xs) ys = elim (eq_by_cmp at_cmp at x.at) as (λ b. cond b (Some x) (find at_cmp at (by_place (xs ++ ys))) ≡ or_else (cond b (Some x) (find at_cmp at (by_place xs))) (find at_cmp at (by_place ys))) [
  | true ↦ refl
  | false ↦ find_both at xs ys
]

module _ (at : At) where
  -- ---- the acts of one event

  module _ (e : Pos × Traced) where
    -- the place among the acts of some triggers
    abbrev found_in : List (ℕ × Hist) → Option Act
    found_in ts = find at_cmp at (by_place (filter_map (act_of e) ts))

    -- with one more trigger in front
    abbrev found_with : ℕ → List (ℕ × Hist) → Option (List Part) → Option Act
    found_with id ts o = find at_cmp at (by_place (cons_option (option_map (made e id) o) (filter_map (act_of e) ts)))

    elsewhere : (ts : List (ℕ × Hist)) → eq_by_cmp pos_cmp at.pos e.0 ≡ false → found_in ts ≡ None
    elsewhere [] h = refl
    elsewhere (t ∷ ts) h = elim (hit t.1 e.1) as (λ o. found_with t.0 ts o ≡ None) [
      | None ↦ elsewhere ts h
      | Some key ↦ ap (λ b. cond b (Some (made e t.0 key)) (found_in ts)) (apart_place at e.0 t.0 h) ∙ elsewhere ts h
    ]

    module _ (own : at.pos ≡ e.0) where
      others : (ts : List (ℕ × Hist)) → AllByRecursion (λ q. nat_cmp at.trigger q.0 ≡ Less) ts → found_in ts ≡ None
      others [] h = refl
      others (t ∷ ts) h = elim (hit t.1 e.1) as (λ o. found_with t.0 ts o ≡ None) [
        | None ↦ others ts h.1
        | Some key ↦ ap (λ b. cond b (Some (made e t.0 key)) (found_in ts)) (same_place at e.0 t.0 own ∙ ap is_eq h.0) ∙ others ts h.1
      ]

      here : (ts : List (ℕ × Hist)) → AreApart nat_cmp ts → found_in ts ≡ option_and_then (λ hist. act_of e (at.trigger, hist)) (find nat_cmp at.trigger ts)
      here [] h = refl
      here (t ∷ ts) h = elim (eq_by_cmp nat_cmp at.trigger t.0) as (λ b. eq_by_cmp nat_cmp at.trigger t.0 ≡ b
          → found_with t.0 ts (hit t.1 e.1) ≡ option_and_then (λ hist. act_of e (at.trigger, hist)) (cond b (Some t.1) (find nat_cmp at.trigger ts))) [
            | true ↦ λ tie. let same : at.trigger ≡ t.0 = same_from_tie nat_cmp-IsAntisymmetric at.trigger t.0 tie in
                elim (hit t.1 e.1) as (λ o. found_with t.0 ts o ≡ option_map (made e at.trigger) o) [
                  | None ↦ others ts (subst (λ n. AllByRecursion (λ q. nat_cmp n q.0 ≡ Less) ts) (sym same) h.0)
                  | Some key ↦ ap (λ b. cond b (Some (made e t.0 key)) (found_in ts)) (same_place at e.0 t.0 own ∙ tie) ∙ ap (λ n. Some (made e n key)) (sym same)
                ]
            | false ↦ λ apart. elim (hit t.1 e.1) as (λ o. found_with t.0 ts o ≡ option_and_then (λ hist. act_of e (at.trigger, hist)) (find nat_cmp at.trigger ts)) [
              | None ↦ here ts h.1
              | Some key ↦ ap (λ b. cond b (Some (made e t.0 key)) (found_in ts)) (same_place at e.0 t.0 own ∙ apart) ∙ here ts h.1
            ]
          ] refl

  -- ---- of all events

  module _ (triggers : Triggers) where
    abbrev found_at_events : List (Pos × Traced) → Option Act
    found_at_events es = find at_cmp at (by_place (flat_map (acts_at triggers) es))

    none_later : (es : List (Pos × Traced)) → AllByRecursion (λ e. pos_cmp at.pos e.0 ≡ Less) es → found_at_events es ≡ None
    none_later [] h = refl
    none_later (e ∷ es) h =
        find_both at (acts_at triggers e) (flat_map (acts_at triggers) es)
        ∙ ap (λ o. or_else o (found_at_events es)) (elsewhere e (map.entries triggers) (ap is_eq h.0))
        ∙ none_later es h.1

    in_events : (es : List (Pos × Traced)) → AreApart pos_cmp es
        → found_at_events es ≡ option_and_then (λ event. option_and_then (λ hist. act_of (at.pos, event) (at.trigger, hist)) (find nat_cmp at.trigger (map.entries triggers))) (find pos_cmp at.pos es)
    in_events [] h = refl
    in_events (e ∷ es) h = find_both at (acts_at triggers e) (flat_map (acts_at triggers) es) ∙ elim (eq_by_cmp pos_cmp at.pos e.0) as (λ b. eq_by_cmp pos_cmp at.pos e.0 ≡ b
        → or_else (found_in e (map.entries triggers)) (found_at_events es)
        ≡ option_and_then (λ event. option_and_then (λ hist. act_of (at.pos, event) (at.trigger, hist)) (find nat_cmp at.trigger (map.entries triggers))) (cond b (Some e.1) (find pos_cmp at.pos es))) [
          | true ↦ λ tie. let same : at.pos ≡ e.0 = same_from_tie pos_same at.pos e.0 tie in
              ap (or_else (found_in e (map.entries triggers))) (none_later es (subst (λ r. AllByRecursion (λ q. pos_cmp r q.0 ≡ Less) es) (sym same) h.0))
              ∙ or_none (found_in e (map.entries triggers))
              ∙ here e same (map.entries triggers) (entries_apart nat_cmp triggers)
              ∙ ap (λ r. option_and_then (λ hist. act_of (r, e.1) (at.trigger, hist)) (find nat_cmp at.trigger (map.entries triggers))) (sym same)
          | false ↦ λ apart.
              ap (λ o. or_else o (found_at_events es)) (elsewhere e (map.entries triggers) apart)
              ∙ in_events es h.1
        ] refl

    pub act_found : (events : Events)
        → find at_cmp at (by_place (acts_in triggers events)) ≡ option_and_then (λ event. option_and_then (λ hist. act_of (at.pos, event) (at.trigger, hist)) (map.get triggers at.trigger)) (map.get events at.pos)
    unfolding acts_in
    act_found events =
        in_events (map.entries events) (entries_apart pos_cmp events)
        ∙ ap (λ (h : Option Hist). option_and_then (λ event. option_and_then (λ hist. act_of (at.pos, event) (at.trigger, hist)) h) (find pos_cmp at.pos (map.entries events))) (sym (get-entries triggers at.trigger))
        ∙ ap (option_and_then (λ event. option_and_then (λ hist. act_of (at.pos, event) (at.trigger, hist)) (map.get triggers at.trigger))) (sym (get-entries events at.pos))
