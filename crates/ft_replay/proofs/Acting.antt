-- Replaying events is replaying their acts, which stand in order.
use Rattle.std.proofs.Common.{◌≡◌, ℕ, true, false, cond, List, [], ◌∷◌, ◌++◌, map as list_map, refl, sym, ap, ◌∙◌, Some, None, Option}
use Rattle.std.specs.Prelude.{fold, ⊤, option_map}
use Rattle.std.specs.List.{AllByRecursion, cons_option, flat_map, filter_map}
use Rattle.std.specs.List.Sorted.{IsStrictlySortedBy}
use Rattle.std.specs.Option.{option_map_or}
use Rattle.std.specs.declared.cmp.Ordering.TheVariants.{Less}
use Rattle.std.specs.Ordering.{nat_cmp, eq_by_cmp, ordering_then}
use Rattle.std.specs.Cmp.{nat_cmp_total, eq_by_cmp_equiv, tied_itself}
use Rattle.std.specs.FinMap as map
use Rattle.std.specs.FinMap.{get-insert}
use Rattle.std.proofs.lemmas.List.Sums.{fold-append}
use Rattle.ft_maps.proofs.Common.{all_map}
use Rattle.ft_fields.specs.Traced.{Traced}
use Rattle.ft_fields.specs.declared.pos.Pos.{Pos}
use Rattle.ft_fields.specs.Places.{pos_cmp, pos_cmp_total}
use Rattle.ft_fields.specs.declared.key.Part.{Part}
use Rattle.ft_hist.specs.Hist.{Hist}
use Rattle.ft_hist.specs.Hit.{hit}
use Rattle.ft_pairs.specs.Order.{at_cmp}
use Rattle.ft_table.specs.Growth.{empty_row}
use Rattle.ft_pairs.specs.declared.role.Role.TheVariants.{Plain}
use Rattle.ft_base.specs.Base.{Triggers}
use Rattle.ft_replay.specs.Merged.{Events}
use Rattle.ft_base.specs.Roles.{role_of, role_at}
use Rattle.ft_replay.specs.Tally.{empty_tally}
use Rattle.ft_replay.specs.Replay.{Tallies, State, act, growth_by, act_at, step, started, replay}
use Rattle.ft_replay.proofs.Acts.{Act, made, act_of, acts_at, acts_in, size_at, growth_at, run}
use Rattle.ft_base.proofs.Apart.{AreApart, entries_apart, entries_found, all_of, all_append}

module _ (triggers : Triggers) where
  abbrev pub go : State → List Act → State
  go = run (size_at triggers) (role_at triggers) (growth_at triggers)

  -- ---- acts for events

  one_act : (hist : Hist) (state : State) (a : Act) → map.get triggers a.at.trigger ≡ Some hist
      → act hist.size (role_of triggers hist.variable) (growth_by hist a.at.pos a.event a.key) state a.at a.key
      ≡ act (size_at triggers a.at.trigger) (role_at triggers a.at.trigger) (growth_at triggers a) state a.at a.key
  unfolding size_at role_at growth_at
  one_act hist state a attached = ap (λ (o : Option Hist).
      act (option_map_or (λ h. h.size) o 0) (option_map_or (λ h. role_of triggers h.variable) o Plain)
      (option_map_or (λ h. growth_by h a.at.pos a.event a.key) o (λ saved row. empty_row a.key)) state a.at a.key) (sym attached)

  -- some attached triggers at one event
  pub one_event : (entry : Pos × Traced) (state : State) (ts : List (ℕ × Hist)) → AllByRecursion (λ t. map.get triggers t.0 ≡ Some t.1) ts
      → fold (act_at triggers entry) state ts ≡ go state (filter_map (act_of entry) ts)
  unfolding act_at
  one_event entry state [] found = refl
  one_event entry state (t ∷ ts) found =
      one_event entry (act_at triggers entry state t) ts found.1
      ∙ elim (hit t.1 entry.1) as (λ o.
      go (option_map_or (λ key. act t.1.size (role_of triggers t.1.variable) (growth_by t.1 entry.0 entry.1 key) state (record { pos = entry.0; trigger = t.0 }) key) o state)
      (filter_map (act_of entry) ts)
      ≡ go state (cons_option (option_map (made entry t.0) o) (filter_map (act_of entry) ts))) [
        | None ↦ refl
        | Some key ↦ ap (λ (s : State). go s (filter_map (act_of entry) ts)) (one_act t.1 state (made entry t.0 key) found.0)
      ]

  -- some events
  pub some_events : (state : State) (es : List (Pos × Traced)) → fold (step triggers) state es ≡ go state (flat_map (acts_at triggers) es)
  unfolding step
  some_events state [] = refl
  some_events state (e ∷ es) =
      some_events (step triggers state e) es
      ∙ ap (λ (s : State). go s (flat_map (acts_at triggers) es)) (one_event e state (map.entries triggers) (entries_found nat_cmp nat_cmp_total triggers))
      ∙ sym (fold-append _ state (acts_at triggers e) (flat_map (acts_at triggers) es))

  pub replay-acts : (events : Events) → replay triggers events ≡ go (record { tallies = started triggers; variables = map.empty }) (acts_in triggers events)
  unfolding replay acts_in
  replay-acts events = some_events (record { tallies = started triggers; variables = map.empty }) (map.entries events)

  -- ---- each act finds its trigger's tally

  abbrev with_empty : Tallies → ℕ × Hist → Tallies
  with_empty tallies attached = map.insert tallies attached.0 empty_tally

  stays_empty : (m : Tallies) (ts : List (ℕ × Hist)) (q : ℕ) → map.get m q ≡ Some empty_tally → map.get (fold with_empty m ts) q ≡ Some empty_tally
  stays_empty m [] q h = h
  stays_empty m (t ∷ ts) q h = stays_empty (with_empty m t) ts q (get-insert nat_cmp_total m t.0 empty_tally q
      ∙ elim (eq_by_cmp nat_cmp q t.0) as (λ b. cond b (Some empty_tally) (map.get m q) ≡ Some empty_tally) [ true ↦ refl | false ↦ h ])

  all_empty : (m : Tallies) (ts : List (ℕ × Hist)) → AllByRecursion (λ t. map.get (fold with_empty m ts) t.0 ≡ Some empty_tally) ts
  all_empty m [] = tt
  all_empty m (t ∷ ts) = (
    stays_empty (with_empty m t) ts t.0 (get-insert nat_cmp_total m t.0 empty_tally t.0 ∙ ap (λ b. cond b (Some empty_tally) (map.get m t.0)) ((eq_by_cmp_equiv nat_cmp_total).refl t.0)),
    all_empty (with_empty m t) ts,
  )

  started_empty : AllByRecursion (λ t. map.get (started triggers) t.0 ≡ Some empty_tally) (map.entries triggers)
  unfolding started
  started_empty = all_empty map.empty (map.entries triggers)

  -- ---- what holds of each act

  block : (Q : Act → Type 0) (entry : Pos × Traced) (ts : List (ℕ × Hist)) → AllByRecursion (λ t. (key : List Part) → Q (made entry t.0 key)) ts
      → AllByRecursion Q (filter_map (act_of entry) ts)
  block Q entry [] h = tt
  block Q entry (t ∷ ts) h = elim (hit t.1 entry.1) as (λ o. AllByRecursion Q (cons_option (option_map (made entry t.0) o) (filter_map (act_of entry) ts))) [
    | None ↦ block Q entry ts h.1
    | Some key ↦ (h.0 key, block Q entry ts h.1)
  ]

  -- of each act at an event, if it holds whatever the trigger and the key
  pub each_at : (Q : Act → Type 0) (entry : Pos × Traced) → ((id : ℕ) (key : List Part) → Q (made entry id key)) → AllByRecursion Q (acts_at triggers entry)
  each_at Q entry h = block Q entry (map.entries triggers) (all_of _ (λ t. h t.0) (map.entries triggers))

  pub blocks : (Q : Act → Type 0) (es : List (Pos × Traced)) → AllByRecursion (λ e. AllByRecursion Q (acts_at triggers e)) es → AllByRecursion Q (flat_map (acts_at triggers) es)
  blocks Q [] h = tt
  blocks Q (e ∷ es) h = all_append Q (acts_at triggers e) (flat_map (acts_at triggers) es) h.0 (blocks Q es h.1)

  pub acts_there : (events : Events) → AllByRecursion (λ (a : Act). map.get (started triggers) a.at.trigger ≡ Some empty_tally) (acts_in triggers events)
  unfolding acts_in
  acts_there events = blocks (λ (a : Act). map.get (started triggers) a.at.trigger ≡ Some empty_tally) (map.entries events) (all_of _ (λ e.
      block (λ (a : Act). map.get (started triggers) a.at.trigger ≡ Some empty_tally) e (map.entries triggers) (all_map _ _ (λ t h key. h) (map.entries triggers) started_empty)) (map.entries events))

  -- ---- the acts stand in order

  abbrev Behind : Act → Act → Type 0
  Behind a b = at_cmp a.at b.at ≡ Less

  abbrev Rises : List Act → Type 0
  Rises [] = ⊤
  Rises (a ∷ bs) = AllByRecursion (Behind a) bs × Rises bs

  rises_append : (xs ys : List Act) → Rises xs → Rises ys → AllByRecursion (λ x. AllByRecursion (Behind x) ys) xs → Rises (xs ++ ys)
  rises_append [] ys p q h = q
  rises_append (x ∷ xs) ys p q h = (all_append (Behind x) xs ys p.0 h.0, rises_append xs ys p.1 q h.1)

  same_place : (e : Pos × Traced) (i j : ℕ) (k l : List Part) → nat_cmp i j ≡ Less → Behind (made e i k) (made e j l)
  same_place e i j k l h = ap (λ o. ordering_then o (nat_cmp i j)) (tied_itself pos_cmp_total e.0) ∙ h

  block_rises : (entry : Pos × Traced) (ts : List (ℕ × Hist)) → AreApart nat_cmp ts → Rises (filter_map (act_of entry) ts)
  block_rises entry [] h = tt
  block_rises entry (t ∷ ts) h = elim (hit t.1 entry.1) as (λ o. Rises (cons_option (option_map (made entry t.0) o) (filter_map (act_of entry) ts))) [
    | None ↦ block_rises entry ts h.1
    | Some key ↦ (block (Behind (made entry t.0 key)) entry ts (all_map _ _ (λ q less k. same_place entry t.0 q.0 key k less) ts h.0), block_rises entry ts h.1)
  ]

  later_place : (d e : Pos × Traced) (i j : ℕ) (k l : List Part) → pos_cmp d.0 e.0 ≡ Less → Behind (made d i k) (made e j l)
  later_place d e i j k l h = ap (λ o. ordering_then o (nat_cmp i j)) h

  rises_all : (es : List (Pos × Traced)) → AreApart pos_cmp es → Rises (flat_map (acts_at triggers) es)
  rises_all [] h = tt
  rises_all (e ∷ es) h = rises_append (acts_at triggers e) (flat_map (acts_at triggers) es) (block_rises e (map.entries triggers) (entries_apart nat_cmp triggers)) (rises_all es h.1)
      (each_at (λ x. AllByRecursion (Behind x) (flat_map (acts_at triggers) es)) e (λ i k.
      blocks (Behind (made e i k)) es (all_map _ _ (λ q less. each_at (Behind (made e i k)) q (λ j l. later_place e q i j k l less)) es h.0)))

  ats : (a : Act) (bs : List Act) → AllByRecursion (Behind a) bs → AllByRecursion (λ y. at_cmp a.at y ≡ Less) (list_map (λ b. b.at) bs)
  ats a [] h = tt
  ats a (b ∷ bs) h = (h.0, ats a bs h.1)

  sorted_from : (bs : List Act) → Rises bs → IsStrictlySortedBy at_cmp (list_map (λ b. b.at) bs)
  unfolding IsStrictlySortedBy
  sorted_from [] h = tt
  sorted_from (a ∷ bs) h = (ats a bs h.0, sorted_from bs h.1)

  pub acts_sorted : (events : Events) → IsStrictlySortedBy at_cmp (list_map (λ (a : Act). a.at) (acts_in triggers events))
  unfolding acts_in
  acts_sorted events = sorted_from (flat_map (acts_at triggers) (map.entries events)) (rises_all (map.entries events) (entries_apart pos_cmp events))
