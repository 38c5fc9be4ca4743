-- What replaying counts at each trigger: its hits, one by one.
use Rattle.std.proofs.Common.{◌≡◌, ℕ, true, false, cond, List, [], ◌∷◌, ◌++◌, map as list_map, refl, sym, ap, subst, ◌∙◌, Some, None, Option}
use Rattle.std.specs.Prelude.{fold, option_map, option_and_then, is_some, unwrap_or}
use Rattle.std.specs.List.{AllByRecursion, cons_option, flat_map, filter_map}
use Rattle.std.specs.Option.{option_map_or}
use Rattle.std.specs.declared.cmp.Ordering.TheVariants.{Less}
use Rattle.std.specs.Ordering.{nat_cmp, eq_by_cmp, is_eq}
use Rattle.std.specs.Cmp.{nat_cmp_total, eq_by_cmp_equiv}
use Rattle.std.specs.FinMap as map
use Rattle.std.specs.FinMap.{find, get-entries, get-insert, get-empty, nat_cmp-IsAntisymmetric}
use Rattle.std.proofs.lemmas.Bool.{true≢false}
use Rattle.std.proofs.lemmas.List.{append-nil}
use Rattle.std.proofs.lemmas.List.Elements.{filter_map-append}
use Rattle.ft_fields.specs.Traced.{Traced}
use Rattle.ft_fields.specs.declared.pos.Pos.{Pos}
use Rattle.ft_fields.specs.Places.{pos_cmp, pos_cmp_total}
use Rattle.ft_fields.specs.declared.key.Part.{Part}
use Rattle.ft_hist.specs.Hist.{Hist}
use Rattle.ft_hist.specs.Hit.{hit}
use Rattle.ft_maps.specs.Entries.{same_from_tie}
use Rattle.ft_table.specs.Growth.{empty_row}
use Rattle.ft_pairs.specs.declared.role.Role.TheVariants.{Plain}
use Rattle.ft_pairs.specs.declared.role.Variable.{Variable}
use Rattle.ft_table.specs.Spots.{traced}
use Rattle.ft_base.specs.Base.{Triggers}
use Rattle.ft_replay.specs.Merged.{Events}
use Rattle.ft_replay.specs.Hits.{TriggerHit, found_at, read_as, hit_at, trigger_hits}
use Rattle.ft_replay.specs.Replay.{Tallies, State, growth_by, started, replay}
use Rattle.ft_table.specs.Values.{values_at}
use Rattle.ft_base.specs.Roles.{role_of, role_at}
use Rattle.ft_replay.specs.Tally.{Tally, empty_tally, tell}
use Rattle.ft_replay.proofs.Counted.{counted, counted_all}
use Rattle.ft_replay.proofs.Acts.{Act, made, act_of, acts_at, acts_in, size_at, growth_at, tell_act, left_before, told}
use Rattle.ft_base.proofs.Apart.{AreApart, entries_apart, entries_found}
use Rattle.ft_replay.proofs.Acting.{replay-acts, acts_there, acts_sorted}
use Rattle.ft_replay.proofs.Telling.{all_told}
use Rattle.ft_replay.proofs.Reached.{found_at-is}

module _ (triggers : Triggers) (events : Events) where
  -- ---- the tallies at the start

  started_from : (m : Tallies) (ts : List (ℕ × Hist)) (q : ℕ)
      → map.get (fold (λ (tallies : Tallies) (t : ℕ × Hist). map.insert tallies t.0 empty_tally) m ts) q ≡ cond (is_some (find nat_cmp q ts)) (Some empty_tally) (map.get m q)
  started_from m [] q = refl
  started_from m (t ∷ ts) q = started_from (map.insert m t.0 empty_tally) ts q
      ∙ ap (cond (is_some (find nat_cmp q ts)) (Some empty_tally)) (get-insert nat_cmp_total m t.0 empty_tally q)
      ∙ elim (eq_by_cmp nat_cmp q t.0) as (λ b.
      cond (is_some (find nat_cmp q ts)) (Some empty_tally) (cond b (Some empty_tally) (map.get m q)) ≡ cond (is_some (cond b (Some t.1) (find nat_cmp q ts))) (Some empty_tally) (map.get m q)) [
        | true ↦ elim (is_some (find nat_cmp q ts)) as (λ b. cond b (Some empty_tally) (Some empty_tally) ≡ Some empty_tally) [ true ↦ refl | false ↦ refl ]
        | false ↦ refl
      ]

  pub started-is : (q : ℕ) → map.get (started triggers) q ≡ option_map (λ hist. empty_tally) (map.get triggers q)
  unfolding started
  started-is q = started_from map.empty (map.entries triggers) q
      ∙ ap (cond (is_some (find nat_cmp q (map.entries triggers))) (Some empty_tally)) (get-empty {X = Tally} nat_cmp q)
      ∙ ap (λ (o : Option Hist). cond (is_some o) (Some empty_tally) None) (sym (get-entries triggers q))
      ∙ elim (map.get triggers q) as (λ o. cond (is_some o) (Some empty_tally) None ≡ option_map (λ hist. empty_tally) o) [ None ↦ refl | Some h ↦ refl ]

  -- ---- the tallies at the end

  abbrev pub tells : ℕ → Tally → Act → Tally
  tells = told (size_at triggers) (role_at triggers) (growth_at triggers) (acts_in triggers events)

  pub tallies-are : (q : ℕ) → map.get (replay triggers events).tallies q ≡ option_map (λ hist. fold (tells q) empty_tally (acts_in triggers events)) (map.get triggers q)
  tallies-are q = ap (λ (s : State). map.get s.tallies q) (replay-acts triggers events)
      ∙ (all_told (size_at triggers) (role_at triggers) (growth_at triggers) (acts_in triggers events) (started triggers) (acts_sorted triggers events)
      (acts_in triggers events) [] (sym (append-nil _)) (acts_there triggers events)).0 q
      ∙ ap (option_map (λ (t : Tally). fold (tells q) t (acts_in triggers events))) (started-is q)
      ∙ elim (map.get triggers q) as (λ o. option_map (λ (t : Tally). fold (tells q) t (acts_in triggers events)) (option_map (λ hist. empty_tally) o) ≡ option_map (λ hist. fold (tells q) empty_tally (acts_in triggers events)) o) [
        | None ↦ refl
        | Some h ↦ refl
      ]

  module _ (id : ℕ) (hist : Hist) (attached : map.get triggers id ≡ Some hist) where
    -- ---- the trigger's hits among the acts

    abbrev hit_from : Act → Option Pos → TriggerHit
    hit_from a saved = record { spot = traced a.at.pos; key = a.key; saved = saved; values = values_at hist a.at.pos a.event saved }

    -- what an act reads, by what is found where the trigger acts
    abbrev reads : Act → Option (Option Pos)
    reads a = read_as (role_of triggers hist.variable) (λ variable. found_at triggers events variable (record { pos = a.at.pos; trigger = id })) a.key

    abbrev hit_by : Act → Option TriggerHit
    hit_by a = option_map (hit_from a) (reads a)

    -- the hit that an act is, if it is the trigger's own
    abbrev own : Act → Option TriggerHit
    own a = cond (eq_by_cmp nat_cmp id a.at.trigger) (hit_by a) None

    role-is : role_at triggers id ≡ role_of triggers hist.variable
    unfolding role_at
    role-is = ap (λ (o : Option Hist). option_map_or (λ h. role_of triggers h.variable) o Plain) attached

    -- what is told is what is counted
    tell-is : (a : Act) (saved : Option Pos) (t : Tally) → id ≡ a.at.trigger → tell_act (size_at triggers) (growth_at triggers) a saved t ≡ counted hist.size t (hit_from a saved)
    unfolding size_at growth_at
    tell-is a saved t same =
        ap (λ (o : Option Hist). tell (option_map_or (λ h. h.size) o 0) (option_map_or (λ h. growth_by h a.at.pos a.event a.key) o (λ saved row. empty_row a.key)) a.at.pos a.key saved t)
        (ap (map.get triggers) (sym same) ∙ attached)

    -- what the acts before leave is what is found
    reads-are : (a : Act) → id ≡ a.at.trigger
        → read_as (role_at triggers a.at.trigger) (λ variable. left_before (size_at triggers) (role_at triggers) (growth_at triggers) (acts_in triggers events) variable a.at) a.key ≡ reads a
    reads-are a same =
        ap (λ (found : Variable → Option Pos). read_as (role_at triggers a.at.trigger) found a.key) (λ i variable. sym (found_at-is triggers a.at events variable) i)
        ∙ ap (λ n. read_as (role_at triggers n) (λ variable. found_at triggers events variable (record { pos = a.at.pos; trigger = n })) a.key) (sym same)
        ∙ ap (λ r. read_as r (λ variable. found_at triggers events variable (record { pos = a.at.pos; trigger = id })) a.key) role-is

    told-is : (a : Act) (t : Tally) → tells id t a ≡ option_map_or (λ h. counted hist.size t h) (own a) t
    unfolding told
    told-is a t = elim (eq_by_cmp nat_cmp id a.at.trigger) as (λ b. eq_by_cmp nat_cmp id a.at.trigger ≡ b
        → cond b (option_map_or (λ saved. tell_act (size_at triggers) (growth_at triggers) a saved t)
        (read_as (role_at triggers a.at.trigger) (λ variable. left_before (size_at triggers) (role_at triggers) (growth_at triggers) (acts_in triggers events) variable a.at) a.key) t) t
        ≡ option_map_or (λ h. counted hist.size t h) (cond b (hit_by a) None) t) [
          | true ↦ λ tie. let same : id ≡ a.at.trigger = same_from_tie nat_cmp-IsAntisymmetric id a.at.trigger tie in
              ap (λ o. option_map_or (λ saved. tell_act (size_at triggers) (growth_at triggers) a saved t) o t) (reads-are a same)
              ∙ elim (reads a) as (λ o. option_map_or (λ saved. tell_act (size_at triggers) (growth_at triggers) a saved t) o t ≡ option_map_or (λ h. counted hist.size t h) (option_map (hit_from a) o) t) [
                | None ↦ refl
                | Some saved ↦ tell-is a saved t same
              ]
          | false ↦ λ _. refl
        ] refl

    by_hits : (t : Tally) (xs : List Act) → fold (tells id) t xs ≡ fold (counted hist.size) t (filter_map own xs)
    by_hits t [] = refl
    by_hits t (a ∷ xs) = by_hits (tells id t a) xs
        ∙ ap (λ (u : Tally). fold (counted hist.size) u (filter_map own xs)) (told-is a t)
        ∙ elim (own a) as (λ o. fold (counted hist.size) (option_map_or (λ h. counted hist.size t h) o t) (filter_map own xs) ≡ fold (counted hist.size) t (cons_option o (filter_map own xs))) [
          | None ↦ refl
          | Some h ↦ refl
        ]

    -- ---- the hits of one event

    module _ (e : Pos × Traced) (there : map.get events e.0 ≡ Some e.1) where
      apart-own : (i : ℕ) (key : List Part) (rest : List TriggerHit) → eq_by_cmp nat_cmp id i ≡ false → cons_option (own (made e i key)) rest ≡ rest
      apart-own i key rest h = ap (λ b. cons_option (cond b (hit_by (made e i key)) None) rest) h

      no_others : (ts : List (ℕ × Hist)) → AllByRecursion (λ q. nat_cmp id q.0 ≡ Less) ts → filter_map own (filter_map (act_of e) ts) ≡ []
      no_others [] h = refl
      no_others (t ∷ ts) h = elim (hit t.1 e.1) as (λ o. filter_map own (cons_option (option_map (made e t.0) o) (filter_map (act_of e) ts)) ≡ []) [
        | None ↦ no_others ts h.1
        | Some key ↦ apart-own t.0 key (filter_map own (filter_map (act_of e) ts)) (ap is_eq h.0) ∙ no_others ts h.1
      ]

      own-is : (i : ℕ) (key : List Part) → id ≡ i → own (made e i key) ≡ hit_by (made e id key)
      own-is i key same = ap (λ n. own (made e n key)) (sym same) ∙ ap (λ b. cond b (hit_by (made e id key)) None) ((eq_by_cmp_equiv nat_cmp_total).refl id)

      one_hit : (ts : List (ℕ × Hist)) → AreApart nat_cmp ts → find nat_cmp id ts ≡ Some hist → filter_map own (filter_map (act_of e) ts) ≡ cons_option (option_and_then hit_by (act_of e (id, hist))) []
      one_hit [] apart found = absurd (true≢false (sym (ap is_some found)))
      one_hit (t ∷ ts) apart found = elim (eq_by_cmp nat_cmp id t.0) as (λ b. eq_by_cmp nat_cmp id t.0 ≡ b → cond b (Some t.1) (find nat_cmp id ts) ≡ Some hist
          → filter_map own (cons_option (act_of e t) (filter_map (act_of e) ts)) ≡ cons_option (option_and_then hit_by (act_of e (id, hist))) []) [
            | true ↦ λ tie is.
                let same : id ≡ t.0 = same_from_tie nat_cmp-IsAntisymmetric id t.0 tie in
                let trigger : t.1 ≡ hist = ap (λ o. unwrap_or o hist) is in
                let rest : filter_map own (filter_map (act_of e) ts) ≡ [] = no_others ts (subst (λ n. AllByRecursion (λ q. nat_cmp n q.0 ≡ Less) ts) (sym same) apart.0) in
                elim (hit t.1 e.1) as (λ o. filter_map own (cons_option (option_map (made e t.0) o) (filter_map (act_of e) ts)) ≡ cons_option (option_and_then hit_by (option_map (made e id) o)) []) [
                  | None ↦ rest
                  | Some key ↦ ap (cons_option (own (made e t.0 key))) rest ∙ ap (λ o. cons_option o []) (own-is t.0 key same)
                ]
                ∙ ap (λ h. cons_option (option_and_then hit_by (option_map (made e id) (hit h e.1))) []) trigger
            | false ↦ λ other is. elim (hit t.1 e.1) as (λ o. filter_map own (cons_option (option_map (made e t.0) o) (filter_map (act_of e) ts)) ≡ cons_option (option_and_then hit_by (act_of e (id, hist))) []) [
              | None ↦ one_hit ts apart.1 is
              | Some key ↦ apart-own t.0 key (filter_map own (filter_map (act_of e) ts)) other ∙ one_hit ts apart.1 is
            ]
          ] refl found

      -- what the place's event is of the trigger
      hit_at-is : option_and_then hit_by (act_of e (id, hist)) ≡ hit_at triggers events id e.0
      unfolding hit_at
      hit_at-is = elim (hit hist e.1) as (λ o. option_and_then hit_by (option_map (made e id) o) ≡ option_and_then (λ key. hit_by (made e id key)) o) [ None ↦ refl | Some key ↦ refl ]
          ∙ ap (option_and_then (λ h. option_and_then (λ key.
          option_map (λ saved. record { spot = traced e.0; key = key; saved = saved; values = values_at h e.0 e.1 saved })
          (read_as (role_of triggers h.variable) (λ variable. found_at triggers events variable (record { pos = e.0; trigger = id })) key)
          ) (hit h e.1))) (sym attached)
          ∙ ap (option_and_then (λ event. option_and_then (λ h. option_and_then (λ key.
          option_map (λ saved. record { spot = traced e.0; key = key; saved = saved; values = values_at h e.0 event saved })
          (read_as (role_of triggers h.variable) (λ variable. found_at triggers events variable (record { pos = e.0; trigger = id })) key)
          ) (hit h event)) (map.get triggers id))) (sym there)

      event_hits : filter_map own (acts_at triggers e) ≡ cons_option (hit_at triggers events id e.0) []
      event_hits = one_hit (map.entries triggers) (entries_apart nat_cmp triggers) (sym (get-entries triggers id) ∙ attached) ∙ ap (λ o. cons_option o []) hit_at-is

    cons_more : {X : Type 0} (o : Option X) (xs : List X) → cons_option o [] ++ xs ≡ cons_option o xs
    cons_more None xs = refl
    cons_more (Some x) xs = refl

    all_hits : (es : List (Pos × Traced)) → AllByRecursion (λ e. map.get events e.0 ≡ Some e.1) es
        → filter_map own (flat_map (acts_at triggers) es) ≡ filter_map (hit_at triggers events id) (list_map (λ e. e.0) es)
    all_hits [] there = refl
    all_hits (e ∷ es) there =
        filter_map-append own (acts_at triggers e) (flat_map (acts_at triggers) es)
        ∙ ap (λ (xs : List TriggerHit). xs ++ filter_map own (flat_map (acts_at triggers) es)) (event_hits e there.0)
        ∙ cons_more (hit_at triggers events id e.0) _
        ∙ ap (cons_option (hit_at triggers events id e.0)) (all_hits es there.1)

    hits-are : filter_map own (acts_in triggers events) ≡ trigger_hits triggers events id
    unfolding acts_in trigger_hits
    hits-are = all_hits (map.entries events) (entries_found pos_cmp pos_cmp_total events)

    -- the tally of an attached trigger is what its hits come to
    tally-is : map.get (replay triggers events).tallies id ≡ Some (counted_all hist.size (trigger_hits triggers events id))
    tally-is =
        tallies-are id
        ∙ ap (option_map (λ h. fold (tells id) empty_tally (acts_in triggers events))) attached
        ∙ ap Some (by_hits empty_tally (acts_in triggers events) ∙ ap (counted_all hist.size) hits-are)

pub replayed_tally : (triggers : Triggers) (events : Events) (id : ℕ) (hist : Hist) → map.get triggers id ≡ Some hist
    → map.get (replay triggers events).tallies id ≡ Some (counted_all hist.size (trigger_hits triggers events id))
replayed_tally triggers events = tally-is triggers events

-- an id that is no trigger's has no tally
pub replayed_none : (triggers : Triggers) (events : Events) (id : ℕ) → map.get triggers id ≡ None → map.get (replay triggers events).tallies id ≡ None
replayed_none triggers events id none = tallies-are triggers events id ∙ ap (option_map (λ h. fold (tells triggers events id) empty_tally (acts_in triggers events))) none
