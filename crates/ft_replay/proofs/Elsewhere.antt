-- What stays as it was if triggers or events change elsewhere.
use Rattle.std.proofs.Common.{◌≡◌, ℕ, true, false, cond, List, refl, sym, ap, ◌∙◌, Some, None, Option}
use Rattle.std.specs.Prelude.{option_map, option_and_then}
use Rattle.std.specs.Option.{option_map_or}
use Rattle.std.specs.Ordering.{eq_by_cmp}
use Rattle.std.specs.Cmp.{eq_by_cmp_equiv}
use Rattle.std.specs.FinMap as map
use Rattle.ft_fields.specs.Traced.{Traced}
use Rattle.ft_fields.specs.declared.pos.Pos.{Pos}
use Rattle.ft_fields.specs.declared.key.Part.{Part}
use Rattle.ft_hist.specs.Hist.{Hist}
use Rattle.ft_hist.specs.Hit.{hit}
use Rattle.ft_maps.specs.Entries.{same_from_tie}
use Rattle.ft_pairs.specs.declared.at.At.{At}
use Rattle.ft_pairs.specs.declared.at.Op.{Op}
use Rattle.ft_pairs.specs.declared.at.Op.TheVariants.{Save, Read}
use Rattle.ft_pairs.specs.Source.{Ops, IsSource}
use Rattle.ft_pairs.specs.declared.role.Role.{Role}
use Rattle.ft_pairs.specs.declared.role.Role.TheVariants.{Plain, Saves, Reads}
use Rattle.ft_pairs.specs.declared.role.Variable.{Variable}
use Rattle.ft_table.specs.Spots.{traced}
use Rattle.ft_base.specs.Base.{Triggers}
use Rattle.ft_replay.specs.Merged.{Events}
use Rattle.ft_replay.specs.Elsewhere.{IsSameAct, FindsTheSame, AdmitsTheSame}
use Rattle.ft_replay.specs.Hits.{TriggerHit, found_at, read_as, hit_at}
use Rattle.ft_replay.specs.Operations.{is_admitted, ops_on}
use Rattle.ft_pairs.specs.Roles.{op_as}
use Rattle.ft_replay.specs.Replay.{replay}
use Rattle.ft_table.specs.Values.{values_at}
use Rattle.ft_base.specs.Roles.{role_of, role_at}
use Rattle.ft_pairs.specs.Variables.{variable_cmp, variable_cmp_total, variable_same}
use Rattle.ft_replay.proofs.Matched.{matched}

-- what an answer about an attached trigger at a held event comes to, by whether there are both
abbrev at_both : {X : Type 0} → (Traced → Hist → Option X) → Option Hist → Option Traced → Option X
at_both f attached held = option_and_then (λ event. option_and_then (f event) attached) held

module _ (triggers others : Triggers) (events more : Events) where
  -- ---- operations

  module _ (variable : Variable) (alike : AdmitsTheSame triggers others events more variable) where
    op_alike : (r : Role) (id : ℕ) (key : List Part) → op_as (is_admitted (replay others more)) r variable id key ≡ op_as (is_admitted (replay triggers events)) r variable id key
    op_alike Plain id key = refl
    op_alike Saves id key = elim (eq_by_cmp variable_cmp variable (record { saver = id; key = key })) as (λ b. eq_by_cmp variable_cmp variable (record { saver = id; key = key }) ≡ b
        → cond b (cond (is_admitted (replay others more) id key) (Some Save) None) None ≡ cond b (cond (is_admitted (replay triggers events) id key) (Some Save) None) None) [
          | true ↦ λ tie. let same : variable ≡ record { saver = id; key = key } = same_from_tie variable_same variable (record { saver = id; key = key }) tie in
              ap (λ b. cond b (Some Save) None)
              (ap (λ (v : Variable). is_admitted (replay others more) v.saver v.key) (sym same) ∙ alike ∙ ap (λ (v : Variable). is_admitted (replay triggers events) v.saver v.key) same)
          | false ↦ λ _. refl
        ] refl
    op_alike (Reads saver) id key = refl

  module _ (at : At) (act : IsSameAct triggers others events more at) where
    pub same_op : (variable : Variable) → AdmitsTheSame triggers others events more variable → ops_on others more variable at ≡ ops_on triggers events variable at
    unfolding ops_on
    same_op variable alike =
        ap (at_both (λ e h. option_and_then (op_as (is_admitted (replay others more)) (role_at others at.trigger) variable at.trigger) (hit h e)) (map.get others at.trigger)) act.event
        ∙ ap (λ o. at_both (λ e h. option_and_then (op_as (is_admitted (replay others more)) (role_at others at.trigger) variable at.trigger) (hit h e)) o (map.get events at.pos)) act.trigger
        ∙ ap (λ r. at_both (λ e h. option_and_then (op_as (is_admitted (replay others more)) r variable at.trigger) (hit h e)) (map.get triggers at.trigger) (map.get events at.pos)) act.role
        ∙ ap (λ (f : List Part → Option Op). at_both (λ e h. option_and_then f (hit h e)) (map.get triggers at.trigger) (map.get events at.pos))
        (λ i key. op_alike variable alike (role_at triggers at.trigger) at.trigger key i)

    -- ---- hits

    -- the hit of a trigger with a role at an event with a key, by what is found
    abbrev hit_as : (Variable → Option Pos) → Hist → Traced → List Part → Role → Option TriggerHit
    hit_as found hist e key r = option_map (λ saved. record { spot = traced at.pos; key = key; saved = saved; values = values_at hist at.pos e saved }) (read_as r found key)

    module _ (hist : Hist) (attached : map.get triggers at.trigger ≡ Some hist) where
      role-is : role_at triggers at.trigger ≡ role_of triggers hist.variable
      unfolding role_at
      role-is = ap (λ (o : Option Hist). option_map_or (λ h. role_of triggers h.variable) o Plain) attached

      role_other-is : role_of others hist.variable ≡ role_of triggers hist.variable
      unfolding role_at
      role_other-is = sym (ap (λ (o : Option Hist). option_map_or (λ h. role_of others h.variable) o Plain) (act.trigger ∙ attached)) ∙ act.role ∙ role-is

      reads-is : (e : Traced) (key : List Part) (saver : ℕ) → map.get events at.pos ≡ Some e → hit hist e ≡ Some key → role_of triggers hist.variable ≡ Reads saver
          → ops_on triggers events (record { saver = saver; key = key }) at ≡ Some Read
      unfolding ops_on
      reads-is e key saver held is reads =
          let variable : Variable = record { saver = saver; key = key } in
          let op : Role → List Part → Option Op = λ r. op_as (is_admitted (replay triggers events)) r variable at.trigger in
          ap (at_both (λ e h. option_and_then (op (role_at triggers at.trigger)) (hit h e)) (map.get triggers at.trigger)) held
          ∙ ap (option_and_then (λ h. option_and_then (op (role_at triggers at.trigger)) (hit h e))) attached
          ∙ ap (option_and_then (op (role_at triggers at.trigger))) is
          ∙ ap (λ r. op r key) (role-is ∙ reads)
          ∙ ap (λ b. cond b (Some Read) None) ((eq_by_cmp_equiv variable_cmp_total).refl variable)

      same_with : FindsTheSame triggers others events more at → (e : Traced) (key : List Part) → map.get events at.pos ≡ Some e → hit hist e ≡ Some key → (r : Role) → role_of triggers hist.variable ≡ r
          → hit_as (λ variable. found_at others more variable at) hist e key r ≡ hit_as (λ variable. found_at triggers events variable at) hist e key r
      same_with same e key held is Plain _ = refl
      same_with same e key held is Saves _ = refl
      same_with same e key held is (Reads saver) reads =
          ap (λ o. option_map (λ saved. record { spot = traced at.pos; key = key; saved = saved; values = values_at hist at.pos e saved }) (option_map (λ saved. Some saved) o))
          (same (record { saver = saver; key = key }) (reads-is e key saver held is reads))

    pub same_hit : FindsTheSame triggers others events more at → hit_at others more at.trigger at.pos ≡ hit_at triggers events at.trigger at.pos
    unfolding hit_at
    same_hit same =
        ap (at_both (λ e h. option_and_then (λ key. hit_as (λ variable. found_at others more variable at) h e key (role_of others h.variable)) (hit h e)) (map.get others at.trigger)) act.event
        ∙ ap (λ o. at_both (λ e h. option_and_then (λ key. hit_as (λ variable. found_at others more variable at) h e key (role_of others h.variable)) (hit h e)) o (map.get events at.pos)) act.trigger
        ∙ elim (map.get events at.pos) as (λ o. map.get events at.pos ≡ o
        → at_both (λ e h. option_and_then (λ key. hit_as (λ variable. found_at others more variable at) h e key (role_of others h.variable)) (hit h e)) (map.get triggers at.trigger) o
        ≡ at_both (λ e h. option_and_then (λ key. hit_as (λ variable. found_at triggers events variable at) h e key (role_of triggers h.variable)) (hit h e)) (map.get triggers at.trigger) o) [
          | None ↦ λ _. refl
          | Some e ↦ λ held. elim (map.get triggers at.trigger) as (λ o. map.get triggers at.trigger ≡ o
              → option_and_then (λ h. option_and_then (λ key. hit_as (λ variable. found_at others more variable at) h e key (role_of others h.variable)) (hit h e)) o
              ≡ option_and_then (λ h. option_and_then (λ key. hit_as (λ variable. found_at triggers events variable at) h e key (role_of triggers h.variable)) (hit h e)) o) [
                | None ↦ λ _. refl
                | Some hist ↦ λ attached. elim (hit hist e) as (λ o. hit hist e ≡ o
                    → option_and_then (λ key. hit_as (λ variable. found_at others more variable at) hist e key (role_of others hist.variable)) o
                    ≡ option_and_then (λ key. hit_as (λ variable. found_at triggers events variable at) hist e key (role_of triggers hist.variable)) o) [
                      | None ↦ λ _. refl
                      | Some key ↦ λ is.
                          ap (hit_as (λ variable. found_at others more variable at) hist e key) (role_other-is hist attached)
                          ∙ same_with hist attached same e key held is (role_of triggers hist.variable) refl
                    ] refl
              ] refl
        ] refl

-- ---- readings

-- the saving at a place
abbrev saving : Variable → Option Pos → Option At
saving variable = option_map (λ place. record { pos = place; trigger = variable.saver })

place_back : (variable : Variable) (o : Option Pos) → option_map (λ at. at.pos) (saving variable o) ≡ o
place_back variable None = refl
place_back variable (Some place) = refl

-- two replays find the same at a place, if the source there in the one is that in the other
pub same_found : ((ops : Ops) (at : At) (a b : Option At) → IsSource ops at a → IsSource ops at b → a ≡ b)
    → (triggers others : Triggers) (events more : Events) (variable : Variable) (at : At)
    → ((found : Option At) → IsSource (ops_on triggers events variable) at found → IsSource (ops_on others more variable) at found)
    → found_at others more variable at ≡ found_at triggers events variable at
same_found one triggers others events more variable at same =
    sym (place_back variable (found_at others more variable at))
    ∙ ap (option_map (λ at. at.pos)) (one (ops_on others more variable) at _ _ (matched others more variable at) (same _ (matched triggers events variable at)))
    ∙ place_back variable (found_at triggers events variable at)
