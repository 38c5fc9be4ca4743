-- Shelves are views only of the acts that they tell.
use Rattle.std.proofs.Common.{◌≡◌, refl, true, false, cond, List, sym, ap, subst, ◌∙◌, Some, None, Option, is_some, option_and_then}
use Rattle.ft_fields.specs.Orders.{key_cmp_total}
use Rattle.ft_fields.specs.Traced.{Traced}
use Rattle.ft_fields.specs.declared.key.Part.{Part}
use Rattle.ft_hist.specs.Triggers.{Triggers}
use Rattle.ft_lanes.specs.Held.{Lanes, event_at}
use Rattle.ft_pairs.specs.declared.at.At.{At}
use Rattle.ft_pairs.specs.declared.role.Role.{Role}
use Rattle.ft_pairs.specs.declared.role.Role.TheVariants.{Plain, Saves, Reads}
use Rattle.ft_table.specs.Values.{values_by}
use Rattle.ft_kept.specs.Acts.{Acts, act_by_id}
use Rattle.ft_kept.specs.Entries.{IsEntry, hits_here, read_here}
use Rattle.ft_kept.specs.Input.{AreViews, input_of, is_kept}
use Rattle.ft_kept.specs.Views.{AreViewsOf}
use Rattle.ft_shelves.specs.Shelves.{Shelves, admits_on, kept_on, role_on}
use Rattle.ft_shelves.proofs.Decided.{itself}
use Rattle.ft_kept.proofs.Staleness.{op_absent, op_read}

module _ (triggers : Triggers) (lanes : Lanes) (acts : Acts) (shelves : Shelves) (views : AreViewsOf triggers lanes acts shelves) where
  abbrev IsEntryAt : At → Role → Option (List Part × Traced) → Type 0
  IsEntryAt at role act = IsEntry (values_by triggers) (kept_on shelves).ops at role act (hits_here (kept_on shelves) at) (read_here (kept_on shelves) at)

  -- where there is no act, none is kept
  none_kept : (at : At) → acts at ≡ None → (role : Role) → IsEntryAt at role None → (key : List Part) → is_kept shelves at role key ≡ false
  none_kept at none Plain entry key = ap is_some (entry.1 key)
  none_kept at none Saves entry key = ap is_some (entry.1 key)
  none_kept at none (Reads saver) entry key = ap is_some (views.kept.ops (record { saver = saver; key = key }) at ∙ op_absent (role_on shelves) (admits_on shelves) acts (record { saver = saver; key = key }) at none)

  -- each act is kept
  one_kept : (at : At) (a : List Part × Traced) → acts at ≡ Some a → (role : Role) → role_on shelves at.trigger ≡ role → IsEntryAt at role (Some a) → is_kept shelves at role a.0 ≡ true
  one_kept at a there Plain is entry = ap is_some (entry.1 a.0) ∙ ap (λ b. is_some (cond b (Some (values_by triggers at.trigger at.pos a.1 None)) None)) (itself key_cmp_total a.0)
  one_kept at a there Saves is entry = ap is_some (entry.1 a.0) ∙ ap (λ b. is_some (cond b (Some (values_by triggers at.trigger at.pos a.1 None)) None)) (itself key_cmp_total a.0)
  one_kept at a there (Reads saver) is entry = ap is_some (views.kept.ops (record { saver = saver; key = a.0 }) at ∙ op_read (role_on shelves) (admits_on shelves) acts at saver a is there)

  act_told : (at : At) → input_of triggers lanes shelves at ≡ acts at
  unfolding input_of
  act_told at = by (acts at) refl (views.kept.entries at)
    where
      told : List Part × Traced → Option (List Part × Traced)
      told act = cond (is_kept shelves at (role_on shelves at.trigger) act.0) (Some act) None

      by : (act : Option (List Part × Traced)) → acts at ≡ act → IsEntryAt at (role_on shelves at.trigger) act → option_and_then told (act_by_id triggers at.trigger (event_at lanes at.pos.cpu at.pos.line)) ≡ act
      by None none entry = elim (act_by_id triggers at.trigger (event_at lanes at.pos.cpu at.pos.line)) as (λ o. option_and_then told o ≡ None) [
        | None ↦ refl
        | Some a ↦ ap (λ b. cond b (Some a) None) (none_kept at none (role_on shelves at.trigger) entry a.0)
      ]
      by (Some a) there entry =
          let held = views.held at a there in
          ap (λ event. option_and_then told (act_by_id triggers at.trigger event)) held.0.0
          ∙ ap (option_and_then told) held.1
          ∙ ap (λ b. cond b (Some a) None) (one_kept at a there (role_on shelves at.trigger) refl entry)

  -- shelves are views only of these acts
  pub acts_are : input_of triggers lanes shelves ≡ acts
  acts_are i at = act_told at i

  -- and so views of the acts that they tell
  pub tells : AreViews triggers lanes shelves
  tells = subst (λ (a : Acts). AreViewsOf triggers lanes a shelves) (sym acts_are) views
