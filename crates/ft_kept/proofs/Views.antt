-- Views of acts, as one act or those of an event change, and the acts at events.
use Rattle.std.proofs.Common.{◌≡◌, ℕ, Bool, true, false, cond, List, [], refl, sym, ap, subst, ◌∙◌, Some, None, Option, inl, inr, unwrap_or, option_and_then}
use Rattle.std.specs.Ordering.{eq_by_cmp}
use Rattle.std.specs.Cmp.{eq_by_cmp_equiv}
use Rattle.std.specs.Option.{option_map_or}
use Rattle.std.specs.FinMap as map
use Rattle.std.specs.FinMap.{FinMap}
use Rattle.ft_fields.specs.Places.{pos_cmp, pos_cmp_total, pos_same}
use Rattle.ft_fields.specs.Traced.{Traced}
use Rattle.ft_fields.specs.declared.pos.Pos.{Pos}
use Rattle.ft_hist.specs.Hist.{Hist}
use Rattle.ft_hist.specs.Triggers.{Triggers}
use Rattle.ft_fields.specs.declared.key.Part.{Part}
use Rattle.ft_lanes.specs.Held.{Lanes}
use Rattle.ft_maps.specs.Entries.{same_from_tie}
use Rattle.ft_pairs.specs.Order.{at_cmp_total, at_same}
use Rattle.ft_pairs.specs.declared.at.At.{At}
use Rattle.ft_table.specs.Values.{values_at, values_by}
use Rattle.ft_kept.specs.Acts.{Acts, AreHeld, IsHeldAct, acts_of}
use Rattle.ft_kept.specs.Views.{AreViewsOf, HasAt, act_by_id, act_under, set, with_event, with_some}
use Rattle.ft_kept.specs.Signs.{act_before, act_after}
use Rattle.ft_kept.specs.inner.OneAct.{IsDoneToo, IsOneAct}
use Rattle.ft_shelves.specs.Shelves.{Shelves}
use Rattle.ft_shelves.specs.declared.sign.Sign.{Sign}
use Rattle.ft_shelves.specs.declared.sign.Sign.TheVariants.{Insert, Retract}
use Rattle.ft_shelves.proofs.Decided.{at_decided, itself, none_not_some, untied}
use Rattle.ft_kept.proofs.Between.{act_of}

abbrev Acted : Type 0
Acted = Option (List Part × Traced)

-- ---- one act

module _ (acts : Acts) (at : At) (act : Acted) where
  pub set_here : set acts at act at ≡ act
  set_here = ap (λ b. cond b act (acts at)) (itself at_cmp_total at)

  pub set_apart : (q : At) → (q ≡ at → ⊥) → set acts at act q ≡ acts q
  set_apart q apart = ap (λ b. cond b act (acts q)) (untied at_cmp_total at_same q at apart)

  -- if it was there already, nothing changes
  pub set_same : acts at ≡ act → set acts at act ≡ acts
  set_same was i q = same q i
    where
      same : (q : At) → set acts at act q ≡ acts q
      same q = elim (at_decided q at) [
        | inl own ↦ subst (λ p. set acts at act p ≡ acts p) (sym own) (set_here ∙ sym was)
        | inr apart ↦ set_apart q apart
      ]

-- one act more or less is one act
pub one_changes : (sign : Sign) (acts : Acts) (at : At) (act : List Part × Traced) → acts at ≡ act_before sign act → IsOneAct at act acts (set acts at (act_after sign act))
one_changes Insert acts at act was = record { elsewhere = set_apart acts at (Some act); here = inl (was, set_here acts at (Some act)) }
one_changes Retract acts at act was = record { elsewhere = set_apart acts at None; here = inr (was, set_here acts at None) }

-- and one of a held event
pub held_changes : (sign : Sign) (acts : Acts) (at : At) (act : List Part × Traced) (triggers : Triggers) (lanes : Lanes) → AreHeld triggers lanes acts → IsHeldAct triggers lanes at act → AreHeld triggers lanes (set acts at (act_after sign act))
held_changes sign acts at act triggers lanes held here q a is = elim (at_decided q at) [
  | inl own ↦ subst (λ p. IsHeldAct triggers lanes p a) (sym own) (by sign (sym (set_here acts at (act_after sign act)) ∙ ap (set acts at (act_after sign act)) (sym own) ∙ is))
  | inr apart ↦ held q a (sym (set_apart acts at (act_after sign act) q apart) ∙ is)
]
  where
    by : (w : Sign) → act_after w act ≡ Some a → IsHeldAct triggers lanes at a
    by Insert is = subst (IsHeldAct triggers lanes at) (ap (λ o. unwrap_or o act) is) here
    by Retract is = absurd (none_not_some None a refl is)

-- views of acts are views of acts that are the same
pub views_as : (triggers : Triggers) (lanes : Lanes) (acts same : Acts) (shelves : Shelves) → acts ≡ same → AreViewsOf triggers lanes acts shelves → AreViewsOf triggers lanes same shelves
views_as triggers lanes acts same shelves is views = subst (λ (a : Acts). AreViewsOf triggers lanes a shelves) is views

-- ---- the acts of an event, trigger by trigger

-- what an attached trigger's hit adds
pub values_there : (triggers : Triggers) (id : ℕ) (hist : Hist) (pos : Pos) (event : Traced) (saved : Option Pos) → map.get triggers id ≡ Some hist → values_by triggers id pos event saved ≡ values_at hist pos event saved
unfolding values_by
values_there triggers id hist pos event saved attached = ap (λ (o : Option Hist). option_map_or (λ hist. values_at hist pos event saved) o []) attached

-- an attached trigger's
pub attached_act : (triggers : Triggers) (id : ℕ) (hist : Hist) → map.get triggers id ≡ Some hist → (event : Option Traced) → act_by_id triggers id event ≡ option_and_then (act_under hist) event
attached_act triggers id hist attached None = refl
attached_act triggers id hist attached (Some event) = ap (option_and_then (λ (h : Hist). act_under h event)) attached

-- and those of one that isn't
pub unattached_act : (triggers : Triggers) (id : ℕ) → map.get triggers id ≡ None → (event : Option Traced) → act_by_id triggers id event ≡ None
unattached_act triggers id none None = refl
unattached_act triggers id none (Some event) = ap (option_and_then (λ (h : Hist). act_under h event)) none

module _ (triggers : Triggers) (acts : Acts) (pos : Pos) (before after : Option Traced) (was : (id : ℕ) → acts (act_of pos id) ≡ act_by_id triggers id before) where
  abbrev with_done : (ℕ → Bool) → Acts
  with_done done = with_some triggers acts pos after done

  at_pos : (done : ℕ → Bool) (id : ℕ) (b : Bool) → done id ≡ b → with_done done (act_of pos id) ≡ cond b (act_by_id triggers id after) (acts (act_of pos id))
  at_pos done id b is =
      ap (λ t. cond t (cond (done id) (act_by_id triggers id after) (acts (act_of pos id))) (acts (act_of pos id))) ((eq_by_cmp_equiv pos_cmp_total).refl pos)
      ∙ ap (λ d. cond d (act_by_id triggers id after) (acts (act_of pos id))) is

  -- one that isn't done acts as before
  pub not_done : (done : ℕ → Bool) (id : ℕ) → done id ≡ false → with_done done (act_of pos id) ≡ act_by_id triggers id before
  not_done done id is = at_pos done id false is ∙ was id

  -- acts are the same, if they are so elsewhere and at the place
  by_place : (first second : Acts) → ((q : At) → eq_by_cmp pos_cmp q.pos pos ≡ false → first q ≡ second q) → ((id : ℕ) → first (act_of pos id) ≡ second (act_of pos id)) → first ≡ second
  by_place first second elsewhere here i q = (elim (eq_by_cmp pos_cmp q.pos pos) as (λ (b : Bool). eq_by_cmp pos_cmp q.pos pos ≡ b → first q ≡ second q) [
    | true ↦ λ tie. subst (λ (p : Pos). first (act_of p q.trigger) ≡ second (act_of p q.trigger)) (sym (same_from_tie pos_same q.pos pos tie)) (here q.trigger)
    | false ↦ λ apart. elsewhere q apart
  ] refl) i

  apart_from : (done : ℕ → Bool) (q : At) → eq_by_cmp pos_cmp q.pos pos ≡ false → with_done done q ≡ acts q
  apart_from done q apart = ap (λ b. cond b (cond (done q.trigger) (act_by_id triggers q.trigger after) (acts q)) (acts q)) apart

  -- before any is done the acts are those before
  pub none_done : (done : ℕ → Bool) → ((id : ℕ) → done id ≡ true → map.get triggers id ≡ None) → with_done done ≡ acts
  none_done done out = by_place (with_done done) acts (apart_from done)
      (λ id. elim (done id) as (λ (b : Bool). done id ≡ b → with_done done (act_of pos id) ≡ acts (act_of pos id)) [
        | true ↦ λ is. at_pos done id true is ∙ unattached_act triggers id (out id is) after ∙ sym (was id ∙ unattached_act triggers id (out id is) before)
        | false ↦ λ is. at_pos done id false is
      ] refl)

  -- one more is done
  pub one_done : (id : ℕ) (done more : ℕ → Bool) → IsDoneToo id done more → set (with_done done) (act_of pos id) (act_by_id triggers id after) ≡ with_done more
  one_done id done more too i q = same q i
    where
      same : (q : At) → set (with_done done) (act_of pos id) (act_by_id triggers id after) q ≡ with_done more q
      same q = elim (at_decided q (act_of pos id)) [
        | inl own ↦ subst (λ p. set (with_done done) (act_of pos id) (act_by_id triggers id after) p ≡ with_done more p) (sym own)
            (set_here (with_done done) (act_of pos id) (act_by_id triggers id after) ∙ sym (at_pos more id true too.is))
        | inr apart ↦ set_apart (with_done done) (act_of pos id) (act_by_id triggers id after) q apart ∙ elim (eq_by_cmp pos_cmp q.pos pos) as (λ (b : Bool). eq_by_cmp pos_cmp q.pos pos ≡ b → with_done done q ≡ with_done more q) [
          | true ↦ λ tie.
              let same : q ≡ act_of pos q.trigger = ap (λ (p : Pos). act_of p q.trigger) (same_from_tie pos_same q.pos pos tie) in
              subst (λ p. with_done done p ≡ with_done more p) (sym same)
              (at_pos done q.trigger (more q.trigger) (sym (too.others q.trigger (λ e. apart (same ∙ ap (act_of pos) e)))) ∙ sym (at_pos more q.trigger (more q.trigger) refl))
          | false ↦ λ other. apart_from done q other ∙ sym (apart_from more q other)
        ] refl
      ]

-- ---- the acts at events, as the event at one place changes

module _ (triggers : Triggers) (events : FinMap pos_cmp Traced) where
  -- at a place they are those at the event there
  pub has_at : (pos : Pos) (event : Option Traced) → map.get events pos ≡ event → HasAt triggers (acts_of triggers events) pos event
  unfolding acts_of
  has_at pos event is id = ap (act_by_id triggers id) is

  -- with another event at a place, or with none, they are those at other events
  module _ (others : FinMap pos_cmp Traced) (pos : Pos) (event : Option Traced) (here : map.get others pos ≡ event)
      (apart : (q : Pos) → eq_by_cmp pos_cmp q pos ≡ false → map.get others q ≡ map.get events q) where
    set_at : (q : At) → with_event triggers (acts_of triggers events) pos event q ≡ acts_of triggers others q
    unfolding acts_of
    set_at q = elim (eq_by_cmp pos_cmp q.pos pos) as (λ (b : Bool). eq_by_cmp pos_cmp q.pos pos ≡ b → cond b (act_by_id triggers q.trigger event) (act_by_id triggers q.trigger (map.get events q.pos)) ≡ act_by_id triggers q.trigger (map.get others q.pos)) [
      | true ↦ λ tie. ap (act_by_id triggers q.trigger) (sym here ∙ ap (map.get others) (sym (same_from_tie pos_same q.pos pos tie)))
      | false ↦ λ other. ap (act_by_id triggers q.trigger) (sym (apart q.pos other))
    ] refl

    pub set_event : with_event triggers (acts_of triggers events) pos event ≡ acts_of triggers others
    set_event i q = set_at q i
