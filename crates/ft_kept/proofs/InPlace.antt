-- If an act came or went at its own place, readings elsewhere are right, except perhaps the next one and those of keys that moved.
use Rattle.std.proofs.Common.{◌≡◌, ℕ, Bool, true, false, List, refl, sym, ap, subst, ◌∙◌, Some, None, Option, inl, inr, option_map, ◌⊎◌, true≢false}
use Rattle.ft_fields.specs.Traced.{Traced}
use Rattle.ft_fields.specs.declared.pos.Pos.{Pos}
use Rattle.ft_fields.specs.declared.key.Part.{Part}
use Rattle.ft_pairs.specs.Edits.{KeepsSource}
use Rattle.ft_pairs.specs.Next.{IsNext}
use Rattle.ft_pairs.specs.Roles.{variable_of}
use Rattle.ft_pairs.specs.Source.{Ops}
use Rattle.ft_pairs.specs.declared.at.At.{At}
use Rattle.ft_pairs.specs.declared.at.Op.{Op}
use Rattle.ft_pairs.specs.declared.at.Op.TheVariants.{Read}
use Rattle.ft_pairs.specs.declared.role.Role.{Role}
use Rattle.ft_pairs.specs.declared.role.Role.TheVariants.{Plain, Saves, Reads}
use Rattle.ft_pairs.specs.declared.role.Variable.{Variable}
use Rattle.ft_pairs.proofs.Local.{same_source}
use Rattle.ft_pairs.proofs.Touched.{but_next}
use Rattle.ft_shelves.specs.Shelves.{FormsStay, Shelves, admits_on, kept_on, role_on}
use Rattle.ft_shelves.proofs.Decided.{at_decided, variable_decided}
use Rattle.ft_table.specs.Values.{ValuesBy, values_by}
use Rattle.ft_kept.specs.Acts.{Acts, op_of}
use Rattle.ft_kept.specs.Entries.{HitsHere, IsCounted, IsEntry, IsReading, IsRight, hits_here, read_here}
use Rattle.ft_kept.specs.Views.{AreViewsOf, triggers_of}
use Rattle.ft_kept.specs.declared.act.Act.{Act}
use Rattle.ft_kept.specs.declared.act.Scene.{Scene}
use Rattle.ft_kept.specs.inner.Changing.{IsInPlace, MayChange, acts_after}
use Rattle.ft_kept.specs.inner.Edits.{StaysBut}
use Rattle.ft_kept.specs.inner.OneAct.{IsOneAct}
use Rattle.ft_kept.specs.inner.Readings.{CanSettle, IsReadRight, IsSwitched}
use Rattle.ft_kept.proofs.Forms.{roles_stay, shelved_stay}
use Rattle.ft_kept.proofs.Staleness.{op_elsewhere, op_read, others_stay}
use Rattle.ft_kept.proofs.Views.{attached_act, held_changes, one_changes}

same_or_not : (a b : Bool) → (a ≡ b) ⊎ (a ≡ b → ⊥)
same_or_not true true = inl refl
same_or_not true false = inr true≢false
same_or_not false true = inr (λ e. true≢false (sym e))
same_or_not false false = inl refl

own_decided : (own : Option Variable) (variable : Variable) → (own ≡ Some variable) ⊎ (own ≡ Some variable → ⊥)
own_decided None variable = inr (λ e. absurd (cc))
own_decided (Some v) variable = elim (variable_decided v variable) [ inl e ↦ inl (ap Some e) | inr not_own ↦ inr (λ e. not_own (cc)) ]

-- what holds of a place still holds, if its act stays, and its hits, and what was read there
pub carried : (P : Role → Option (List Part × Traced) → HitsHere → Option Pos → Type 0) (at q : At) (before after : Acts) (old new : Shelves)
    → FormsStay old new → StaysBut at (kept_on old) (kept_on new) → (q ≡ at → ⊥) → after q ≡ before q
    → P (role_on old q.trigger) (before q) (hits_here (kept_on old) q) (read_here (kept_on old) q) → P (role_on new q.trigger) (after q) (hits_here (kept_on new) q) (read_here (kept_on new) q)
carried P at q before after old new forms stays apart same = subst (λ (x : (Role × Option (List Part × Traced)) × (HitsHere × Option Pos)). P x.0.0 x.0.1 x.1.0 x.1.1)
    (λ i. ((sym (roles_stay old new forms q.trigger) i, sym same i), (λ key. sym ((stays q apart).0 key) i, sym (stays q apart).1 i)))

-- what is read is still right if sources stay, or else something else holds
read_or : {Else : Type 0} (ops later : Variable → Ops) (at : At) (role : Role) (act : Option (List Part × Traced)) (read : Option Pos)
    → ((saver : ℕ) (a : List Part × Traced) → role ≡ Reads saver → act ≡ Some a → KeepsSource (ops (record { saver = saver; key = a.0 })) (later (record { saver = saver; key = a.0 })) at ⊎ Else)
    → IsReading ops at role act read → IsReading later at role act read ⊎ Else
read_or ops later at role None read sources e = inl e
read_or ops later at Plain (Some a) read sources e = inl e
read_or ops later at Saves (Some a) read sources e = inl e
read_or ops later at (Reads saver) (Some a) read sources e = elim (sources saver a refl refl) [
  | inl keeps ↦ inl (e.0, (keeps e.0 e.1.0, e.1.1))
  | inr it ↦ inr it
]

module _ (act : Act) (acts : Acts) (old : Shelves) (may : MayChange act acts old) (new : Shelves) (placed : IsInPlace act acts old new) where
  abbrev values : ValuesBy
  values = values_by (triggers_of act.scene)

  abbrev own : List Part × Traced
  own = (act.key, act.event.now)

  abbrev after : Acts
  after = acts_after act acts

  -- the variable that the act is an operation on, if it is one
  abbrev own_variable : Option Variable
  own_variable = variable_of (role_on old act.at.trigger) act.at.trigger act.key

  one : IsOneAct act.at own acts after
  one = one_changes act.sign acts act.at own may.was

  right : IsRight (role_on new) values after (kept_on new) act.at
  right = subst (λ role. IsEntry values (kept_on new).ops act.at role (after act.at) (hits_here (kept_on new) act.at) (read_here (kept_on new) act.at)) (sym (roles_stay old new placed.forms act.at.trigger)) placed.right

  -- readings can be settled
  pub can_settle : CanSettle act.scene after new
  can_settle = record {
    shelved = shelved_stay (triggers_of act.scene) old new placed.forms may.views.shelved;
    held = held_changes act.sign acts act.at own (triggers_of act.scene) act.scene.lanes.now may.views.held
        (may.held, attached_act (triggers_of act.scene) act.at.trigger act.trigger.now may.attached (Some act.event.now) ∙ ap (option_map (λ (key : List Part). (key, act.event.now))) may.counts);
    ops = λ variable q. subst (λ (role : ℕ → Role). (kept_on new).ops variable q ≡ op_of role (admits_on new) after variable q) (λ i id. sym (roles_stay old new placed.forms id) i) (placed.ops variable q);
    counted = λ q. elim (at_decided q act.at) [
      | inl here ↦ subst (λ p. IsCounted values p (role_on new p.trigger) (after p) (hits_here (kept_on new) p) (read_here (kept_on new) p)) (sym here) right.1
      | inr apart ↦ carried (IsCounted values q) act.at q acts after old new placed.forms placed.stays apart (one.elsewhere q apart) (may.views.kept.entries q).1
    ];
  }

  -- operations stay on a variable whose key stays in its table or out, except at the act's place
  ops_apart : (variable : Variable) → admits_on new variable.saver variable.key ≡ admits_on old variable.saver variable.key → (q : At) → (q ≡ act.at → ⊥) → (kept_on new).ops variable q ≡ (kept_on old).ops variable q
  ops_apart variable alike q apart =
      placed.ops variable q
      ∙ op_elsewhere (role_on old) (admits_on old) (admits_on new) acts after variable q alike (one.elsewhere q apart)
      ∙ sym (may.views.kept.ops variable q)

  -- and there too, if it isn't the act's own
  ops_others : (variable : Variable) → admits_on new variable.saver variable.key ≡ admits_on old variable.saver variable.key → (own_variable ≡ Some variable → ⊥) → (q : At)
      → (kept_on new).ops variable q ≡ (kept_on old).ops variable q
  ops_others variable alike not_own q =
      placed.ops variable q
      ∙ others_stay (role_on old) (admits_on old) (admits_on new) acts after act.at own one variable not_own alike q
      ∙ sym (may.views.kept.ops variable q)

  module _ (next : Option (At × Op))
      (is_next : (variable : Variable) → own_variable ≡ Some variable → admits_on new variable.saver variable.key ≡ admits_on old variable.saver variable.key
      → IsNext ((kept_on new).ops variable) (Some act.at) next) where
    -- a reading finds what it found, is that of the next operation, or that of a key that moved
    source_or : (q : At) (saver : ℕ) (a : List Part × Traced) → role_on new q.trigger ≡ Reads saver → after q ≡ Some a
        → KeepsSource ((kept_on old).ops (record { saver = saver; key = a.0 })) ((kept_on new).ops (record { saver = saver; key = a.0 })) q ⊎ ((next ≡ Some (q, Read)) ⊎ IsSwitched old new q)
    source_or q saver a reads acting =
        let v : Variable = record { saver = saver; key = a.0 } in
        let there : (kept_on new).ops v q ≡ Some Read = can_settle.ops v q ∙ op_read (role_on new) (admits_on new) after q saver a reads acting in
        elim (same_or_not (admits_on new saver a.0) (admits_on old saver a.0)) [
          | inr moved ↦ inr (inr (record { variable = v; reads = there; moved = moved }))
          | inl alike ↦ elim (own_decided (own_variable) v) [
            | inl owns ↦ elim (but_next ((kept_on old).ops v) ((kept_on new).ops v) act.at (ops_apart v alike) next (is_next v owns alike) q Read there) [ inl it ↦ inr (inl it) | inr keeps ↦ inl keeps ]
            | inr not_own ↦ inl (same_source ((kept_on old).ops v) ((kept_on new).ops v) q (λ p _. ops_others v alike not_own p))
          ]
        ]

    -- each reading is right, is that of the next operation on the act's own variable, or that of a key that came into its saver's table or went out
    pub right_but : (q : At) → IsReadRight after new q ⊎ ((next ≡ Some (q, Read)) ⊎ IsSwitched old new q)
    right_but q = elim (at_decided q act.at) [
      | inl here ↦ inl (subst (IsReadRight after new) (sym here) right.0)
      | inr apart ↦ read_or (kept_on old).ops (kept_on new).ops q (role_on new q.trigger) (after q) (read_here (kept_on new) q) (source_or q)
          (carried (λ role a hits read. IsReading (kept_on old).ops q role a read) act.at q acts after old new placed.forms placed.stays apart (one.elsewhere q apart) (may.views.kept.entries q).0)
    ]

-- if all readings are right too, shelves are views of the acts
pub are_views : (scene : Scene) (acts : Acts) (shelves : Shelves) → CanSettle scene acts shelves → ((q : At) → IsReadRight acts shelves q) → AreViewsOf (triggers_of scene) scene.lanes.now acts shelves
are_views scene acts shelves can right = record { shelved = can.shelved; held = can.held; kept = record { ops = can.ops; entries = λ q. (right q, can.counted q) } }
