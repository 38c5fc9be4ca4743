-- The operations that acts are.
use Rattle.std.proofs.Common.{◌≡◌, ℕ, refl, sym, ap, subst, ◌∙◌, Some, None, Option, inl, inr, ◌⊎◌, List, option_and_then, option_map, if◌then◌else◌, unwrap_or}
use Rattle.std.specs.Ordering.{eq_by_cmp}
use Rattle.ft_fields.specs.Traced.{Traced}
use Rattle.ft_fields.specs.declared.pos.Pos.{Pos}
use Rattle.ft_fields.specs.declared.key.Part.{Part}
use Rattle.ft_pairs.specs.Source.{Ops, IsSource}
use Rattle.ft_pairs.specs.declared.at.At.{At}
use Rattle.ft_pairs.specs.declared.at.Op.TheVariants.{Save, Read}
use Rattle.ft_kept.specs.Acts.{Acts, op_of}
use Rattle.ft_kept.specs.inner.OneAct.{IsOneAct}
use Rattle.ft_kept.specs.Entries.{HitsHere, IsEntry, one_hit}
use Rattle.ft_pairs.specs.Roles.{Admits, op_as, variable_of}
use Rattle.ft_table.specs.Values.{ValuesBy}
use Rattle.ft_pairs.specs.Variables.{variable_cmp, variable_cmp_total, variable_same}
use Rattle.ft_pairs.specs.declared.role.Role.{Role}
use Rattle.ft_pairs.specs.declared.role.Role.TheVariants.{Plain, Saves, Reads}
use Rattle.ft_pairs.specs.declared.role.Variable.{Variable}
use Rattle.ft_shelves.proofs.Decided.{itself, untied, at_decided, variable_decided}

-- ---- operations of acts

-- an act is an operation only on its own variable
pub op_else : (admits : Admits) (role : Role) (variable : Variable) (id : ℕ) (key : List Part) → (variable_of role id key ≡ Some variable → ⊥) → op_as admits role variable id key ≡ None
op_else admits Plain variable id key not_own = refl
op_else admits Saves variable id key not_own =
    ap (λ b. if b then (if admits id key then Some Save else None) else None)
    (untied variable_cmp_total variable_same variable (record { saver = id; key = key }) (λ e. not_own (ap Some (sym e))))
op_else admits (Reads saver) variable id key not_own =
    ap (λ b. if b then Some Read else None)
    (untied variable_cmp_total variable_same variable (record { saver = saver; key = key }) (λ e. not_own (ap Some (sym e))))

-- it stays, if its key stays in its saver's table or out
op_alike : (was now : Admits) (role : Role) (variable : Variable) (id : ℕ) (key : List Part) → now variable.saver variable.key ≡ was variable.saver variable.key → op_as now role variable id key ≡ op_as was role variable id key
op_alike was now Plain variable id key alike = refl
op_alike was now (Reads saver) variable id key alike = refl
op_alike was now Saves variable id key alike = elim (variable_decided variable (record { saver = id; key = key })) [
  | inl own ↦ ap (λ b. if eq_by_cmp variable_cmp variable (record { saver = id; key = key }) then (if b then Some Save else None) else None) (subst (λ (v : Variable). now v.saver v.key ≡ was v.saver v.key) own alike)
  | inr other ↦ let not_own : Some (record { saver = id; key = key }) ≡ Some variable → ⊥ = λ e. other (sym (ap (λ (o : Option Variable). unwrap_or o variable) e)) in
      op_else now Saves variable id key not_own ∙ sym (op_else was Saves variable id key not_own)
]

-- or if the act's key stays in its trigger's table or out
op_kept : (was now : Admits) (role : Role) (variable : Variable) (id : ℕ) (key : List Part) → now id key ≡ was id key → op_as now role variable id key ≡ op_as was role variable id key
op_kept was now Plain variable id key same = refl
op_kept was now Saves variable id key same = ap (λ b. if eq_by_cmp variable_cmp variable (record { saver = id; key = key }) then (if b then Some Save else None) else None) same
op_kept was now (Reads saver) variable id key same = refl

module _ (role : ℕ → Role) where
  module _ (was now : Admits) (before after : Acts) (variable : Variable) (q : At) where
    op_same : ((key : List Part) → op_as now (role q.trigger) variable q.trigger key ≡ op_as was (role q.trigger) variable q.trigger key) → after q ≡ before q → op_of role now after variable q ≡ op_of role was before variable q
    unfolding op_of
    op_same same acts =
        ap (option_and_then (λ act. op_as now (role q.trigger) variable q.trigger act.0)) acts
        ∙ ap (λ f. option_and_then f (before q)) (λ i act. same act.0 i)

    -- if the act is the same, and whether the key is in its table, so is the operation
    pub op_elsewhere : now variable.saver variable.key ≡ was variable.saver variable.key → after q ≡ before q → op_of role now after variable q ≡ op_of role was before variable q
    op_elsewhere alike = op_same (λ key. op_alike was now (role q.trigger) variable q.trigger key alike)

    -- or whether the keys of its trigger are
    pub same_ops_of : ((key : List Part) → now q.trigger key ≡ was q.trigger key) → after q ≡ before q → op_of role now after variable q ≡ op_of role was before variable q
    same_ops_of keys = op_same (λ key. op_kept was now (role q.trigger) variable q.trigger key (keys key))

  -- where there is no act, there is no operation
  pub op_absent : (admits : Admits) (acts : Acts) (variable : Variable) (q : At) → acts q ≡ None → op_of role admits acts variable q ≡ None
  unfolding op_of
  op_absent admits acts variable q none = ap (option_and_then (λ act. op_as admits (role q.trigger) variable q.trigger act.0)) none

  -- what an act is as an operation
  pub op_there : (admits : Admits) (acts : Acts) (variable : Variable) (q : At) (act : List Part × Traced) → acts q ≡ Some act → op_of role admits acts variable q ≡ op_as admits (role q.trigger) variable q.trigger act.0
  unfolding op_of
  op_there admits acts variable q act is = ap (option_and_then (λ a. op_as admits (role q.trigger) variable q.trigger a.0)) is

  -- at an act's own place another variable has no operation
  pub op_none : (admits : Admits) (acts : Acts) (variable : Variable) (q : At) (act : List Part × Traced) → (acts q ≡ None) ⊎ (acts q ≡ Some act) → (variable_of (role q.trigger) q.trigger act.0 ≡ Some variable → ⊥) → op_of role admits acts variable q ≡ None
  op_none admits acts variable q act (inl none) not_own = op_absent admits acts variable q none
  op_none admits acts variable q act (inr some) not_own = op_there admits acts variable q act some ∙ op_else admits (role q.trigger) variable q.trigger act.0 not_own

  -- a reader's act is a read of its own variable
  pub op_read : (admits : Admits) (acts : Acts) (q : At) (saver : ℕ) (act : List Part × Traced) → role q.trigger ≡ Reads saver → acts q ≡ Some act → op_of role admits acts (record { saver = saver; key = act.0 }) q ≡ Some Read
  op_read admits acts q saver act reads is =
      op_there admits acts (record { saver = saver; key = act.0 }) q act is
      ∙ ap (λ r. op_as admits r (record { saver = saver; key = act.0 }) q.trigger act.0) reads
      ∙ ap (λ b. if b then Some Read else None) (itself variable_cmp_total (record { saver = saver; key = act.0 }))

-- if keys stay in tables or out, a variable that isn't the act's own keeps its operations
pub others_stay : (role : ℕ → Role) (was now : Admits) (before after : Acts) (c : At) (act : List Part × Traced) → IsOneAct c act before after → (v : Variable)
    → (variable_of (role c.trigger) c.trigger act.0 ≡ Some v → ⊥) → now v.saver v.key ≡ was v.saver v.key → (q : At) → op_of role now after v q ≡ op_of role was before v q
others_stay role was now before after c act one v not_own alike q = elim (at_decided q c) [
  | inl at ↦ subst (λ p. op_of role now after v p ≡ op_of role was before v p) (sym at) (elim one.here [
    | inl h ↦ op_none role now after v c act (inr h.1) not_own ∙ sym (op_absent role was before v c h.0)
    | inr h ↦ op_absent role now after v c h.1 ∙ sym (op_none role was before v c act (inr h.0) not_own)
  ])
  | inr apart ↦ op_elsewhere role was now before after v q alike (one.elsewhere q apart)
]

-- ---- entries

module _ (values : ValuesBy) where
  -- what is kept of an act is the same if hits and readings are, and the readings find the same
  pub entry_same : (ops later : Variable → Ops) (at : At) (role : Role) (act : Option (List Part × Traced)) (hits hits' : HitsHere) (read read' : Option Pos)
      → ((key : List Part) → hits' key ≡ hits key) → read' ≡ read
      → ((saver : ℕ) (a : List Part × Traced) → role ≡ Reads saver → act ≡ Some a → (found : Option At) → IsSource (ops (record { saver = saver; key = a.0 })) at found → IsSource (later (record { saver = saver; key = a.0 })) at found)
      → IsEntry values ops at role act hits read → IsEntry values later at role act hits' read'
  entry_same ops later at role None hits hits' read read' same alike sources e = (alike ∙ e.0, λ key. same key ∙ e.1 key)
  entry_same ops later at Plain (Some a) hits hits' read read' same alike sources e = (alike ∙ e.0, λ key. same key ∙ e.1 key)
  entry_same ops later at Saves (Some a) hits hits' read read' same alike sources e = (alike ∙ e.0, λ key. same key ∙ e.1 key)
  entry_same ops later at (Reads saver) (Some a) hits hits' read read' same alike sources e = (
    (e.0.0, (sources saver a refl refl e.0.0 e.0.1.0, alike ∙ e.0.1.1)),
    λ key. same key ∙ e.1 key ∙ ap (λ (o : Option Pos). one_hit a.0 (option_map (λ saved. values at.trigger at.pos a.1 (Some saved)) o) key) (sym alike),
  )
