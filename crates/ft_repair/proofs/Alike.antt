-- What is kept of all triggers but one, if their shelves stay as they are.
use Rattle.std.proofs.Common.{◌≡◌, ℕ, Bool, true, false, cond, List, [], refl, sym, ap, subst, ◌∙◌, Option, Some, None}
use Rattle.std.specs.Prelude.{ℤ, option_map, option_and_then}
use Rattle.std.specs.FinMap as map
use Rattle.ft_pairs.specs.Source.{Ops}
use Rattle.ft_pairs.specs.declared.at.Op.{Op}
use Rattle.ft_pairs.specs.declared.at.Op.TheVariants.{Save, Read}
use Rattle.ft_pairs.specs.Variables.{variable_cmp, variable_cmp_total, variable_same}
use Rattle.ft_kept.proofs.Forms.{same_admits, same_hits, same_read}
pub use Rattle.ft_kept.proofs.Forms.{same_ops}
use Rattle.ft_base.specs.Base.{Triggers}
use Rattle.ft_base.specs.Roles.{role_at, role_of}
use Rattle.ft_fields.specs.Traced.{Traced}
use Rattle.ft_fields.specs.declared.key.Part.{Part}
use Rattle.ft_fields.specs.declared.pos.Pos.{Pos}
use Rattle.ft_hist.specs.Hist.{Hist}
use Rattle.ft_kept.specs.Acts.{Acts, acts_of, op_of}
use Rattle.ft_kept.specs.Entries.{Finds, hits_here, HitsHere, IsEntry, IsRight, one_hit, read_here}
use Rattle.ft_kept.specs.Shelves.{admits_on, Kept, kept_on, Shelved, Shelves}
use Rattle.ft_maps.specs.Entries.{get-remove_other, get-remove_same, same_from_tie}
use Rattle.ft_pairs.specs.Roles.{Admits, op_as}
use Rattle.ft_pairs.specs.declared.at.At.{At}
use Rattle.ft_pairs.specs.declared.role.Role.{Role}
use Rattle.ft_pairs.specs.declared.role.Role.TheVariants.{Plain, Reads, Saves}
use Rattle.ft_pairs.specs.declared.role.Variable.{Variable}
use Rattle.ft_repair.specs.KeptShelves.{HasItsShelf}
use Rattle.ft_replay.specs.Merged.{Events}
use Rattle.ft_shelves.proofs.Decided.{untied}
use Rattle.ft_table.specs.Spots.{traced}
use Rattle.ft_table.specs.Values.{values_at, values_by, ValuesBy}
use Rattle.std.specs.Cmp.{nat_cmp_total}
use Rattle.std.specs.FinMap.{nat_cmp-IsAntisymmetric}
use Rattle.std.specs.Option.{option_map_or}
use Rattle.std.specs.Ordering.{eq_by_cmp}
use Rattle.ft_repair.proofs.KeptFor.{act_in}

-- ---- acts

-- a trigger that is the same has the same acts
pub acts_same : (old new : Triggers) (events : Events) (at : At) → map.get new at.trigger ≡ map.get old at.trigger → acts_of new events at ≡ acts_of old events at
unfolding acts_of
acts_same old new events at same = ap (λ (hist : Option Hist). option_and_then (λ (e : Traced). act_in hist e) (map.get events at.pos)) same

pub never_any : {X Y : Type 0} (o : Option X) → ◌≡◌ {A = Option Y} (option_and_then (λ _. None) o) None
never_any None = refl
never_any (Some x) = refl

-- no trigger, no act
pub no_act_of : (triggers : Triggers) (events : Events) (at : At) → map.get triggers at.trigger ≡ None → acts_of triggers events at ≡ None
unfolding acts_of
no_act_of triggers events at none = ap (λ (hist : Option Hist). option_and_then (λ (e : Traced). act_in hist e) (map.get events at.pos)) none ∙ never_any (map.get events at.pos)

-- ---- operations

-- an operation depends only on its saver's keys
op_as_same : (old new : Admits) (role : Role) (variable : Variable) (id : ℕ) → (role ≡ Saves → id ≡ variable.saver → (key : List Part) → new id key ≡ old id key) → (key : List Part) → op_as new role variable id key ≡ op_as old role variable id key
op_as_same old new Plain variable id same key = refl
op_as_same old new Saves variable id same key =
    let own : Variable = record { saver = id; key = key } in
    elim (eq_by_cmp variable_cmp variable own) as (λ (b : Bool). eq_by_cmp variable_cmp variable own ≡ b → cond b (cond (new id key) (Some Save) None) None ≡ cond b (cond (old id key) (Some Save) None) None) [
      | true ↦ λ tie. ap (λ (b : Bool). cond b (Some Save) None) (same refl (sym (ap (λ (v : Variable). v.saver) (same_from_tie variable_same variable own tie))) key)
      | false ↦ λ _. refl
    ] refl
op_as_same old new (Reads saver) variable id same key = refl

abbrev by_act : Admits → Role → Variable → At → List Part × Traced → Option Op
by_act admits role variable at act = op_as admits role variable at.trigger act.0

-- an act that stays is the same operation, if its trigger does the same
pub op_stays_there : (role more : ℕ → Role) (old new : Admits) (acts others : Acts) (variable : Variable) (at : At) → more at.trigger ≡ role at.trigger → others at ≡ acts at
    → (role at.trigger ≡ Saves → at.trigger ≡ variable.saver → (key : List Part) → new at.trigger key ≡ old at.trigger key)
    → op_of more new others variable at ≡ op_of role old acts variable at
unfolding op_of
op_stays_there role more old new acts others variable at as_role act saves =
    (λ i. option_and_then (by_act new (as_role i) variable at) (act i))
    ∙ ap (λ (f : List Part × Traced → Option Op). option_and_then f (acts at)) (λ i x. op_as_same old new (role at.trigger) variable at.trigger saves x.0 i)

-- so it is with the same role and the same shelf
pub op_same : (role more : ℕ → Role) (old new : Shelves) (acts others : Acts) (variable : Variable) (at : At)
    → more at.trigger ≡ role at.trigger → map.get new at.trigger ≡ map.get old at.trigger → others at ≡ acts at
    → op_of more (admits_on new) others variable at ≡ op_of role (admits_on old) acts variable at
op_same role more old new acts others variable at as_role shelf act =
    op_stays_there role more (admits_on old) (admits_on new) acts others variable at as_role act
    (λ _ _. same_admits old new at.trigger shelf)

-- no act, no operation
pub no_op_there : (role : ℕ → Role) (admits : Admits) (acts : Acts) (variable : Variable) (at : At) → acts at ≡ None → op_of role admits acts variable at ≡ None
unfolding op_of
no_op_there role admits acts variable at none = ap (λ (o : Option (List Part × Traced)). option_and_then (by_act admits (role at.trigger) variable at) o) none

-- a variable of one saver is no other's
apart_variables : (variable : Variable) (saver : ℕ) (key : List Part) → (saver ≡ variable.saver → ⊥) → eq_by_cmp variable_cmp variable (record { saver = saver; key = key }) ≡ false
apart_variables variable saver key apart = untied variable_cmp_total variable_same variable (record { saver = saver; key = key }) (λ same. apart (sym (ap (λ (v : Variable). v.saver) same)))

-- a trigger that neither saves a variable nor reads it does nothing to it
op_as_none : (admits : Admits) (role : Role) (variable : Variable) (id : ℕ) (key : List Part) → (role ≡ Saves → id ≡ variable.saver → ⊥) → (role ≡ Reads variable.saver → ⊥) → op_as admits role variable id key ≡ None
op_as_none admits Plain variable id key saves reads = refl
op_as_none admits Saves variable id key saves reads = ap (λ (b : Bool). cond b (cond (admits id key) (Some Save) None) None) (apart_variables variable id key (saves refl))
op_as_none admits (Reads saver) variable id key saves reads =
    ap (λ (b : Bool). cond b (Some Read) None) (apart_variables variable saver key (λ (same : saver ≡ variable.saver). reads (ap (λ (k : ℕ). Reads k) same)))

pub no_op_of : (role : ℕ → Role) (admits : Admits) (acts : Acts) (variable : Variable) (at : At)
    → (role at.trigger ≡ Saves → at.trigger ≡ variable.saver → ⊥) → (role at.trigger ≡ Reads variable.saver → ⊥) → op_of role admits acts variable at ≡ None
unfolding op_of
no_op_of role admits acts variable at saves reads =
    ap (λ (f : List Part × Traced → Option Op). option_and_then f (acts at)) (λ i x. op_as_none admits (role at.trigger) variable at.trigger x.0 saves reads i)
    ∙ never_any (acts at)

-- ---- entries

-- what is kept at a place goes by its trigger's values, and by the operations on what the trigger reads
pub entry_moves : (at : At) (values others : ValuesBy) → ((pos : Pos) (event : Traced) (saved : Option Pos) → others at.trigger pos event saved ≡ values at.trigger pos event saved)
    → (ops more : Variable → Ops) (hits : HitsHere) (read : Option Pos) (role : Role) (act : Option (List Part × Traced))
    → ((saver : ℕ) → role ≡ Reads saver → (key : List Part) → more (record { saver = saver; key = key }) ≡ ops (record { saver = saver; key = key }))
    → IsEntry values ops at role act hits read → IsEntry others more at role act hits read
entry_moves at values others same ops more hits read role None alike is = is
entry_moves at values others same ops more hits read Plain (Some act) alike is = (is.0, λ key. is.1 key ∙ ap (λ (v : List ℤ). one_hit act.0 (Some v) key) (sym (same at.pos act.1 None)))
entry_moves at values others same ops more hits read Saves (Some act) alike is = (is.0, λ key. is.1 key ∙ ap (λ (v : List ℤ). one_hit act.0 (Some v) key) (sym (same at.pos act.1 None)))
entry_moves at values others same ops more hits read (Reads saver) (Some act) alike is = (
  subst (λ (o : Ops). Finds o at read) (sym (alike saver refl act.0)) is.0,
  λ key. is.1 key ∙ ap (λ (f : Pos → List ℤ). one_hit act.0 (option_map f read) key) (λ i saved. sym (same at.pos act.1 (Some saved)) i),
)

pub same_values : (old new : Triggers) (id : ℕ) → map.get new id ≡ map.get old id → (pos : Pos) (event : Traced) (saved : Option Pos) → values_by new id pos event saved ≡ values_by old id pos event saved
unfolding values_by
same_values old new id same pos event saved = ap (λ (o : Option Hist). option_map_or (λ (h : Hist). values_at h pos event saved) o []) same

-- a trigger that stays keeps its entries, if it keeps its shelf and the operations on what it reads stay
pub right_moves : (triggers others : Triggers) (acts more : Acts) (old new : Shelves) (at : At)
    → map.get others at.trigger ≡ map.get triggers at.trigger → role_at others at.trigger ≡ role_at triggers at.trigger → more at ≡ acts at → map.get new at.trigger ≡ map.get old at.trigger
    → ((saver : ℕ) → role_at triggers at.trigger ≡ Reads saver → (key : List Part) → (kept_on new).ops (record { saver = saver; key = key }) ≡ (kept_on old).ops (record { saver = saver; key = key }))
    → IsRight (role_at triggers) (values_by triggers) acts (kept_on old) at → IsRight (role_at others) (values_by others) more (kept_on new) at
right_moves triggers others acts more old new at hist role act shelf ops is =
    subst (λ (x : (Role × Option (List Part × Traced)) × (HitsHere × Option Pos)). IsEntry (values_by others) (kept_on new).ops at x.0.0 x.0.1 x.1.0 x.1.1)
    (λ i. ((sym role i, sym act i), (λ key. sym (same_hits old new at.trigger shelf (record { spot = traced at.pos; key = key })) i, sym (same_read old new at.trigger shelf at.pos) i)))
    (entry_moves at (values_by triggers) (values_by others) (same_values triggers others at.trigger hist) (kept_on old).ops (kept_on new).ops (hits_here (kept_on old) at) (read_here (kept_on old) at) (role_at triggers at.trigger) (acts at) ops is)

-- if no trigger acts and nothing is kept, that is right
pub right_none : (role : ℕ → Role) (values : ValuesBy) (acts : Acts) (kept : Kept) (at : At) → acts at ≡ None → read_here kept at ≡ None → ((key : List Part) → hits_here kept at key ≡ None) → IsRight role values acts kept at
right_none role values acts kept at none read hits =
    subst (λ (act : Option (List Part × Traced)). IsEntry values kept.ops at (role at.trigger) act (hits_here kept at) (read_here kept at)) (sym none) (read, hits)

-- ---- shelves

its_same : (triggers others : Triggers) (hist : Option Hist) (shelf : Option Shelved)
    → option_map_or (λ (h : Hist). role_of others h.variable) hist Plain ≡ option_map_or (λ (h : Hist). role_of triggers h.variable) hist Plain
    → HasItsShelf triggers hist shelf → HasItsShelf others hist shelf
its_same triggers others None shelf same has = has
its_same triggers others (Some hist) shelf same has = (has.0, (has.1.0, record { role = has.1.1.role ∙ sym same; size = has.1.1.size; traced = has.1.1.traced }))

-- a trigger that stays, with its role and its shelf, has its shelf
pub shelf_same : (triggers others : Triggers) (old new : Shelves) (id : ℕ)
    → map.get others id ≡ map.get triggers id → role_at others id ≡ role_at triggers id → map.get new id ≡ map.get old id
    → HasItsShelf triggers (map.get triggers id) (map.get old id) → HasItsShelf others (map.get others id) (map.get new id)
unfolding role_at
shelf_same triggers others old new id hist role shelf has =
    subst (λ (x : Option Hist × Option Shelved). HasItsShelf others x.0 x.1) (λ i. (sym hist i, sym shelf i))
    (its_same triggers others (map.get triggers id) (map.get old id) (ap (λ (o : Option Hist). option_map_or (λ (h : Hist). role_of others h.variable) o Plain) (sym hist) ∙ role) has)

-- ---- one trigger and the others

module _ (triggers : Triggers) (id : ℕ) where
  abbrev pub rest : Triggers
  rest = map.remove triggers id

  pub rest_same : (other : ℕ) → (other ≡ id → ⊥) → map.get rest other ≡ map.get triggers other
  rest_same other apart = get-remove_other nat_cmp_total nat_cmp-IsAntisymmetric triggers id other apart

  pub rest_none : (other : ℕ) → other ≡ id → map.get rest other ≡ None
  rest_none other same = ap (map.get rest) same ∙ get-remove_same nat_cmp_total triggers id

  -- the one has no acts among those of the others
  pub rest_no_act : (events : Events) (at : At) → at.trigger ≡ id → acts_of rest events at ≡ None
  rest_no_act events at same = no_act_of rest events at (rest_none at.trigger same)
