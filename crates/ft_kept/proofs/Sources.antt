-- A read among the operations is a reader's act under the variable's key, and if its reading is settled, it is right.
use Rattle.std.proofs.Common.{◌≡◌, ℕ, ℤ, Bool, true, false, cond, List, refl, sym, ap, ◌∙◌, Some, None, Option, option_map, subst, inl, inr, unwrap_or, ◌⊎◌, if◌then◌else◌}
use Rattle.std.specs.Ordering.{eq_by_cmp}
use Rattle.ft_fields.specs.Traced.{Traced}
use Rattle.ft_fields.specs.declared.pos.Pos.{Pos}
use Rattle.ft_fields.specs.declared.key.Part.{Part}
use Rattle.ft_fields.specs.Parts.{same_key}
use Rattle.ft_fields.specs.Ties.{key_same}
use Rattle.ft_lanes.specs.Held.{event_at}
use Rattle.ft_maps.specs.Entries.{same_from_tie}
use Rattle.ft_pairs.specs.declared.at.At.{At}
use Rattle.ft_pairs.specs.declared.at.Op.TheVariants.{Save, Read}
use Rattle.ft_pairs.specs.Roles.{Admits, op_as}
use Rattle.ft_pairs.specs.Source.{Ops}
use Rattle.ft_pairs.specs.Variables.{variable_cmp}
use Rattle.ft_pairs.specs.declared.role.Role.{Role}
use Rattle.ft_pairs.specs.declared.role.Role.TheVariants.{Plain, Saves, Reads}
use Rattle.ft_pairs.specs.declared.role.Variable.{Variable}
use Rattle.ft_table.specs.Values.{ValuesBy, values_by}
use Rattle.ft_shelves.specs.Shelves.{FormsStay, Shelves, admits_on, kept_on, role_on}
use Rattle.ft_shelves.proofs.Decided.{at_decided, none_not_some, variable_decided}
use Rattle.ft_kept.specs.Acts.{Acts, op_of}
use Rattle.ft_kept.specs.Entries.{HitsHere, IsCounted, IsEntry, IsReading, IsRight, hits_here, one_hit, read_here}
use Rattle.ft_kept.specs.Signs.{act_after}
use Rattle.ft_kept.specs.Views.{triggers_of}
use Rattle.ft_kept.specs.declared.act.Scene.{Scene}
use Rattle.ft_kept.specs.declared.settle.Reading.{Reading}
use Rattle.ft_kept.specs.inner.Readings.{AreSettled, CanSettle, IsOwn, IsReadRight, IsReady, IsSettled}
use Rattle.ft_kept.proofs.Forms.{readers_refl, readers_trans, roles_stay, shelved_stay}
use Rattle.ft_kept.proofs.InPlace.{carried}
use Rattle.ft_kept.proofs.Staleness.{op_absent, op_else, op_there}

-- ---- hits

under : (a : List Part × Traced) (key : List Part) (hit found : Option (List ℤ)) → hit ≡ one_hit a.0 found key → (hit ≡ None) ⊎ ((b : List Part × Traced) × ((Some a ≡ Some b) × (b.0 ≡ key)))
under a key hit found is = elim (same_key key a.0) as (λ b. same_key key a.0 ≡ b → hit ≡ cond b found None → (hit ≡ None) ⊎ ((b : List Part × Traced) × ((Some a ≡ Some b) × (b.0 ≡ key)))) [
  | true ↦ λ tie _. inr (a, (refl, sym (same_from_tie key_same key a.0 tie)))
  | false ↦ λ _ none. inl none
] refl is

-- hits that are right stand under the key of their act
pub counted_own : (values : ValuesBy) (at : At) (role : Role) (act : Option (List Part × Traced)) (hits : HitsHere) (read : Option Pos) → IsCounted values at role act hits read → IsOwn act hits
counted_own values at role None hits read counted key = inl (counted key)
counted_own values at Plain (Some a) hits read counted key = under a key (hits key) (Some (values at.trigger at.pos a.1 None)) (counted key)
counted_own values at Saves (Some a) hits read counted key = under a key (hits key) (Some (values at.trigger at.pos a.1 None)) (counted key)
counted_own values at (Reads saver) (Some a) hits read counted key = under a key (hits key) (option_map (λ saved. values at.trigger at.pos a.1 (Some saved)) read) (counted key)

-- ---- reads

no_save : (own admitted : Bool) → (if own then (if admitted then Some Save else None) else None) ≡ Some Read → ⊥
no_save true true is = absurd (cc)
no_save true false is = absurd (cc)
no_save false admitted is = absurd (cc)

-- only a reader's act is a read, of its saver's variable under its own key
read_as : (admits : Admits) (role : Role) (variable : Variable) (id : ℕ) (key : List Part) → op_as admits role variable id key ≡ Some Read → (key ≡ variable.key) × (role ≡ Reads variable.saver)
read_as admits Plain variable id key is = absurd (cc)
read_as admits Saves variable id key is = absurd (no_save (eq_by_cmp variable_cmp variable (record { saver = id; key = key })) (admits id key) is)
read_as admits (Reads saver) variable id key is = elim (variable_decided variable (record { saver = saver; key = key })) [
  | inl own ↦ (ap (λ (v : Variable). v.key) (sym own), ap (λ (v : Variable). Reads v.saver) (sym own))
  | inr other ↦ absurd (none_not_some (op_as admits (Reads saver) variable id key) Read (op_else admits (Reads saver) variable id key (λ e. other (sym (ap (λ (o : Option Variable). unwrap_or o variable) e)))) is)
]

module _ (role : ℕ → Role) (admits : Admits) (acts : Acts) (variable : Variable) (q : At) where
  -- the act that a read is
  abbrev pub ReadAct : Type 0
  ReadAct = (event : Traced) × ((acts q ≡ Some (variable.key, event)) × (role q.trigger ≡ Reads variable.saver))

  pub read_act : op_of role admits acts variable q ≡ Some Read → ReadAct
  read_act is = by (acts q) refl
    where
      by : (o : Option (List Part × Traced)) → acts q ≡ o → ReadAct
      by None none = absurd (none_not_some (op_of role admits acts variable q) Read (op_absent role admits acts variable q none) is)
      by (Some a) acting =
          let own = read_as admits (role q.trigger) variable q.trigger a.0 (sym (op_there role admits acts variable q a acting) ∙ is) in
          (a.1, (acting ∙ ap (λ key. Some (key, a.1)) own.0, own.1))

-- ---- settling

module _ (scene : Scene) (acts : Acts) (old : Shelves) (can : CanSettle scene acts old) where
  -- nothing has to be settled if nothing is covered
  pub none_settled : (Covered : At → Type 0) → ((q : At) → Covered q → ⊥) → AreSettled scene acts Covered old old
  none_settled Covered none = record { readers = readers_refl old; can = can; right = λ q h. elim h [ inl right ↦ right | inr covered ↦ absurd (none q covered) ] }

  module _ (variable : Variable) (at : At) (read : (kept_on old).ops variable at ≡ Some Read) where
    -- a read is a reader's act, and its event is held
    pub read_is : ReadAct (role_on old) (admits_on old) acts variable at
    read_is = read_act (role_on old) (admits_on old) acts variable at (sym (can.ops variable at) ∙ read)

    pub read_held : event_at scene.lanes.now at.pos.cpu at.pos.line ≡ Some read_is.0
    read_held = (can.held at (variable.key, read_is.0) read_is.1.0).0.0

    pub read_acting : (event : Traced) → event_at scene.lanes.now at.pos.cpu at.pos.line ≡ Some event → acts at ≡ Some (variable.key, event)
    read_acting event there = read_is.1.0 ∙ ap (option_map (λ (e : Traced). (variable.key, e))) (sym read_held ∙ there)

  -- and its reading is ready to be settled
  pub read_ready : (reading : Reading) → (kept_on old).ops reading.variable reading.at ≡ Some Read → event_at scene.lanes.now reading.at.pos.cpu reading.at.pos.line ≡ Some reading.event.now → IsReady (triggers_of scene) reading old
  read_ready reading read there =
      let at = reading.at in
      let acting = read_acting reading.variable at read reading.event.now there in
      record {
        shelved = can.shelved;
        role = (read_is reading.variable at read).1.1;
        own = subst (λ act. IsOwn act (hits_here (kept_on old) at)) acting
            (counted_own (values_by (triggers_of scene)) at (role_on old at.trigger) (acts at) (hits_here (kept_on old) at) (read_here (kept_on old) at) (can.counted at));
        stamped = (can.held at (reading.variable.key, reading.event.now) acting).0.1;
      }

  module _ (new : Shelves) (reading : Reading) (settled : IsSettled (triggers_of scene) reading old new)
      (role : role_on old reading.at.trigger ≡ Reads reading.variable.saver) (acting : acts reading.at ≡ act_after reading.sign (reading.variable.key, reading.event.now)) where
    abbrev at : At
    at = reading.at

    forms : FormsStay old new
    forms = settled.readers.forms

    right : IsRight (role_on new) (values_by (triggers_of scene)) acts (kept_on new) at
    right = subst (λ (x : Role × Option (List Part × Traced)). IsEntry (values_by (triggers_of scene)) (kept_on new).ops at x.0 x.1 (hits_here (kept_on new) at) (read_here (kept_on new) at))
        (λ i. (sym (roles_stay old new forms at.trigger ∙ role) i, sym acting i)) settled.right

    -- if one reading is settled, others are as they were
    pub one_settled : (Covered : At → Type 0) → ((q : At) → Covered q → q ≡ at) → AreSettled scene acts Covered old new
    one_settled Covered covers = record {
      readers = settled.readers;
      can = record {
        shelved = shelved_stay (triggers_of scene) old new forms can.shelved;
        held = can.held;
        ops = λ variable q. settled.readers.ops variable q ∙ can.ops variable q
            ∙ (λ i. op_of (λ id. sym (roles_stay old new forms id) i) (λ id key. sym (settled.readers.admits id key) i) acts variable q);
        counted = λ q. elim (at_decided q at) [
          | inl here ↦ subst (λ p. IsCounted (values_by (triggers_of scene)) p (role_on new p.trigger) (acts p) (hits_here (kept_on new) p) (read_here (kept_on new) p)) (sym here) right.1
          | inr apart ↦ carried (IsCounted (values_by (triggers_of scene)) q) at q acts acts old new forms settled.others apart refl (can.counted q)
        ];
      };
      right = λ q h. elim (at_decided q at) [
        | inl here ↦ subst (IsReadRight acts new) (sym here) right.0
        | inr apart ↦ elim h [
          | inl was ↦ subst (λ (ops : Variable → Ops). IsReading ops q (role_on new q.trigger) (acts q) (read_here (kept_on new) q)) (λ i variable p. sym (settled.readers.ops variable p) i)
              (carried (λ r act hits read. IsReading (kept_on old).ops q r act read) at q acts acts old new forms settled.others apart refl was)
          | inr covered ↦ absurd (apart (covers q covered))
        ]
      ];
    }

-- what was settled first and then is settled
pub settled_then : (scene : Scene) (acts : Acts) (First Then Both : At → Type 0) (a b c : Shelves) → ((q : At) → Both q → First q ⊎ Then q)
    → AreSettled scene acts First a b → AreSettled scene acts Then b c → AreSettled scene acts Both a c
settled_then scene acts First Then Both a b c covers first second = record {
  readers = readers_trans a b c first.readers second.readers;
  can = second.can;
  right = λ q h. second.right q (elim h [
    | inl was ↦ inl (first.right q (inl was))
    | inr covered ↦ elim (covers q covered) [ inl now ↦ inl (first.right q (inr now)) | inr later ↦ inr later ]
  ]);
}

-- more may be said to be covered than is
pub settled_too : (scene : Scene) (acts : Acts) (Covered More : At → Type 0) (old new : Shelves) → ((q : At) → More q → Covered q) → AreSettled scene acts Covered old new → AreSettled scene acts More old new
settled_too scene acts Covered More old new covers settled = record {
  readers = settled.readers;
  can = settled.can;
  right = λ q h. settled.right q (elim h [ inl was ↦ inl was | inr covered ↦ inr (covers q covered) ]);
}
