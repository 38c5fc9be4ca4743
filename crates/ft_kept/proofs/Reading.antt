-- A reading that comes or goes: its read stands among the operations or not, its own place is settled, and then the next reading.
use Rattle.std.proofs.Common.{◌≡◌, ℕ, true, refl, sym, ap, subst, ◌∙◌, Some, None, Option, inl, inr, unwrap_or, List, if◌then◌else◌, is_some, true≢false}
use Rattle.std.specs.FinMap as map
use Rattle.ft_fields.specs.declared.key.Part.{Part}
use Rattle.ft_fields.specs.Traced.{Traced}
use Rattle.ft_pairs.specs.Next.{IsNext}
use Rattle.ft_pairs.specs.Order.{at_cmp_total, at_same}
use Rattle.ft_pairs.specs.Roles.{variable_of}
use Rattle.ft_pairs.specs.Source.{Ops}
use Rattle.ft_pairs.specs.declared.at.At.{At}
use Rattle.ft_pairs.specs.declared.at.Op.TheVariants.{Read}
use Rattle.ft_pairs.specs.declared.role.Role.{Role}
use Rattle.ft_pairs.specs.declared.role.Role.TheVariants.{Reads}
use Rattle.ft_pairs.specs.declared.role.Variable.{Variable}
use Rattle.ft_table.specs.Spots.{traced}
use Rattle.ft_table.specs.Values.{values_by}
use Rattle.ft_shelves.specs.Changes.{is_insert, op_after, set_op}
use Rattle.ft_shelves.specs.Edits.{OpsChange}
use Rattle.ft_shelves.specs.Shelves.{ChangesShelf, FormsStay, Shelves, admits_on, kept_on, role_on}
use Rattle.ft_shelves.specs.declared.sign.Sign.{Sign}
use Rattle.ft_shelves.specs.declared.sign.Sign.TheVariants.{Insert, Retract}
use Rattle.ft_shelves.proofs.Decided.{at_decided, itself, none_not_some, untied, variable_decided}
use Rattle.ft_kept.specs.Acts.{Acts, op_of}
use Rattle.ft_changes.specs.declared.changed.ReadingChange.{ReadingChange}
use Rattle.ft_kept.specs.Changes.{ChangeUnder, Tells}
use Rattle.ft_kept.specs.Entries.{IsEntry, hits_here, read_here}
use Rattle.ft_kept.specs.Signs.{act_before, act_after}
use Rattle.ft_kept.specs.Views.{triggers_of}
use Rattle.ft_kept.specs.declared.act.Act.{Act}
use Rattle.ft_kept.specs.declared.settle.Reading.{Reading}
use Rattle.ft_kept.specs.declared.changes.Changes.{Changes}
use Rattle.ft_kept.specs.inner.Changing.{MayChange, HasChanged, HasToldAct, IsInPlace, acts_after}
use Rattle.ft_kept.specs.inner.OneAct.{IsOneAct}
use Rattle.ft_kept.specs.inner.Readings.{IsOwn, IsReady, IsSettled, NextIsSettled}
use Rattle.ft_kept.specs.inner.Telling.{variable_key}
use Rattle.ft_kept.proofs.Forms.{OnlyOps, forms_trans, key_ops, key_ops_elsewhere, key_ops_here, readers_trans, roles_stay, shelved_stay}
use Rattle.ft_kept.proofs.FewPuts.{savers_stay}
use Rattle.ft_kept.proofs.InPlace.{are_views, right_but}
use Rattle.ft_kept.proofs.Sources.{counted_own}
use Rattle.ft_kept.proofs.Staleness.{op_absent, op_elsewhere, op_read, others_stay}
use Rattle.ft_kept.proofs.Told.{few_reading, readings_same, under_trans}
use Rattle.ft_kept.proofs.Views.{one_changes, set_here}

module _ (act : Act) (acts : Acts) (saver : ℕ) (old : Shelves) (may : MayChange act acts old) (reads : role_on old act.at.trigger ≡ Reads saver) where
  abbrev at : At
  at = act.at

  abbrev own : List Part × Traced
  own = (act.key, act.event.now)

  abbrev after : Acts
  after = acts_after act acts

  abbrev variable : Variable
  variable = record { saver = saver; key = act.key }

  abbrev reading : Reading
  reading = record { variable = variable; at = at; event = act.event; sign = act.sign }

  abbrev edit : Ops → Ops
  edit = set_op at (op_after act.sign Read)

  one : IsOneAct at own acts after
  one = one_changes act.sign acts at own may.was

  there : is_some (map.get old saver) ≡ true
  there = may.views.shelved.savers at.trigger saver reads

  -- no operation stands where one comes
  pub free : is_insert act.sign ≡ true → (kept_on old).ops variable at ≡ None
  free = by act.sign may.was
    where
      by : (w : Sign) → acts at ≡ act_before w own → is_insert w ≡ true → (kept_on old).ops variable at ≡ None
      by Insert absent inserts = may.views.kept.ops variable at ∙ op_absent (role_on old) (admits_on old) acts variable at absent
      by Retract present inserts = absurd (true≢false (sym inserts))

  -- and hits stand there under its own key only
  hits_own : IsOwn (Some own) (hits_here (kept_on old) at)
  hits_own = by act.sign (subst (λ o. IsOwn o (hits_here (kept_on old) at)) may.was
      (counted_own (values_by (triggers_of act.scene)) at (role_on old at.trigger) (acts at) (hits_here (kept_on old) at) (read_here (kept_on old) at) (may.views.kept.entries at).1))
    where
      by : (w : Sign) → IsOwn (act_before w own) (hits_here (kept_on old) at) → IsOwn (Some own) (hits_here (kept_on old) at)
      by Insert has = λ k. elim (has k) [ inl none ↦ inl none | inr h ↦ absurd (none_not_some None h.0 refl h.1.0) ]
      by Retract has = has

  -- the act's own variable is the reading's
  own_variable : (v : Variable) → variable_of (role_on old at.trigger) at.trigger act.key ≡ Some v → v ≡ variable
  own_variable v owns = sym (ap (λ (o : Option Variable). unwrap_or o variable) (sym (ap (λ r. variable_of r at.trigger act.key) reads) ∙ owns))

  module _ (put : Shelves) (h : ChangesShelf saver (OpsChange act.key edit) old put) where
    only : OnlyOps old put
    only = key_ops saver act.key edit old put h

    -- its reading is ready to be settled
    pub ready : IsReady (triggers_of act.scene) reading put
    ready = record {
      shelved = shelved_stay (triggers_of act.scene) old put only.forms may.views.shelved;
      role = roles_stay old put only.forms at.trigger ∙ reads;
      own = λ k. elim (hits_own k) [
        | inl none ↦ inl (only.hits at.trigger (record { spot = traced at.pos; key = k }) ∙ none)
        | inr there ↦ inr there
      ];
      stamped = may.held.1;
    }

    module _ (mid : Shelves) (settled : IsSettled (triggers_of act.scene) reading put mid) where
      mid_forms : FormsStay old mid
      mid_forms = forms_trans old put mid only.forms settled.readers.forms

      mid_admits : (id : ℕ) (k : List Part) → admits_on mid id k ≡ admits_on old id k
      mid_admits id k = settled.readers.admits id k ∙ only.admits id k

      -- the read is what the act is
      read_is : op_after act.sign Read ≡ op_of (role_on old) (admits_on old) after variable at
      read_is = by act.sign refl
        where
          by : (w : Sign) → act_after w own ≡ act_after act.sign own → op_after w Read ≡ op_of (role_on old) (admits_on old) after variable at
          by Insert is = sym (op_read (role_on old) (admits_on old) after at saver own reads (set_here acts at (act_after act.sign own) ∙ sym is))
          by Retract is = sym (op_absent (role_on old) (admits_on old) after variable at (set_here acts at (act_after act.sign own) ∙ sym is))

      own_op : (q : At) → edit ((kept_on old).ops variable) q ≡ op_of (role_on old) (admits_on old) after variable q
      own_op q = elim (at_decided q at) [
        | inl is ↦ subst (λ p. edit ((kept_on old).ops variable) p ≡ op_of (role_on old) (admits_on old) after variable p) (sym is)
            (ap (λ b. if b then op_after act.sign Read else (kept_on old).ops variable at) (itself at_cmp_total at) ∙ read_is)
        | inr apart ↦
            ap (λ b. if b then op_after act.sign Read else (kept_on old).ops variable q) (untied at_cmp_total at_same q at apart)
            ∙ may.views.kept.ops variable q
            ∙ sym (op_elsewhere (role_on old) (admits_on old) (admits_on old) acts after variable q refl (one.elsewhere q apart))
      ]

      mid_ops : (v : Variable) (q : At) → (kept_on mid).ops v q ≡ op_of (role_on old) (admits_on old) after v q
      mid_ops v q = settled.readers.ops v q ∙ elim (variable_decided v variable) [
        | inl is ↦ subst (λ w. (kept_on put).ops w q ≡ op_of (role_on old) (admits_on old) after w q) (sym is)
            (key_ops_here saver act.key edit old put h there q ∙ own_op q)
        | inr other ↦
            key_ops_elsewhere saver act.key edit old put h there v other q
            ∙ may.views.kept.ops v q
            ∙ sym (others_stay (role_on old) (admits_on old) (admits_on old) acts after at own one v
            (λ e. other (own_variable v e)) refl q)
      ]

      -- the act came or went at its own place
      pub placed : IsInPlace act acts old mid
      placed = record {
        forms = mid_forms;
        ops = λ v q. mid_ops v q ∙ (λ i. op_of (role_on old) (λ id k. sym (mid_admits id k) i) after v q);
        stays = λ q apart. (
          λ k. (settled.others q apart).0 k ∙ only.hits q.trigger (record { spot = traced q.pos; key = k }),
          (settled.others q apart).1 ∙ only.read q.trigger q.pos,
        );
        right = subst (λ (x : Role × Option (List Part × Traced)). IsEntry (values_by (triggers_of act.scene)) (kept_on mid).ops at x.0 x.1 (hits_here (kept_on mid) at) (read_here (kept_on mid) at))
            (λ i. (sym reads i, sym (set_here acts at (act_after act.sign own)) i)) settled.right;
      }

      -- the key of their variable is recorded, and then its own reading and the next one
      pub told : (new : Shelves) (before begun after : Changes) (half : Option (List ReadingChange)) → Tells (variable_key variable) before.keys after.keys → begun.readings ≡ before.readings
          → ChangeUnder (variable_key variable) begun.readings half put mid → ChangeUnder (variable_key variable) half after.readings mid new → HasToldAct act before after old new
      told new before begun all half key same first last = record {
        keys = variable_key variable;
        few = few_reading (role_on old) at.trigger act.trigger.now act.key saver reads;
        told = record {
          told = key;
          under = under_trans mid_forms (under_trans only.forms
              (record { hits = λ id mark none. only.hits id mark; readings = readings_same before.readings begun.readings old put same only.read })
              first) last;
        };
      }

      -- and then all readings are right
      pub changed : (new : Shelves) → NextIsSettled act.scene after variable at mid new → HasChanged act acts old new
      changed new last = record {
        forms = forms_trans old mid new mid_forms last.settled.readers.forms;
        savers = savers_stay at.trigger old put new only.forms (λ i apart saves. only.tables i) (readers_trans put mid new settled.readers last.settled.readers);
        views = are_views act.scene after new last.settled.can (λ q. last.settled.right q (elim (right_but act acts old may mid placed last.next own_next q) [
          | inl right ↦ inl right
          | inr suspect ↦ elim suspect [ inl is_next ↦ inr is_next | inr switched ↦ absurd (switched.moved (mid_admits switched.variable.saver switched.variable.key)) ]
        ]));
      }
        where
          own_next : (v : Variable) → variable_of (role_on old at.trigger) at.trigger act.key ≡ Some v → admits_on mid v.saver v.key ≡ admits_on old v.saver v.key → IsNext ((kept_on mid).ops v) (Some at) last.next
          own_next v owns alike = subst (λ w. IsNext ((kept_on mid).ops w) (Some at) last.next) (sym (own_variable v owns)) last.is_next
