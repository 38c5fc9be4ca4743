-- What is known of tables after commands.
use Rattle.std.proofs.Common.{◌≡◌, ℕ, Bool, true, false, cond, refl, sym, ap, ◌∙◌, Some, None}
use Rattle.std.specs.Prelude.{is_some}
use Rattle.std.specs.Ordering.{nat_cmp, eq_by_cmp}
use Rattle.std.specs.Cmp.{nat_cmp_total}
use Rattle.std.specs.FinMap as finite
use Rattle.std.specs.FinMap.{get-insert, get-remove}
use Rattle.ft_answers.specs.Base.{Base}
use Rattle.ft_watch.specs.ChangedRows.{Texts}
use Rattle.ft_watch.specs.declared.known_tables.Known.{Known}
use Rattle.ft_watch.specs.declared.known_tables.Known.TheVariants as knowns
use Rattle.ft_watch.specs.inner.Told.{TextsById, AreAttached, AreKnown, attached_at_most}
use Rattle.ft_watch.proofs.Shown.{shown_attached}

-- the attached triggers have tables, if at most that is known
at_most : (known : Known) (base new : Base) (before now : TextsById) → (AreAttached base before → AreAttached new now) → AreKnown known base before → AreKnown (attached_at_most known) new now
at_most knowns.Shown base new before now further is = further (shown_attached base before is)
at_most knowns.Attached base new before now further is = further is
at_most knowns.Nothing base new before now further is = tt

-- after an edit that keeps the ids
pub known_edited : (known : Known) (base new : Base) (tables : TextsById) → ((q : ℕ) → is_some (finite.get new.triggers q) ≡ is_some (finite.get base.triggers q)) → AreKnown known base tables → AreKnown (attached_at_most known) new tables
known_edited known base new tables keeps = at_most known base new tables tables (λ attached q. attached q ∙ sym (keeps q))

with_one : (tables : TextsById) (id : ℕ) (texts : Texts) (q : ℕ) → is_some (finite.get (finite.insert tables id texts) q) ≡ cond (eq_by_cmp nat_cmp q id) true (is_some (finite.get tables q))
with_one tables id texts q = ap is_some (get-insert nat_cmp_total tables id texts q) ∙ by (eq_by_cmp nat_cmp q id)
  where
    by : (b : Bool) → is_some (cond b (Some texts) (finite.get tables q)) ≡ cond b true (is_some (finite.get tables q))
    by true = refl
    by false = refl

without_one : (tables : TextsById) (id q : ℕ) → is_some (finite.get (finite.remove tables id) q) ≡ cond (eq_by_cmp nat_cmp q id) false (is_some (finite.get tables q))
without_one tables id q = ap is_some (get-remove nat_cmp_total tables id q) ∙ by (eq_by_cmp nat_cmp q id)
  where
    by : (b : Bool) → is_some (cond b None (finite.get tables q)) ≡ cond b false (is_some (finite.get tables q))
    by true = refl
    by false = refl

-- after a trigger was attached
pub known_attached : (known : Known) (base new : Base) (tables : TextsById) (id : ℕ) (texts : Texts) → ((q : ℕ) → is_some (finite.get new.triggers q) ≡ cond (eq_by_cmp nat_cmp q id) true (is_some (finite.get base.triggers q)))
    → AreKnown known base tables → AreKnown (attached_at_most known) new (finite.insert tables id texts)
known_attached known base new tables id texts attaches =
    at_most known base new tables (finite.insert tables id texts) (λ attached q. with_one tables id texts q ∙ ap (cond (eq_by_cmp nat_cmp q id) true) (attached q) ∙ sym (attaches q))

-- after a trigger was removed
pub known_removed : (known : Known) (base new : Base) (tables : TextsById) (id : ℕ) → ((q : ℕ) → is_some (finite.get new.triggers q) ≡ cond (eq_by_cmp nat_cmp q id) false (is_some (finite.get base.triggers q)))
    → AreKnown known base tables → AreKnown (attached_at_most known) new (finite.remove tables id)
known_removed known base new tables id removes =
    at_most known base new tables (finite.remove tables id) (λ attached q. without_one tables id q ∙ ap (cond (eq_by_cmp nat_cmp q id) false) (attached q) ∙ sym (removes q))
