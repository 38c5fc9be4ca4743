use Rattle.std.proofs.Common.{map, sym, ap, subst, ◌∙◌, ◌≡◌}
use Rattle.std.specs.Prelude.{is_some}
use Rattle.std.specs.Ordering.{nat_cmp}
use Rattle.std.specs.FinMap as finite
use Rattle.ft_answers.specs.Base.{Base}
use Rattle.ft_maps.specs.Seen.{seen}
use Rattle.ft_script.specs.Script.{Asked}
use Rattle.ft_desk.specs.Output.{outcome}
use Rattle.ft_watch.specs.declared.known_tables.Known.{Known}
use Rattle.ft_watch.specs.inner.Told.{AreKnown, TextsById}
use Rattle.ft_watch.proofs.Bases.{Removes, remove_leaves}
use Rattle.ft_watch.proofs.Known.{known_removed}
use Rattle.ft_watch.proofs.watch.Watch.remove.Goals as goal

pub invariant_of-self-then-done : goal.invariant_of-self-then-done
invariant_of-self-then-done g c =
    let base = c.self.inside.desk.base in
    let files = map (λ f. f.items) c.args.files.now in
    let left = subst (λ (a : Asked). Removes c.args.id base (outcome files base a)) (sym c.requires) (remove_leaves files base c.args.id) in
    subst (λ (b : Base). AreKnown c.self.inside.tables.known b (seen nat_cmp c.self.inside.tables.by_id))
    (sym (c.in_ok-done.ensures.base ∙ left.0 (sym c.in_ok-done.ensures.refused ∙ c.if-done.true)))
    c.self.invariant

pub invariant_of-self-else-done : goal.invariant_of-self-else-done
invariant_of-self-else-done g c =
    let base = c.self.inside.desk.base in
    let new = c.perform.new.desk.base in
    let files = map (λ f. f.items) c.args.files.now in
    let tables = seen nat_cmp c.self.inside.tables.by_id in
    let left = subst (λ (a : Asked). Removes c.args.id base (outcome files base a)) (sym c.requires) (remove_leaves files base c.args.id) in
    let known = known_removed c.self.inside.tables.known base new tables c.args.id
    (λ q. ap (λ (b : Base). is_some (finite.get b.triggers q)) c.in_ok-done.ensures.base ∙ left.1 (sym c.in_ok-done.ensures.refused ∙ c.if-done.false) q)
    c.self.invariant in
    subst (λ (t : TextsById). AreKnown c.remove.new.self.known new t) (sym c.remove.ensures.by_id)
    (subst (λ (k : Known). AreKnown k new (finite.remove tables c.args.id)) (sym c.remove.ensures.known) known)
