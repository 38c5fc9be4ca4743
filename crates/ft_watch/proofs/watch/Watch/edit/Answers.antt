use Rattle.std.proofs.Common.{map, sym, ap, subst, ◌∙◌}
use Rattle.std.specs.Prelude.{is_some}
use Rattle.std.specs.Ordering.{nat_cmp}
use Rattle.std.specs.FinMap as finite
use Rattle.ft_answers.specs.Base.{Base}
use Rattle.ft_maps.specs.Seen.{seen}
use Rattle.ft_script.specs.Script.{asked_by}
use Rattle.ft_watch.specs.declared.known_tables.Known.{Known}
use Rattle.ft_watch.specs.inner.Told.{AreKnown}
use Rattle.ft_watch.proofs.Bases.{edit_keeps}
use Rattle.ft_watch.proofs.Known.{known_edited}
use Rattle.ft_watch.proofs.watch.Watch.edit.Goals as goal

pub invariant_of-self-2 : goal.invariant_of-self-2
invariant_of-self-2 g c =
    let base = c.self.inside.desk.base in
    let new = c.perform.new.desk.base in
    let tables = seen nat_cmp c.self.inside.tables.by_id in
    subst (λ (k : Known). AreKnown k new tables) (sym c.forget_rows-self-inside.ensures)
    (known_edited c.self.inside.tables.known base new tables
    (λ q. ap (λ (b : Base). is_some (finite.get b.triggers q)) c.in_ok-done.ensures.base ∙ edit_keeps (map (λ f. f.items) c.args.files.now) base (asked_by c.args.line.now) c.requires q)
    c.self.invariant)
