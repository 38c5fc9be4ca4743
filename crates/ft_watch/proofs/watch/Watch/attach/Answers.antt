use Rattle.std.proofs.Common.{sym, subst}
use Rattle.std.specs.Ordering.{nat_cmp}
use Rattle.std.specs.FinMap as finite
use Rattle.ft_maps.specs.Seen.{seen}
use Rattle.ft_watch.specs.declared.known_tables.Known.{Known}
use Rattle.ft_watch.specs.inner.Told.{AreKnown, TextsById}
use Rattle.ft_watch.proofs.Bases.{attach_text_attaches}
use Rattle.ft_watch.proofs.Known.{known_attached}
use Rattle.ft_watch.proofs.watch.Watch.attach.Goals as goal

pub invariant_of-self-in_err-done_line-in-Ok : goal.invariant_of-self-in_err-done_line-in-Ok
invariant_of-self-in_err-done_line-in-Ok g c =
    let base = c.self.inside.desk.base in
    let new = c.attach.new.self.base in
    let tables = seen nat_cmp c.self.inside.tables.by_id in
    let id = c.in-Ok.done.value in
    let known = known_attached c.self.inside.tables.known base new tables id finite.empty
    (attach_text_attaches base c.args.event c.args.text.now new id c.in-Ok.ensures.gives.0)
    c.self.invariant in
    subst (λ (t : TextsById). AreKnown c.attach-in-Ok.new.self.known new t) (sym c.in_ok-attach-in-Ok.ensures.by_id)
    (subst (λ (k : Known). AreKnown k new (finite.insert tables id finite.empty)) (sym c.in_ok-attach-in-Ok.ensures.known) known)

pub invariant_of-self-in-Ok : goal.invariant_of-self-in-Ok
invariant_of-self-in-Ok g c =
    let base = c.self.inside.desk.base in
    let new = c.attach.new.self.base in
    let tables = seen nat_cmp c.self.inside.tables.by_id in
    let id = c.in-Ok.done.value in
    let known = known_attached c.self.inside.tables.known base new tables id finite.empty
    (attach_text_attaches base c.args.event c.args.text.now new id c.in-Ok.ensures.gives.0)
    c.self.invariant in
    subst (λ (t : TextsById). AreKnown c.attach-in-Ok.new.self.known new t) (sym c.in_ok-attach-in-Ok.ensures.by_id)
    (subst (λ (k : Known). AreKnown k new (finite.insert tables id finite.empty)) (sym c.in_ok-attach-in-Ok.ensures.known) known)
