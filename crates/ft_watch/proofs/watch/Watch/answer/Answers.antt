use Rattle.std.proofs.Common.{map, sym, subst, ◌∙◌}
use Rattle.std.specs.Ordering.{nat_cmp}
use Rattle.ft_answers.specs.Base.{Base}
use Rattle.ft_maps.specs.Seen.{seen}
use Rattle.ft_script.specs.Script.{asked_by}
use Rattle.ft_watch.specs.inner.Told.{AreKnown}
use Rattle.ft_watch.proofs.Bases.{answer_stays}
use Rattle.ft_watch.proofs.watch.Watch.answer.Goals as goal

pub invariant_of-self-2 : goal.invariant_of-self-2
invariant_of-self-2 g c =
    subst (λ (b : Base). AreKnown c.self.inside.tables.known b (seen nat_cmp c.self.inside.tables.by_id))
    (sym (c.in_ok-done.ensures.base ∙ answer_stays (map (λ f. f.items) c.args.files.now) c.self.inside.desk.base (asked_by c.args.line.now) c.requires))
    c.self.invariant
