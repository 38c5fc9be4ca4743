use Rattle.std.proofs.Common.{sym, subst, ap, ◌∙◌}
use Rattle.std.specs.Ordering.{nat_cmp}
use Rattle.ft_maps.specs.Seen.{seen}
use Rattle.ft_answers.specs.Shown.{Shown}
use Rattle.ft_watch.specs.declared.known_tables.Known.{Known}
use Rattle.ft_watch.specs.inner.Told.{AreKnown}
use Rattle.ft_watch.proofs.Shown.{shown_empty}
use Rattle.ft_watch.proofs.watch.Watch.new.Goals as goal

pub invariant_of-result : goal.invariant_of-result
invariant_of-result g c =
    subst (λ (k : Known). AreKnown k c.new.result.base (seen nat_cmp c.new-2.result.by_id)) (sym c.new-2.ensures.known)
    (shown_empty c.new.result.base (seen nat_cmp c.new-2.result.by_id) (ap (λ (s : Shown). s.base) c.new.ensures ∙ c.requires) c.new-2.ensures.by_id)
