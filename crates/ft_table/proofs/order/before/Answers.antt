use Rattle.std.proofs.Common.{◌≡◌, ℕ, zero, suc, List, refl, sym, ap, ◌∙◌}
use Rattle.ft_hits.specs.declared.mark.Mark.{Mark}
use Rattle.ft_hits.specs.Marks.{mark_cmp_total}
use Rattle.ft_table.specs.inner.Ordered.{place_before}
use Rattle.ft_table.proofs.Orders.{key_in, before_place, before_rank}
use Rattle.ft_table.proofs.order.before.Goals as goal

same : (ks : List Mark) (i : ℕ) → before_place ks i ≡ place_before ks i
same ks zero = refl
same ks (suc i) = refl

pub returns-in-Some : goal.returns-in-Some
returns-in-Some c i at =
    ap key_in (sym c.in-Some.is ∙ c.before-2.ensures.before) ∙ before_rank mark_cmp_total c.args.marks.now c.before-2.ensures.ordered c.args.mark.now i at ∙ same _ i

pub returns-in-None : goal.returns-in-None
returns-in-None c i at =
    ap key_in (sym c.in-None.is ∙ c.before-2.ensures.before) ∙ before_rank mark_cmp_total c.args.marks.now c.before-2.ensures.ordered c.args.mark.now i at ∙ same _ i
