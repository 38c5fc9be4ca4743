use Rattle.std.proofs.Common.{sym, ap, subst, ◌∙◌}
use Rattle.std.specs.List.{Contains, remove}
use Rattle.std.specs.Map.{keys_of}
use Rattle.ft_blocks.specs.Sorted.{Ascend}
use Rattle.ft_blocks.proofs.Order.{ascend_without}
use Rattle.ft_hits.specs.Marks.{mark_cmp, mark_cmp_total}
use Rattle.ft_table.specs.inner.Ascending.{IsRank}
use Rattle.ft_table.specs.inner.Ordered.{Ordered}
use Rattle.ft_table.proofs.Orders.{rank_of}
use Rattle.ft_table.proofs.Edits.{gone_of}
use Rattle.ft_table.proofs.order.Order.remove.Goals as goal

pub invariant_of-self : goal.invariant_of-self
invariant_of-self c =
    let o = c.self.inside in
    let m = c.args.mark.now in
    let has : Contains (keys_of o.marks) m = subst (λ (o : Ordered). Contains o.marks m) (sym c.self.view_is) c.requires in
    let at = rank_of mark_cmp_total o.marks c.self.invariant.ascend m in
    record {
      ascend = subst (λ es. Ascend mark_cmp es) (sym c.remove.ensures.left) (ascend_without mark_cmp m o.marks c.self.invariant.ascend);
      front = c.without-front.ensures o.size (keys_of o.marks) at.0 (gone_of o.marks c.self.invariant.ascend m at.0 has at.1 c.remove.new.self c.remove.ensures.left) c.self.invariant.front;
    }

pub returns : goal.returns
returns c =
    let o = c.self.inside in
    let m = c.args.mark.now in
    let has : Contains (keys_of o.marks) m = subst (λ (o : Ordered). Contains o.marks m) (sym c.self.view_is) c.requires in
    record {
      size = ap (λ (o : Ordered). o.size) c.self.view_is;
      marks = λ i at. (gone_of o.marks c.self.invariant.ascend m i has (subst (λ (o : Ordered). IsRank mark_cmp o.marks m i) (sym c.self.view_is) at) c.remove.new.self c.remove.ensures.left).is
          ∙ ap (λ (o : Ordered). remove o.marks i) c.self.view_is;
    }
