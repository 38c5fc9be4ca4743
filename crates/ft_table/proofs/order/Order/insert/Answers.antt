use Rattle.std.proofs.Common.{sym, ap, subst, ◌∙◌}
use Rattle.std.specs.List.{insert}
use Rattle.std.specs.Map.{keys_of}
use Rattle.ft_blocks.specs.Sorted.{Ascend}
use Rattle.ft_blocks.proofs.Order.{ascend_put}
use Rattle.ft_hits.specs.Marks.{mark_cmp, mark_cmp_total}
use Rattle.ft_table.specs.inner.Ascending.{IsRank}
use Rattle.ft_table.specs.inner.Ordered.{Lacks, Ordered}
use Rattle.ft_table.proofs.Orders.{rank_of}
use Rattle.ft_table.proofs.Edits.{came_of}
use Rattle.ft_table.proofs.order.Order.insert.Goals as goal

pub invariant_of-self-2 : goal.invariant_of-self-2
invariant_of-self-2 c =
    let o = c.self.inside in
    let m = c.args.mark in
    let lacks : Lacks (keys_of o.marks) m = subst (λ (o : Ordered). Lacks o.marks m) (sym c.self.view_is) c.requires in
    let at = rank_of mark_cmp_total o.marks c.self.invariant.ascend m in
    record {
      ascend = subst (λ es. Ascend mark_cmp es) (sym c.in_ok-insert.ensures.ok) (ascend_put mark_cmp_total m _ o.marks c.self.invariant.ascend);
      front = c.with-front.ensures (keys_of o.marks) at.0 (came_of o.marks c.self.invariant.ascend m _ at.0 lacks at.1 c.insert.new.self c.in_ok-insert.ensures.ok) c.self.invariant.front;
    }

pub returns-clause-ok : goal.returns-clause-ok
returns-clause-ok c =
    let o = c.self.inside in
    let m = c.args.mark in
    let lacks : Lacks (keys_of o.marks) m = subst (λ (o : Ordered). Lacks o.marks m) (sym c.self.view_is) c.requires in
    record {
      size = ap (λ (o : Ordered). o.size) c.self.view_is;
      marks = λ i at. (came_of o.marks c.self.invariant.ascend m _ i lacks (subst (λ (o : Ordered). IsRank mark_cmp o.marks m i) (sym c.self.view_is) at) c.insert.new.self c.in_ok-insert.ensures.ok).is
          ∙ ap (λ (o : Ordered). insert o.marks i m) c.self.view_is;
    }
