use Rattle.std.proofs.Common.{sym, ap, subst, ◌∙◌}
use Rattle.std.specs.List.{Contains, insert, remove}
use Rattle.std.specs.Map.{keys_of}
use Rattle.ft_blocks.specs.Sorted.{Ascend, without}
use Rattle.ft_blocks.proofs.Order.{ascend_put, ascend_without}
use Rattle.ft_hits.specs.Marks.{mark_cmp, mark_cmp_total, mark_same}
use Rattle.ft_table.specs.inner.Ascending.{IsRank}
use Rattle.ft_table.specs.inner.Ordered.{Lacks, Ordered}
use Rattle.ft_table.proofs.Orders.{find_lacking, find_listed, rank_of}
use Rattle.ft_table.proofs.Edits.{moved_of, rank_without}
use Rattle.ft_table.proofs.order.Order.move_on.Goals as goal

pub move_on-requires-clause-absent : goal.move_on-requires-clause-absent
move_on-requires-clause-absent c =
    find_lacking mark_cmp_total mark_same c.self.inside.marks c.args.to (subst (λ (o : Ordered). Lacks o.marks c.args.to) (sym c.self.view_is) c.requires.absent)

pub invariant_of-self : goal.invariant_of-self
invariant_of-self c =
    let o = c.self.inside in
    let from = c.args.from.now in
    let to = c.args.to in
    let up = c.self.invariant.ascend in
    let has : Contains (keys_of o.marks) from = subst (λ (o : Ordered). Contains o.marks from) (sym c.self.view_is) c.requires.there in
    let lacks : Lacks (keys_of o.marks) to = subst (λ (o : Ordered). Lacks o.marks to) (sym c.self.view_is) c.requires.absent in
    let v = find_listed mark_cmp_total o.marks from has in
    let is = c.move_on.ensures.moved v.0 v.1 in
    let at = rank_of mark_cmp_total o.marks up from in
    let there = rank_without o.marks up from to at.0 has at.1 in
    record {
      ascend = subst (λ es. Ascend mark_cmp es) (sym is) (ascend_put mark_cmp_total to v.0 (without mark_cmp from o.marks) (ascend_without mark_cmp from o.marks up));
      front = c.moved-front.ensures o.size (keys_of o.marks) at.0 there.0 (moved_of o.marks up from to v.0 at.0 there.0 has lacks c.requires.later at.1 there.1 c.move_on.new.self is) c.self.invariant.front;
    }

pub returns : goal.returns
returns c =
    let o = c.self.inside in
    let from = c.args.from.now in
    let to = c.args.to in
    let up = c.self.invariant.ascend in
    let has : Contains (keys_of o.marks) from = subst (λ (o : Ordered). Contains o.marks from) (sym c.self.view_is) c.requires.there in
    let lacks : Lacks (keys_of o.marks) to = subst (λ (o : Ordered). Lacks o.marks to) (sym c.self.view_is) c.requires.absent in
    let v = find_listed mark_cmp_total o.marks from has in
    let is = c.move_on.ensures.moved v.0 v.1 in
    record {
      size = ap (λ (o : Ordered). o.size) c.self.view_is;
      marks = λ i j at there. (moved_of o.marks up from to v.0 i j has lacks c.requires.later (subst (λ (o : Ordered). IsRank mark_cmp o.marks from i) (sym c.self.view_is) at) (subst (λ (o : Ordered). IsRank mark_cmp (remove o.marks i) to j) (sym c.self.view_is) there) c.move_on.new.self is).is
          ∙ ap (λ (o : Ordered). insert (remove o.marks i) j to) c.self.view_is;
    }
