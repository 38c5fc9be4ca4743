-- The key is one that the order and the counts don't know yet.
use Rattle.std.proofs.Common.{◌≡◌, refl, sym, ap, subst, ◌∙◌, arith}
use Rattle.ft_hits.specs.Hits.{Hits, hitcount}
use Rattle.ft_table.specs.inner.Cut.{IsSplit}
use Rattle.ft_table.specs.Tabled.{order_of}
use Rattle.ft_hits.proofs.Flat.{mark}
use Rattle.ft_table.specs.inner.Ordered.{Lacks, Ordered}
use Rattle.ft_table.proofs.Comings.{no_mark, came_there, came_back, came_order}
use Rattle.ft_table.proofs.Firsts.{order-some}
use Rattle.ft_table.proofs.Splits.{resplit}
use Rattle.ft_table.proofs.Runs.{takes-none, count-key, order-key, split-key, first-key}
use Rattle.ft_table.proofs.ranked.Ranked.add_key.Goals as goal

pub returns-in-None-clause-hits : goal.returns-in-None-clause-hits
returns-in-None-clause-hits c = takes-none c.args.key c.args.entry c.args.hits.now c.requires.absent (sym c.first.ensures ∙ c.in-None.is)

pub insert-requires : goal.insert-requires
insert-requires c = subst (λ ms. Lacks ms (mark c.in-Some.spot c.args.key)) (sym c.requires.order) (no_mark c.args.hits.now (mark c.in-Some.spot c.args.key) (c.requires.absent c.in-Some.spot))

pub count_in-requires-clause-count : goal.count_in-requires-clause-count
count_in-requires-clause-count c =
    c.len-count.ensures.len ∙ sym (count-key c.args.key c.args.entry c.args.hits.now c.put_entry.new.self c.in-Ok.ensures.ok)

pub count_in-requires-clause-order : goal.count_in-requires-clause-order
count_in-requires-clause-order c =
    came_order c.put_entry.new.self (mark c.in-Some.spot c.args.key) c.args.self.now.order c.insert.new.self
    (c.requires.order ∙ order-key c.args.key c.args.entry c.args.hits.now c.put_entry.new.self c.in-Ok.ensures.ok c.requires.absent) c.in_ok-insert-in-Some.ensures.ok

pub count_in-requires-clause-cut : goal.count_in-requires-clause-cut
count_in-requires-clause-cut c =
    resplit (hitcount c.put_entry.new.self) (split-key c.args.key c.args.entry c.args.hits.now c.put_entry.new.self c.in-Ok.ensures.ok c.requires.order c.requires.absent c.requires.cut) c.in_ok-insert-in-Some.ensures.ok.size
    (sym (c.requires.order ∙ order-key c.args.key c.args.entry c.args.hits.now c.put_entry.new.self c.in-Ok.ensures.ok c.requires.absent)) refl refl

pub count_in-requires-clause-few : goal.count_in-requires-clause-few
count_in-requires-clause-few c =
    let count : c.len-count.result ≡ hitcount c.put_entry.new.self c.args.key = c.len-count.ensures.len ∙ sym (count-key c.args.key c.args.entry c.args.hits.now c.put_entry.new.self c.in-Ok.ensures.ok) in
    let fits = c.requires.cut.fits in
    let few = c.if-count-self.false in
    omega (arith, count, fits, few)

pub remove-requires : goal.remove-requires
remove-requires c = came_there c.args.hits.now (mark c.in-Some.spot c.args.key) c.args.self.now.order c.insert.new.self c.requires.order c.in_ok-insert-in-Some.ensures.ok

pub returns-in-Ok-clause-order : goal.returns-in-Ok-clause-order
returns-in-Ok-clause-order c =
    ap (λ (o : Ordered). o.marks) c.count_in.ensures.order
    ∙ came_order c.put_entry.new.self (mark c.in-Some.spot c.args.key) c.args.self.now.order c.insert.new.self
    (c.requires.order ∙ order-key c.args.key c.args.entry c.args.hits.now c.put_entry.new.self c.in-Ok.ensures.ok c.requires.absent) c.in_ok-insert-in-Some.ensures.ok
    ∙ sym (order-some c.put_entry.new.self c.args.key c.in-Some.spot (first-key c.args.key c.args.entry c.args.hits.now c.put_entry.new.self c.in-Ok.ensures.ok ∙ sym c.first.ensures ∙ c.in-Some.is))

pub returns-in-Err-clause-order : goal.returns-in-Err-clause-order
returns-in-Err-clause-order c =
    ap (λ (o : Ordered). o.marks) (came_back c.args.hits.now (mark c.in-Some.spot c.args.key) c.args.self.now.order c.insert.new.self c.requires.order c.in_ok-insert-in-Some.ensures.ok c.remove.new.self c.remove.ensures)
    ∙ c.requires.order ∙ ap order_of (sym c.in-Err.ensures.err)

pub returns-in-Err-clause-cut : goal.returns-in-Err-clause-cut
returns-in-Err-clause-cut c =
    let back = came_back c.args.hits.now (mark c.in-Some.spot c.args.key) c.args.self.now.order c.insert.new.self c.requires.order c.in_ok-insert-in-Some.ensures.ok c.remove.new.self c.remove.ensures in
    resplit (hitcount c.put_entry.new.self)
    (subst (λ (h : Hits). IsSplit (hitcount h) c.args.self.now.order.size c.args.self.now.order.marks c.args.self.now.hits c.args.self.now.dropped) (sym c.in-Err.ensures.err) c.requires.cut)
    (ap (λ (o : Ordered). o.size) back) (ap (λ (o : Ordered). o.marks) back) refl refl
