-- Without hits there is no order.
use Rattle.std.proofs.Common.{ℕ, ◌<◌, sym, ap, subst, ◌∙◌}
use Rattle.ft_hits.specs.Hits.{Hits, hitcount}
use Rattle.ft_table.specs.Tabled.{order_of}
use Rattle.ft_table.specs.inner.Cut.{IsCutAtSize}
use Rattle.ft_table.proofs.table.Table.new.Goals as goal

pub invariant_of-result : goal.invariant_of-result
invariant_of-result c = record {
  room = subst (λ (n : ℕ). 0 < n) (sym c.new-2.ensures.size) c.requires;
  order = c.new-2.ensures.order ∙ sym (ap order_of c.new.ensures);
  cut = subst (λ (h : Hits). IsCutAtSize (hitcount h) c.new-2.result) (sym c.new.ensures) c.new-2.ensures.cut;
}

pub returns : goal.returns
returns c = λ i. record { hits = c.new.ensures i; size = c.new-2.ensures.size i }
