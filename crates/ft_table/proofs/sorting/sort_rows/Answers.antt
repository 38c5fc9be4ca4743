use Rattle.std.proofs.Common.{◌≡◌, rules}
use Rattle.std.specs.Ordering.{is_lt}
use Rattle.std.proofs.lemmas.List.Sorted.{ranks_by}
use Rattle.std.proofs.lemmas.Fn.{always_returns_same}
use Rattle.ft_table.specs.Counted.{Counted}
use Rattle.ft_table.specs.Sorting.{row_cmp}
use Rattle.ft_table.proofs.InOrder.{in_order-alone}
use Rattle.ft_table.proofs.RowOrders.{row_cmp_total}
use Rattle.ft_table.proofs.sorting.sort_rows.Goals as goal

pub returns : goal.returns
returns c =
    let sort = c.args.sort.now in
    in_order-alone sort c.args.rows.now.items c.sort_unstable_by.new.self.items c.requires c.sort_unstable_by.ensures.permutation
    (c.sort_unstable_by.ensures.sorted (λ (a b : Counted). is_lt (row_cmp sort a b)) (ranks_by (row_cmp_total sort) (λ (row : Counted). row)) (always_returns_same _ (λ a r. is_lt r ≡ is_lt (row_cmp sort a.0.now a.1.0.now)) _ (λ a r q k. search rules)))
