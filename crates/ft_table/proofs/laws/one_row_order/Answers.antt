use Rattle.ft_table.proofs.RowOrders.{row_cmp_total, one_key}
use Rattle.ft_table.proofs.InOrder.{in_order-permutes, in_order-sorted, in_order-alone}
use Rattle.ft_table.proofs.laws.one_row_order.Goals as goal

pub returns-clause-total : goal.returns-clause-total
returns-clause-total c = row_cmp_total

pub returns-clause-ties : goal.returns-clause-ties
returns-clause-ties c = one_key

pub returns-clause-permutation : goal.returns-clause-permutation
returns-clause-permutation c = in_order-permutes

pub returns-clause-sorted : goal.returns-clause-sorted
returns-clause-sorted c = in_order-sorted

pub returns-clause-alone : goal.returns-clause-alone
returns-clause-alone c = in_order-alone
