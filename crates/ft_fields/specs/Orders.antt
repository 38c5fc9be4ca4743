-- The laws of the orders of parts and keys.
use Rattle.std.specs.Cmp.{IsTotalOrder, IsEquivalence, on_total, then_total, nat_cmp_total, int_cmp_total, eq_by_cmp_equiv}
use Rattle.std.specs.Cmp.Lexicographic.{nat_list_cmp_total, lists_total}
use Rattle.std.specs.Ordering.{eq_by_cmp}
use Rattle.ft_fields.specs.Parts.{part_kind, part_number, bytes_of, part_cmp, key_cmp}

-- the order of parts is total
pub part_cmp_total : IsTotalOrder part_cmp
part_cmp_total = then_total (on_total part_kind nat_cmp_total) (then_total (on_total part_number int_cmp_total) (on_total bytes_of nat_list_cmp_total))

-- the order of keys is total
pub key_cmp_total : IsTotalOrder key_cmp
key_cmp_total = lists_total part_cmp_total

-- parts that tie are as good as equal
pub part_ties : IsEquivalence (eq_by_cmp part_cmp)
part_ties = eq_by_cmp_equiv part_cmp_total

-- keys that tie are as good as equal
pub key_ties : IsEquivalence (eq_by_cmp key_cmp)
key_ties = eq_by_cmp_equiv key_cmp_total
