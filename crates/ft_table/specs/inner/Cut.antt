-- An order of keys, cut at a table's size, and the hits on both sides.
use Rattle.std.specs.Prelude.{◌≡◌, ℕ, ◌+◌, ◌<◌, ◌^◌, List, drop}
use Rattle.std.specs.List.{sum_by}
use Rattle.ft_fields.specs.declared.key.Part.{Part}
use Rattle.ft_hits.specs.declared.mark.Mark.{Mark}
use Rattle.ft_table.specs.declared.ranked.Ranked.{Ranked}

-- the hits of the first `size` keys of an order, and those of the others, which together fit 64 bits
pub record IsSplit (count : List Part → ℕ) (size : ℕ) (order : List Mark) (hits dropped : ℕ) : Type 0 where
  pub behind : dropped ≡ sum_by (λ m. count m.key) (drop size order)
  pub whole : hits + dropped ≡ sum_by (λ m. count m.key) order
  pub fits : hits + dropped < 2 ^ 64

-- the order of a table is cut at its size, and the counts are those of the keys on both sides
abbrev pub IsCutAtSize : (List Part → ℕ) → Ranked → Type 0
IsCutAtSize count ranked = IsSplit count ranked.order.size ranked.order.marks ranked.hits ranked.dropped

-- how many hits are counted on both sides
abbrev pub all_counted : Ranked → ℕ
all_counted ranked = ranked.hits + ranked.dropped
