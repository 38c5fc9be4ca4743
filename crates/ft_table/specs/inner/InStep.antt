-- A table's fields: what contracts see of them, and that they are in step with its hits.
use Rattle.std.specs.Prelude.{◌≡◌, ◌<◌}
use Rattle.ft_table.specs.declared.table.Table.TheInside.{Inside}
use Rattle.ft_hits.specs.Hits.{hitcount}
use Rattle.ft_table.specs.Tabled.{Tabled, order_of}
use Rattle.ft_table.specs.inner.Cut.{IsCutAtSize}

-- what contracts see of a table's fields
abbrev pub table_of : Inside → Tabled
table_of t = record { hits = t.hits; size = t.ranked.order.size }

-- there is room for a key, the order is that of the first hits, and the counts are those of the keys in the table and outside
pub record IsInStep (t : Inside) : Type 0 where
  pub room : 0 < t.ranked.order.size
  pub order : t.ranked.order.marks ≡ order_of t.hits
  pub cut : IsCutAtSize (hitcount t.hits) t.ranked
