-- The order of first hits, as one key comes, goes or moves.
use Rattle.std.specs.Prelude.{ℕ, ◌-◌, ◌+◌, not, List, [], Option, Some, None, cond}
use Rattle.std.specs.FinMap as map
use Rattle.ft_hits.specs.declared.spot.Spot.{Spot}
use Rattle.ft_fields.specs.declared.key.Part.{Part}
use Rattle.ft_fields.specs.Parts.{same_key}
use Rattle.ft_hits.specs.declared.mark.Mark.{Mark}
use Rattle.ft_hits.specs.Hits.{Hits}
use Rattle.ft_table.specs.Tabled.{first_hits}

-- the first hits of all keys except one
unfoldable pub others : Hits → List Part → Hits
others hits key = map.retain_keys (first_hits hits) (λ m. not (same_key m.key key))

-- where they stand, in order
abbrev pub order_without : Hits → List Part → List Mark
order_without hits key = map.keys (others hits key)

-- the same with a mark of that key
abbrev pub order_with : Hits → Mark → List Mark
order_with hits m = map.keys (map.insert (others hits m.key) m [])

-- the same with that key at a spot, if it has one
abbrev pub order_before : Hits → List Part → Option Spot → List Mark
order_before hits key None = order_without hits key
order_before hits key (Some spot) = order_with hits (record { spot = spot; key = key })

-- counts of hits with one more at a key
abbrev pub with_more : (List Part → ℕ) → List Part → List Part → ℕ
with_more count key q = cond (same_key q key) (count q + 1) (count q)

-- counts of hits with one less at a key
abbrev pub with_less : (List Part → ℕ) → List Part → List Part → ℕ
with_less count key q = cond (same_key q key) (count q - 1) (count q)
