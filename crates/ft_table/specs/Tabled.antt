-- Which keys are in a table.
use Rattle.std.specs.Prelude.{ℕ, ◌-◌, Bool, false, not, List, length, take, drop, slice_get, Option, map as list_map}
use Rattle.std.specs.List.{filter, list_any}
use Rattle.std.specs.Option.{option_map_or}
use Rattle.std.specs.Ordering.{eq_by_cmp, is_lt}
use Rattle.std.specs.FinMap as map
use Rattle.ft_hits.specs.Spots.{spot_cmp}
use Rattle.ft_fields.specs.declared.key.Part.{Part}
use Rattle.ft_fields.specs.Parts.{same_key}
use Rattle.ft_hits.specs.declared.mark.Mark.{Mark}
use Rattle.ft_hits.specs.Hits.{Hits, first_place}
use Rattle.ft_hits.specs.Marks.{mark_cmp}

-- whether a hit is the first of its key
abbrev pub is_first : Hits → Mark → Bool
is_first hits m = option_map_or (eq_by_cmp spot_cmp m.spot) (first_place hits m.key) false

-- the first hits of all keys
unfoldable pub first_hits : Hits → Hits
first_hits hits = map.retain_keys hits (is_first hits)

-- where they stand, in order
abbrev pub order_of : Hits → List Mark
order_of hits = map.keys (first_hits hits)

-- a table: the hits of a trigger, and for how many keys it has room (kernel: histogram.rst, `size`)
pub record Tabled : Type 0 where
  pub hits : Hits
  pub size : ℕ

-- the keys in the table: the first `size` keys in order of their first hits (kernel: histogram.rst, `size`)
abbrev pub keys_in : Tabled → List (List Part)
keys_in table = list_map (λ m. m.key) (take table.size (order_of table.hits))

-- the keys outside, in the same order (kernel: histogram.rst, `Dropped`)
abbrev pub keys_out : Tabled → List (List Part)
keys_out table = list_map (λ m. m.key) (drop table.size (order_of table.hits))

-- whether a key is in the table (kernel: histogram.rst, `size`)
abbrev pub is_in : Tabled → List Part → Bool
is_in table key = list_any (same_key key) (keys_in table)

-- the key in the table whose first hit is last (our own choice)
abbrev pub last_in : Tabled → Option (List Part)
last_in table = slice_get (keys_in table) (length (keys_in table) - 1)

-- the key outside whose first hit is first
abbrev pub first_out : Tabled → Option (List Part)
first_out table = slice_get (keys_out table) 0

-- the marks that don't stand before a mark
abbrev pub marks_from : Mark → List Mark → List Mark
marks_from mark = filter (λ m. not (is_lt (mark_cmp m mark)))

-- whether a key's first hit stands before a mark
abbrev pub is_before : Hits → List Part → Mark → Bool
is_before hits key mark = option_map_or (λ spot. is_lt (mark_cmp (record { spot = spot; key = key }) mark)) (first_place hits key) false
