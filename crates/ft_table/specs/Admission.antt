-- The law of the first keys: which keys are in a table, by rank, and which hits are counted.
use Rattle.std.specs.Prelude.{◌≡◌, ◌↔◌, ◌+◌, ◌<◌, not, List, IsTrue, IsSome}
use Rattle.std.specs.declared.cmp.Ordering.TheVariants.{Less}
use Rattle.std.specs.Ordering.{is_lt}
use Rattle.std.specs.FinMap as map
use Rattle.ft_hits.specs.declared.spot.Spot.{Spot}
use Rattle.ft_hits.specs.Spots.{spot_cmp}
use Rattle.ft_fields.specs.declared.key.Part.{Part}
use Rattle.ft_fields.specs.Parts.{same_key}
use Rattle.ft_hits.specs.declared.mark.Mark.{Mark}
use Rattle.ft_hits.specs.Marks.{mark_cmp}
use Rattle.ft_hits.specs.Hits.{Hits, hitcount}
use Rattle.ft_table.specs.Tabled.{Tabled, first_hits, is_in}
use Rattle.ft_table.specs.Rows.{totals_of}

-- a mark is that of its key's first hit: a hit stands there, and none of its key before
pub record IsFirstHit (hits : Hits) (m : Mark) : Type 0 where
  pub hit : IsSome (map.get hits m)
  pub least : (p : Spot) → IsSome (map.get hits (record m { spot = p })) → spot_cmp p m.spot ≡ Less → ⊥

-- the first hits are these
abbrev pub FirstsAreFirst : Type 0
FirstsAreFirst = (hits : Hits) (m : Mark) → IsSome (map.get (first_hits hits) m) ↔ IsFirstHit hits m

-- the first hits of other keys before a mark, one for each of these keys
abbrev pub earlier_firsts : Hits → Mark → Hits
earlier_firsts hits m = map.retain_keys (first_hits hits) (λ first. is_lt (mark_cmp first m))

-- a key has a first hit, and fewer than `size` other keys have an earlier one (kernel: histogram.rst, `size`)
pub record IsAmongFirst (table : Tabled) (key : List Part) : Type 0 where
  pub spot : Spot
  pub first : IsFirstHit table.hits (record { spot = spot; key = key })
  pub few : map.len (earlier_firsts table.hits (record { spot = spot; key = key })) < table.size

-- a key is in the table exactly if it has a hit and fewer than `size` other keys have an earlier first hit (kernel: histogram.rst, `size`)
abbrev pub InByRank : Type 0
InByRank = (table : Tabled) (key : List Part) → IsTrue (is_in table key) ↔ IsAmongFirst table key

-- a key counts all its hits (kernel: histogram.rst, `hitcount`)
abbrev pub AllCount : Type 0
AllCount = (hits : Hits) (key : List Part) → hitcount hits key ≡ map.len (map.retain_keys hits (λ m. same_key m.key key))

-- the hits counted are all hits of the keys in the table (kernel: histogram.rst, `Hits`)
abbrev pub InsideCount : Type 0
InsideCount = (table : Tabled) → (totals_of table).hits ≡ map.len (map.retain_keys table.hits (λ m. is_in table m.key))

-- the hits dropped are all hits of the other keys (kernel: histogram.rst, `Dropped`)
abbrev pub OutsideDrop : Type 0
OutsideDrop = (table : Tabled) → (totals_of table).dropped ≡ map.len (map.retain_keys table.hits (λ m. not (is_in table m.key)))

-- together they are all hits (kernel: histogram.rst, `Hits` and `Dropped`)
abbrev pub WholeCount : Type 0
WholeCount = (table : Tabled) → (totals_of table).hits + (totals_of table).dropped ≡ map.len table.hits
