-- How single shelves change.
use Rattle.std.specs.Prelude.{◌≡◌, ℤ, List, Option, Some, None}
use Rattle.std.specs.FinMap as map
use Rattle.ft_fields.specs.declared.pos.Pos.{Pos}
use Rattle.ft_fields.specs.declared.key.Part.{Part}
use Rattle.ft_pairs.specs.ByKey.{ChangesKey}
use Rattle.ft_pairs.specs.Source.{Ops}
use Rattle.ft_table.specs.Growth.{with_hit}
use Rattle.ft_table.specs.OneKey.{without_hit}
use Rattle.ft_hits.specs.declared.mark.Mark.{Mark}
use Rattle.ft_shelves.specs.Shelves.{Readings, Shelved}

-- what readings found, with what one found, if it found something
abbrev pub readings_with : Readings → Pos → Option Pos → Readings
readings_with readings at None = readings
readings_with readings at (Some saved) = map.insert readings at saved

-- a shelf with one more hit, and with what it read, if it read
abbrev pub with_hit_on : Mark → List ℤ → Option Pos → Shelved → Shelved
with_hit_on mark values saved shelf = record shelf { table = with_hit shelf.table mark values; readings = readings_with shelf.readings mark.spot.pos saved }

-- a shelf without a hit, and without what it read
abbrev pub without_hit_on : Mark → Shelved → Shelved
without_hit_on mark shelf = record shelf { table = without_hit shelf.table mark; readings = map.remove shelf.readings mark.spot.pos }

-- the operations of one key change, and nothing else on the shelf
pub record OpsChange (key : List Part) (edit : Ops → Ops) (old new : Shelved) : Type 0 where
  pub role : new.role ≡ old.role
  pub table : new.table ≡ old.table
  pub readings : new.readings ≡ old.readings
  pub ops : ChangesKey key edit old.ops new.ops
