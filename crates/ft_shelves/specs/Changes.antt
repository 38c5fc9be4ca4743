-- One hit or operation more or less.
use Rattle.std.specs.Prelude.{◌≡◌, ℕ, Bool, true, false, Option, Some, None, if◌then◌else◌}
use Rattle.std.specs.FinMap as map
use Rattle.ft_hits.specs.declared.mark.Mark.{Mark}
use Rattle.ft_pairs.specs.Edits.{same_at}
use Rattle.ft_pairs.specs.Source.{Ops}
use Rattle.ft_pairs.specs.declared.at.At.{At}
use Rattle.ft_pairs.specs.declared.at.Op.{Op}
use Rattle.ft_table.specs.Growth.{with_hit}
use Rattle.ft_table.specs.Hits.{Hits}
use Rattle.ft_table.specs.OneKey.{without_hit}
use Rattle.ft_table.specs.Tabled.{Tabled}
use Rattle.ft_shelves.specs.declared.sign.HitChange.{HitChange}
use Rattle.ft_shelves.specs.declared.sign.HitChange.TheVariants as changes
use Rattle.ft_shelves.specs.declared.sign.Sign.{Sign}
use Rattle.ft_shelves.specs.declared.sign.Sign.TheVariants.{Insert, Retract}
use Rattle.ft_shelves.specs.Shelves.{Readings, Shelved}

-- the change puts in
abbrev pub is_insert : Sign → Bool
is_insert Insert = true
is_insert Retract = false

-- so many if the change puts in, and none if it takes away
abbrev pub on_insert : Sign → ℕ → ℕ
on_insert Insert n = n
on_insert Retract n = 0

-- ---- operations

-- what stands at an operation's place afterwards
abbrev pub op_after : Sign → Op → Option Op
op_after Insert op = Some op
op_after Retract op = None

-- the operations with this one at a place, or with none
abbrev pub set_op : At → Option Op → Ops → Ops
set_op at op ops q = if same_at q at then op else ops q

-- ---- hits

-- whether the hit comes or goes
abbrev pub sign_of : HitChange → Sign
sign_of (changes.Insert h) = Insert
sign_of (changes.Retract mark) = Retract

-- where the hit stands
abbrev pub change_mark : HitChange → Mark
change_mark (changes.Insert h) = record { spot = h.spot; key = h.key }
change_mark (changes.Retract mark) = mark

-- no hit stands where one comes
abbrev pub PlaceIsFree : HitChange → Hits → Type 0
PlaceIsFree (changes.Insert h) hits = map.get hits (record { spot = h.spot; key = h.key }) ≡ None
PlaceIsFree (changes.Retract mark) hits = Unit {0}

-- a table with the change
abbrev pub table_with : HitChange → Tabled → Tabled
table_with (changes.Insert h) table = with_hit table (record { spot = h.spot; key = h.key }) h.values
table_with (changes.Retract mark) table = without_hit table mark

-- what readings found with the change: a hit that comes reads nothing, and if a hit goes, what it read goes too
abbrev pub readings_after : HitChange → Readings → Readings
readings_after (changes.Insert h) readings = readings
readings_after (changes.Retract mark) readings = map.remove readings mark.spot.pos

-- a shelf with the change
abbrev pub with_change : HitChange → Shelved → Shelved
with_change change shelf = record shelf { table = table_with change shelf.table; readings = readings_after change shelf.readings }
