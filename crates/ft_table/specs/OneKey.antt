-- How little the keys in a table change with the hits of one key.
use Rattle.std.specs.Prelude.{◌≡◌, ℤ, false, List, Some}
use Rattle.std.specs.FinMap as map
use Rattle.ft_fields.specs.declared.key.Part.{Part}
use Rattle.ft_hits.specs.declared.mark.Mark.{Mark}
use Rattle.ft_hits.specs.Hits.{Hits}
use Rattle.ft_table.specs.Tabled.{Tabled, is_in, last_in, first_out}
use Rattle.ft_table.specs.Growth.{with_hit}

-- a table with one hit less
abbrev pub without_hit : Tabled → Mark → Tabled
without_hit table m = record table { hits = map.remove table.hits m }

-- when a hit comes, wherever it stands, every key except its own and the last in the table is in or out as before
abbrev pub LastGoesOut : Type 0
LastGoesOut = (table : Tabled) (m : Mark) (v : List ℤ) (key : List Part) → (key ≡ m.key → ⊥) → (last_in table ≡ Some key → ⊥)
    → is_in (with_hit table m v) key ≡ is_in table key

-- when a hit goes, every key except its own and the first outside is in or out as before
abbrev pub FirstComesIn : Type 0
FirstComesIn = (table : Tabled) (m : Mark) (key : List Part) → (key ≡ m.key → ⊥) → (first_out table ≡ Some key → ⊥)
    → is_in (without_hit table m) key ≡ is_in table key

-- the first key outside is not in the table
abbrev pub FirstIsOut : Type 0
FirstIsOut = (table : Tabled) (key : List Part) → first_out table ≡ Some key → is_in table key ≡ false

-- two maps have the same hits of all keys except one
abbrev pub AreSameBut : List Part → Hits → Hits → Type 0
AreSameBut key a b = (m : Mark) → (m.key ≡ key → ⊥) → map.get b m ≡ map.get a m

-- whatever happens to the hits of one key, only it and at most one other key come in or go out
abbrev pub OneOtherMoves : Type 0
OneOtherMoves = (table : Tabled) (after : Hits) (key : List Part) → AreSameBut key table.hits after
    → (other : List Part) × ((q : List Part) → (q ≡ key → ⊥) → (q ≡ other → ⊥) → is_in (record table { hits = after }) q ≡ is_in table q)
