-- Rivals: the other keys that may come in or go out as hits of some keys come and go.
use Rattle.std.specs.Prelude.{◌≡◌, ◌-◌, ◌≤◌, ◌++◌, ℤ, not, Bool, true, false, List, [], ◌∷◌, length, drop}
use Rattle.std.specs.List.{list_any, IsDistinct}
use Rattle.std.specs.FinMap as map
use Rattle.ft_fields.specs.declared.key.Part.{Part}
use Rattle.ft_fields.specs.Parts.{same_key}
use Rattle.ft_hits.specs.declared.mark.Mark.{Mark}
use Rattle.ft_table.specs.Growth.{with_hit}
use Rattle.ft_table.specs.Hits.{Hits}
use Rattle.ft_table.specs.OneKey.{without_hit}
use Rattle.ft_table.specs.Rows.{row_at}
use Rattle.ft_table.specs.Tabled.{Tabled, keys_in, is_in}

-- whether a key is one of some
abbrev pub is_of : List (List Part) → List Part → Bool
is_of keys key = list_any (same_key key) keys

-- the hits of all keys, except some
abbrev pub hits_but : Hits → List (List Part) → Hits
hits_but hits keys = map.retain_keys hits (λ m. not (is_of keys m.key))

-- the rivals of some keys: those that would stand at the table's last places, as many places as there are keys, if the keys themselves had no hits
unfoldable pub rivals : Tabled → List (List Part) → List (List Part)
rivals table keys = drop (table.size - length keys) (keys_in (record table { hits = hits_but table.hits keys }))

-- two tables have one size, and the same hits of all keys, except some
pub record AreTablesButFor (keys : List (List Part)) (a b : Tabled) : Type 0 where
  pub size : b.size ≡ a.size
  pub hits : (m : Mark) → is_of keys m.key ≡ false → map.get b.hits m ≡ map.get a.hits m

-- the rivals depend only on the size and the hits of the other keys
abbrev pub RivalsStay : Type 0
RivalsStay = (a b : Tabled) (keys : List (List Part)) → AreTablesButFor keys a b → rivals b keys ≡ rivals a keys

-- they are at most as many as the keys
abbrev pub FewRivals : Type 0
FewRivals = (table : Tabled) (keys : List (List Part)) → length (rivals table keys) ≤ length keys

-- none of them is one of the keys
abbrev pub RivalsAreOthers : Type 0
RivalsAreOthers = (table : Tabled) (keys : List (List Part)) (q : List Part) → is_of (rivals table keys) q ≡ true → is_of keys q ≡ false

-- no two of them are the same
abbrev pub RivalsDiffer : Type 0
RivalsDiffer = (table : Tabled) (keys : List (List Part)) → IsDistinct same_key (rivals table keys)

-- a key that is none of the keys and none of their rivals is in both tables or in neither
abbrev pub RivalsAlone : Type 0
RivalsAlone = (a b : Tabled) (keys : List (List Part)) (q : List Part) → AreTablesButFor keys a b → is_of keys q ≡ false → is_of (rivals a keys) q ≡ false
    → is_in b q ≡ is_in a q

-- and it has the same row in both, or none in either (kernel: histogram.rst, the `hist` file)
abbrev pub RowsStayBut : Type 0
RowsStayBut = (a b : Tabled) (keys : List (List Part)) (q : List Part) → AreTablesButFor keys a b → is_of keys q ≡ false → is_of (rivals a keys) q ≡ false
    → row_at b q ≡ row_at a q

-- a table is the same as itself, whatever keys' hits are left out
abbrev pub ButForNothing : Type 0
ButForNothing = (table : Tabled) (keys : List (List Part)) → AreTablesButFor keys table table

-- a hit that comes, or goes, is a change at its key
abbrev pub ButForOneHit : Type 0
ButForOneHit = (table : Tabled) (m : Mark) (v : List ℤ) → AreTablesButFor (m.key ∷ []) table (with_hit table m v) × AreTablesButFor (m.key ∷ []) table (without_hit table m)

-- changes that are taken back are changes at the same keys
abbrev pub ButForBack : Type 0
ButForBack = (a b : Tabled) (keys : List (List Part)) → AreTablesButFor keys a b → AreTablesButFor keys b a

-- changes at some keys and then at others are changes at all of them
abbrev pub ButForMore : Type 0
ButForMore = (a b c : Tabled) (some others : List (List Part)) → AreTablesButFor some a b → AreTablesButFor others b c → AreTablesButFor (some ++ others) a c

-- changes at some keys are changes at any keys that these are among, in whatever order and however often they are named
abbrev pub ButForAmong : Type 0
ButForAmong = (a b : Tabled) (some keys : List (List Part)) → ((q : List Part) → is_of some q ≡ true → is_of keys q ≡ true) → AreTablesButFor some a b → AreTablesButFor keys a b
