-- A hit after all others: what replaying events in order does, hit by hit.
use Rattle.std.specs.Prelude.{◌≡◌, ℕ, ◌+◌, ◌%◌, ◌^◌, ℤ, List, [], ◌∷◌, ◌++◌, Some, None, length, Bool, ◌||◌, ◌&&◌, nat_lt, if◌then◌else◌, IsSome, unwrap_or, slice_index_or}
use Rattle.std.specs.declared.cmp.Ordering.TheVariants.{Less}
use Rattle.std.specs.FinMap as map
use Rattle.ft_fields.specs.declared.key.Part.{Part}
use Rattle.ft_fields.specs.Parts.{same_key}
use Rattle.ft_hits.specs.declared.mark.Mark.{Mark}
use Rattle.ft_table.specs.Counted.{Counted}
use Rattle.ft_hits.specs.Marks.{mark_cmp}
use Rattle.ft_hits.specs.Hits.{Hits, unsigned_at}
use Rattle.ft_table.specs.Tabled.{Tabled, keys_in, is_in}
use Rattle.ft_table.specs.Rows.{row_at, totals_of}

-- all hits stand before a mark
abbrev pub AreBefore : Hits → Mark → Type 0
AreBefore hits m = (q : Mark) → IsSome (map.get hits q) → mark_cmp q m ≡ Less

-- a table with one more hit
abbrev pub with_hit : Tabled → Mark → List ℤ → Tabled
with_hit table m v = record table { hits = map.insert table.hits m v }

-- whether there is room for another key (kernel: histogram.rst, `size`)
abbrev pub has_room : Tabled → Bool
has_room table = nat_lt (length (keys_in table)) table.size

-- whether a hit that comes last is counted: its key is in the table, or there is room (kernel: histogram.rst, `size` and `Dropped`)
abbrev pub is_counted : Tabled → List Part → Bool
is_counted table key = is_in table key || has_room table

-- a key's row before its first hit
abbrev pub empty_row : List Part → Counted
empty_row key = record { key = key; hitcount = 0; sums = 0 ∷ 0 ∷ 0 ∷ [] }

-- a sum and a value of a hit, modulo 2^64 (kernel: histogram.rst, `values`; modulo 2^64 is our own choice)
abbrev pub added : ℕ → List ℕ → List ℤ → ℕ
added j sums v = (slice_index_or sums j 0 + unsigned_at j v) % 2 ^ 64

-- a row and one more hit (kernel: histogram.rst, `hitcount` and `values`)
abbrev pub grown : List ℤ → Counted → Counted
grown v row = record row { hitcount = row.hitcount + 1; sums = added 0 row.sums v ∷ added 1 row.sums v ∷ added 2 row.sums v ∷ [] }

-- a hit comes after all others, at a mark where none stands
pub record ComesLast (table : Tabled) (m : Mark) : Type 0 where
  pub absent : map.get table.hits m ≡ None
  pub last : AreBefore table.hits m

-- its key comes last into the table if it isn't in and there is room; no key goes out (kernel: histogram.rst, `size`)
abbrev pub KeysGrow : Type 0
KeysGrow = (table : Tabled) (m : Mark) (v : List ℤ) → ComesLast table m
    → keys_in (with_hit table m v) ≡ (if is_in table m.key then keys_in table else if has_room table then keys_in table ++ m.key ∷ [] else keys_in table)

-- its key is in exactly if the hit is counted, and all other keys are in or out as before (kernel: histogram.rst, `size`)
abbrev pub InGrows : Type 0
InGrows = (table : Tabled) (m : Mark) (v : List ℤ) (key : List Part) → ComesLast table m
    → is_in (with_hit table m v) key ≡ (if same_key key m.key then is_counted table key else is_in table key)

-- its key's row has one more hit if it is counted, and all other rows are as before (kernel: histogram.rst, `hitcount` and `values`)
abbrev pub RowsGrow : Type 0
RowsGrow = (table : Tabled) (m : Mark) (v : List ℤ) (key : List Part) → ComesLast table m
    → row_at (with_hit table m v) key ≡ (if same_key key m.key && is_counted table key then Some (grown v (unwrap_or (row_at table key) (empty_row key))) else row_at table key)

-- if it is counted, the totals have one hit more, and one entry more if its key comes in; if it is not counted, one hit more is dropped (kernel: histogram.rst, `Hits`, `Entries` and `Dropped`)
abbrev pub TotalsGrow : Type 0
TotalsGrow = (table : Tabled) (m : Mark) (v : List ℤ) → ComesLast table m
    → totals_of (with_hit table m v) ≡ (let t = totals_of table in
    if is_in table m.key then record t { hits = t.hits + 1 }
    else if has_room table then record t { hits = t.hits + 1; entries = t.entries + 1 }
    else record t { dropped = t.dropped + 1 })
