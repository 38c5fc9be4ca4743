-- The rows of one CPU's events: line numbers with places in a store, by line number, some of them struck.
use Rattle.std.specs.Prelude.{◌≡◌, ℕ, ◌+◌, ◌<◌, Bool, ◌==◌, not, List, length}
use Rattle.std.specs.List.{AllByRecursion, filter}
use Rattle.std.specs.List.Sorted.{IsStrictlySortedBy}
use Rattle.std.specs.Ordering.{nat_cmp}
use Rattle.std.specs.Map.{keys_of}

-- the place of a struck row, at which no event stands
abbrev pub struck_place : ℕ
struck_place = 4294967295

-- an event stands at a place
abbrev pub is_held : ℕ → Bool
is_held place = not (place == struck_place)

-- the rows that are not struck
abbrev pub held_rows : List (ℕ × ℕ) → List (ℕ × ℕ)
held_rows rows = filter (λ row. is_held row.1) rows

-- the lines of rows rise
abbrev pub Rise : List (ℕ × ℕ) → Type 0
Rise rows = IsStrictlySortedBy nat_cmp (keys_of rows)

-- the lines of rows are below the next number
abbrev pub AreBelow : ℕ → List (ℕ × ℕ) → Type 0
AreBelow next rows = AllByRecursion (λ line. line < next) (keys_of rows)

-- what holds of rows, of how many are struck, and of the next number
pub record AreRows (struck next : ℕ) (rows : List (ℕ × ℕ)) : Type 0 where
  pub rise : Rise rows
  pub below : AreBelow next rows
  pub counted : length rows ≡ length (held_rows rows) + struck
