-- Stretches of time in which events were lost, on one CPU or on any, and the order by which a question finds one.
use Rattle.std.specs.Prelude.{◌≡◌, ℕ, ◌+◌, ◌<◌, ◌==◌, ◌&&◌, Bool, true, false, max, List, [], ◌∷◌, length, take, Option, Some, None, slice_index_or, IsPermutation, if◌then◌else◌}
use Rattle.std.specs.List.{list_any}
use Rattle.std.specs.List.Sorted.{IsSortedByKey, IsPartitionPoint}
use Rattle.std.specs.Option.{option_cmp, option_eq}
use Rattle.std.specs.Ordering.{nat_cmp, on, then_cmp, is_lt}
use Rattle.std.specs.declared.cmp.Ordering.{Ordering}
use Rattle.ft_losses.specs.Doubt.{begins_before, ends_after}
use Rattle.ft_losses.specs.declared.hole.Hole.{Hole}
use Rattle.ft_losses.specs.declared.stretches.Start.{Start}
use Rattle.ft_losses.specs.declared.stretches.Stretch.{Stretch}

-- ---- stretches

-- the stretch of a hole, on its CPU or on any
abbrev pub stretch_on : Option ℕ → Hole → Stretch
stretch_on cpu hole = record { start = record { cpu = cpu; after = hole.after }; before = hole.before }

-- the stretches of a hole, on its CPU, if that is known, and on any
abbrev pub stretches_of : Hole → List Stretch
stretches_of hole = stretch_on hole.cpu hole ∷ stretch_on None hole ∷ []

-- whether a stretch is on a CPU, or on any
abbrev pub is_on : Option ℕ → Stretch → Bool
is_on cpu one = option_eq ◌==◌ one.start.cpu cpu

-- whether it begins before a time ends and ends after it began
abbrev pub is_in : ℕ → ℕ → Stretch → Bool
is_in began ended one = begins_before one.start.after ended && ends_after one.before began

-- ---- their order

-- beginnings in order: by CPU, any first, then by stamp
abbrev pub start_cmp : Start → Start → Ordering
start_cmp = then_cmp (on (λ s. s.cpu) (option_cmp nat_cmp)) (on (λ s. s.after) (option_cmp nat_cmp))

-- stretches in the order of their beginnings
abbrev pub AreInOrder : List Stretch → Type 0
AreInOrder rows = IsSortedByKey (λ one. one.start) start_cmp rows

-- whether a stretch begins before a place
abbrev pub is_before : Start → Stretch → Bool
is_before limit one = is_lt (start_cmp one.start limit)

-- those that do are so many, and the first ones
abbrev pub AreBefore : Start → List Stretch → ℕ → Type 0
AreBefore limit rows count = IsPartitionPoint (λ one. is_before limit one ≡ true) (λ one. is_before limit one ≡ false) rows count

-- ---- rows

-- the later one of two ends
abbrev pub later_end : Option ℕ → Option ℕ → Option ℕ
later_end None second = None
later_end (Some end) None = None
later_end (Some end) (Some other) = Some (max end other)

-- a stretch that ends no earlier than the one before it, if that is on the same CPU
abbrev pub extended : Stretch → Stretch → Stretch
extended one last = if is_on one.start.cpu last then record { start = one.start; before = later_end last.before one.before } else one

-- a row begins as its stretch does, and ends with the last one of those on its CPU among the first stretches
pub record Reaches (firsts : List Stretch) (own : Stretch) (row : Stretch) : Type 0 where
  pub start : row.start ≡ own.start
  pub before : (stamp : ℕ) → ends_after row.before stamp ≡ list_any (λ one. is_on row.start.cpu one && ends_after one.before stamp) firsts

-- so many rows reach so far
abbrev pub AllReach : List Stretch → List Stretch → ℕ → Type 0
AllReach sorted rows count = (k : ℕ) (d : Stretch) → k < count → Reaches (take (k + 1) sorted) (slice_index_or sorted k d) (slice_index_or rows k d)

-- the rows of stretches
pub record Indexes (rows : List Stretch) (stretches : List Stretch) : Type 0 where
  pub sorted : List Stretch
  pub moved : IsPermutation stretches sorted
  pub rises : AreInOrder sorted
  pub size : length rows ≡ length sorted
  pub reach : AllReach sorted rows (length rows)
