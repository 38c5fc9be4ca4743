-- Runs: all operations of one key at once, and reads that come together.
use Rattle.std.specs.Prelude.{◌≡◌, ◌⊎◌, ℕ, ◌<◌, List, length, Option, Some, None, slice_index_or, if◌then◌else◌}
use Rattle.std.specs.List.{list_any}
use Rattle.std.specs.FinMap as map
use Rattle.ft_pairs.specs.declared.at.At.{At}
use Rattle.ft_pairs.specs.declared.at.Op.{Op}
use Rattle.ft_pairs.specs.declared.at.Op.TheVariants.{Read}
use Rattle.ft_pairs.specs.Source.{Ops, IsSource}
use Rattle.ft_pairs.specs.Edits.{same_at}
use Rattle.ft_pairs.specs.ByKey.{KeyOps}

-- the operations of a list, by place, whatever stood there
abbrev pub ops_listed : List (At × Op) → Ops → Ops
ops_listed run ops at = let listed : KeyOps = map.from_entries run in map.get listed at

-- the operations with a read at each of some places
abbrev pub with_reads : List At → Ops → Ops
with_reads reads ops at = if list_any (same_at at) reads then Some Read else ops at

-- some of these reads were put, and others not: each place has what it had, or what it has with all of them
abbrev pub SomeReads : List At → Ops → Ops → Type 0
SomeReads reads old new = (at : At) → (new at ≡ old at) ⊎ (new at ≡ with_reads reads old at)

-- what the reading at each of some places finds
pub record FindEach (ops : Ops) (reads : List At) (found : List (Option At)) : Type 0 where
  pub many : length found ≡ length reads
  pub each : (i : ℕ) (d : At) → i < length reads → IsSource ops (slice_index_or reads i d) (slice_index_or found i None)
