-- Reads that are put, and what they find.
use Rattle.std.specs.Prelude.{ℕ, ◌<◌, ◌≤◌, List, length, Option, None, slice_index_or}
use Rattle.std.specs.FinMap as map
use Rattle.ft_pairs.specs.declared.at.At.{At}
use Rattle.ft_pairs.specs.declared.at.Op.TheVariants.{Read}
use Rattle.ft_pairs.specs.Source.{Ops, IsSource}
use Rattle.ft_pairs.specs.ByKey.{KeyOps}

-- the operations of a key with a read at a place
abbrev pub with_read : KeyOps → At → KeyOps
with_read ops at = map.insert ops at Read

-- what the reading at each of the first of some places finds
pub record FindFirst (ops : Ops) (reads : List At) (found : List (Option At)) : Type 0 where
  pub few : length found ≤ length reads
  pub each : (i : ℕ) (d : At) → i < length found → IsSource ops (slice_index_or reads i d) (slice_index_or found i None)
