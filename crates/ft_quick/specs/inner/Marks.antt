-- Marks of a line's first 64 bytes: bit k is for byte k.
use Rattle.std.specs.Prelude.{◌≡◌, ◌<◌, ◌≤◌, ℕ, Bool, if◌then◌else◌, ◌+◌, min, List, length, slice_index}
use Rattle.std.specs.Int.{bit_at}

-- the line's first 64 bytes, with zeros after them if it has fewer
pub record IsFirst (line bytes : List ℕ) : Type 0 where
  pub long : length bytes ≡ 64
  pub each : (k : ℕ) → k < 64 → slice_index bytes k ≡ slice_index line k

-- a place is marked if and only if it passes
abbrev pub IsMarks : (ℕ → Bool) → ℕ → Type 0
IsMarks p marks = (k : ℕ) → k < 64 → bit_at marks k ≡ if p k then 1 else 0

-- the first marked place from here on
pub record IsNextMark (marks from at : ℕ) : Type 0 where
  pub low : from ≤ at
  pub within : at < 64
  pub here : bit_at marks at ≡ 1
  pub before : (k : ℕ) → from ≤ k → k < at → bit_at marks k ≡ 0

-- the first place from here on that is not marked
pub record IsNextOther (marks from at : ℕ) : Type 0 where
  pub low : from ≤ at
  pub within : at < 64
  pub here : bit_at marks at ≡ 0
  pub before : (k : ℕ) → from ≤ k → k < at → bit_at marks k ≡ 1

-- the first place from here on that is marked as a first one, with the one after it as a second
pub record IsNextPair (firsts seconds from at : ℕ) : Type 0 where
  pub low : from ≤ at
  pub within : at < 63
  pub first : bit_at firsts at ≡ 1
  pub second : bit_at seconds (at + 1) ≡ 1
  pub before : (k : ℕ) → from ≤ k → k < at → min (bit_at firsts k) (bit_at seconds (k + 1)) ≡ 0
