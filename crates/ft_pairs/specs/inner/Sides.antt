-- The operations of a key as they are kept: the places of its saves and those of its reads, each in order; a read hides a save at its place.
use Rattle.std.specs.Prelude.{◌≡◌, Bool, true, false, List, [], ◌∷◌, ◌++◌, Option, Some, None, is_some}
use Rattle.std.specs.Ordering.{is_lt}
use Rattle.std.specs.declared.cmp.Ordering.TheVariants.{Less}
use Rattle.std.specs.FinMap as map
use Rattle.std.specs.FinMap.{find}
use Rattle.ft_pairs.specs.declared.at.At.{At}
use Rattle.ft_pairs.specs.declared.at.Op.{Op}
use Rattle.ft_pairs.specs.declared.at.Op.TheVariants.{Save, Read}
use Rattle.ft_pairs.specs.Order.{at_cmp}
use Rattle.ft_pairs.specs.ByKey.{KeyOps}
use Rattle.ft_pairs.specs.Next.{IsBehind}

-- whether a place is after another, if there is another
abbrev pub is_after : Option At → At → Bool
is_after None at = true
is_after (Some before) at = is_lt (at_cmp before at)

-- places, as blocks have them
abbrev pub Places : Type 0
Places = List (At × Unit {0})

module _ {U : Type 0} where
  -- an operation at each of some places
  abbrev pub as_ops : Op → List (At × U) → List (At × Op)
  as_ops op [] = []
  as_ops op (e ∷ es) = (e.0, op) ∷ as_ops op es

  -- the operations of saves and reads
  abbrev pub both : List (At × U) → List (At × U) → KeyOps
  both saves reads = map.from_entries (as_ops Read reads ++ as_ops Save saves)

  -- whether a place is among some
  abbrev pub is_place : List (At × U) → At → Bool
  is_place es q = is_some (find at_cmp q es)

  -- this place is the last of some before another
  pub record IsLast (es : List (At × U)) (at last : At) : Type 0 where
    pub there : is_place es last ≡ true
    pub before : at_cmp last at ≡ Less
    pub none : (q : At) → at_cmp last q ≡ Less → at_cmp q at ≡ Less → is_place es q ≡ false

  -- the last of some places before another, if there is one
  abbrev pub IsLastOf : List (At × U) → At → Option At → Type 0
  IsLastOf es at (Some last) = IsLast es at last
  IsLastOf es at None = (q : At) → at_cmp q at ≡ Less → is_place es q ≡ false

  -- this place is the first of some after another, if another is given
  pub record IsFirst (es : List (At × U)) (after : Option At) (first : At) : Type 0 where
    pub there : is_place es first ≡ true
    pub behind : IsBehind after first
    pub none : (q : At) → IsBehind after q → at_cmp q first ≡ Less → is_place es q ≡ false

  -- the first of some places after another, if there is one
  abbrev pub IsFirstOf : List (At × U) → Option At → Option At → Type 0
  IsFirstOf es after (Some first) = IsFirst es after first
  IsFirstOf es after None = (q : At) → IsBehind after q → is_place es q ≡ false
