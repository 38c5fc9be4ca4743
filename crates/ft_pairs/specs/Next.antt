-- The next operation on a variable after a place, and walks from one to the next.
use Rattle.std.specs.Prelude.{◌≡◌, List, [], ◌∷◌, Option, Some, None, ⊤}
use Rattle.std.specs.declared.cmp.Ordering.TheVariants.{Less}
use Rattle.ft_pairs.specs.declared.at.At.{At}
use Rattle.ft_pairs.specs.declared.at.Op.{Op}
use Rattle.ft_pairs.specs.Order.{at_cmp}
use Rattle.ft_pairs.specs.Source.{Ops}

-- a place is after another, if another is given
abbrev pub IsBehind : Option At → At → Type 0
IsBehind None q = ⊤
IsBehind (Some after) q = at_cmp after q ≡ Less

-- no operation stands after a place; none at all, if no place is given
abbrev pub HasNoneBehind : Ops → Option At → Type 0
HasNoneBehind ops after = (q : At) → IsBehind after q → ops q ≡ None

-- this operation is the first one after a place
pub record IsFirstBehind (ops : Ops) (after : Option At) (first : At) (op : Op) : Type 0 where
  pub there : ops first ≡ Some op
  pub behind : IsBehind after first
  pub none : (q : At) → IsBehind after q → at_cmp q first ≡ Less → ops q ≡ None

-- the next operation after a place, if there is one; the first of all, if no place is given
abbrev pub IsNext : Ops → Option At → Option (At × Op) → Type 0
IsNext ops after (Some next) = IsFirstBehind ops after next.0 next.1
IsNext ops after None = HasNoneBehind ops after

-- a walk from a place: each operation is the next one after the one before it, and none stands after the last
abbrev pub IsWalk : Ops → Option At → List (At × Op) → Type 0
IsWalk ops after [] = IsNext ops after None
IsWalk ops after (next ∷ rest) = IsNext ops after (Some next) × IsWalk ops (Some next.0) rest
