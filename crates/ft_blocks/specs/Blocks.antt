-- Entries in blocks.
use Rattle.std.specs.Prelude.{ℕ, ◌<◌, ◌≤◌, List, [], ◌∷◌, ◌++◌, length, take, drop}
use Rattle.std.specs.declared.cmp.Ordering.{Ordering}
use Rattle.ft_blocks.specs.Sorted.{AllBelow, Reaches}
use Rattle.std.specs.declared.vec.Vec.{Vec}
use Rattle.std.specs.declared.alloc.Global.{Global}

module _ {X : Type 0} where
  -- what the blocks have, one after the other
  abbrev pub joined : List (Vec X Global) → List X
  joined [] = []
  joined (b ∷ bs) = b.items ++ joined bs

  -- no block is empty
  abbrev pub AreFilled : List (Vec X Global) → Type 0
  AreFilled [] = Unit {0}
  AreFilled (b ∷ bs) = (0 < length b.items) × AreFilled bs

module _ {K X : Type 0} (R : K → K → Ordering) where
  -- the first block, if there is one, has an entry that isn't below a key
  abbrev pub StartsReaching : K → List (Vec (K × X) Global) → Type 0
  StartsReaching k [] = Unit {0}
  StartsReaching k (b ∷ bs) = Reaches R k b.items

  -- in the blocks before a place all are below a key, and the block there is the one for the key
  pub record IsBlockOf (bs : List (Vec (K × X) Global)) (k : K) (i : ℕ) : Type 0 where
    pub within : i ≤ length bs
    pub below : AllBelow R k (joined (take i bs))
    pub reaches : StartsReaching k (drop i bs)
