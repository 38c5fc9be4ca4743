-- What stands around an entry of some blocks.
use Rattle.std.specs.Prelude.{ℕ, zero, suc, ◌<◌, List, [], ◌∷◌, ◌++◌, length, take}
use Rattle.std.specs.List.{remove}
use Rattle.std.specs.declared.vec.Vec.{Vec}
use Rattle.std.specs.declared.alloc.Global.{Global}
use Rattle.ft_blocks.specs.Blocks.{joined}

module _ {X : Type 0} where
  -- an entry stands at a place of a block, or of the last one
  abbrev pub StandsAt : List (Vec X Global) → List X → ℕ → ℕ → Type 0
  StandsAt [] last zero p = p < length last
  StandsAt [] last (suc i) p = ⊥
  StandsAt (b ∷ bs) last zero p = p < length b.items
  StandsAt (b ∷ bs) last (suc i) p = StandsAt bs last i p

  -- all entries but the one that stands there
  abbrev pub all_but : List (Vec X Global) → List X → ℕ → ℕ → List X
  all_but [] last zero p = remove last p
  all_but [] last (suc i) p = last
  all_but (b ∷ bs) last zero p = remove b.items p ++ (joined bs ++ last)
  all_but (b ∷ bs) last (suc i) p = b.items ++ all_but bs last i p

  -- the entries before it
  abbrev pub all_before : List (Vec X Global) → List X → ℕ → ℕ → List X
  all_before [] last zero p = take p last
  all_before [] last (suc i) p = []
  all_before (b ∷ bs) last zero p = take p b.items
  all_before (b ∷ bs) last (suc i) p = b.items ++ all_before bs last i p

  -- the entries behind its block
  abbrev pub all_behind : List (Vec X Global) → List X → ℕ → List X
  all_behind [] last i = []
  all_behind (b ∷ bs) last zero = joined bs ++ last
  all_behind (b ∷ bs) last (suc i) = all_behind bs last i
