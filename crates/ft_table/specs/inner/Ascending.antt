-- Lists in order, and ranks in them.
use Rattle.std.specs.Prelude.{◌≡◌, ℕ, ◌<◌, ◌≤◌, List, length, slice_index_or}
use Rattle.std.specs.declared.cmp.Ordering.{Ordering}
use Rattle.std.specs.declared.cmp.Ordering.TheVariants.{Less}

-- each item is below those after it
abbrev pub Rises : {K : Type 0} → (K → K → Ordering) → List K → Type 0
Rises {K} R ks = (i j : ℕ) (d : K) → i < j → j < length ks → R (slice_index_or ks i d) (slice_index_or ks j d) ≡ Less

-- the items before i are below k, and those from i on are not
pub record IsRank {K : Type 0} (R : K → K → Ordering) (ks : List K) (k : K) (i : ℕ) : Type 0 where
  pub within : i ≤ length ks
  pub below : (j : ℕ) (d : K) → j < i → R (slice_index_or ks j d) k ≡ Less
  pub above : (j : ℕ) (d : K) → i ≤ j → j < length ks → R (slice_index_or ks j d) k ≡ Less → ⊥
