-- Entries in two parts.
use Rattle.std.proofs.Common.{◌≡◌, ℕ, zero, suc, ◌<◌, List, [], ◌∷◌, ◌++◌, length, get_or, subst, arith}
use Rattle.std.specs.Prelude.{◌≢◌}
use Rattle.std.specs.declared.cmp.Ordering.{Ordering}
use Rattle.std.specs.declared.cmp.Ordering.TheVariants.{Less}
use Rattle.std.specs.Cmp.{IsTotalOrder}
use Rattle.ft_blocks.specs.Sorted.{AllAbove, AllBelow, Ascend, Reaches}

module _ {K X : Type 0} (R : K → K → Ordering) where
  pub below_both : (k : K) (xs ys : List (K × X)) → AllBelow R k xs → AllBelow R k ys → AllBelow R k (xs ++ ys)
  below_both k [] ys a b = b
  below_both k (x ∷ xs) ys a b = (a.0, below_both k xs ys a.1 b)

  pub below_first : (k : K) (xs ys : List (K × X)) → AllBelow R k (xs ++ ys) → AllBelow R k xs
  below_first k [] ys a = tt
  below_first k (x ∷ xs) ys a = (a.0, below_first k xs ys a.1)

  pub below_second : (k : K) (xs ys : List (K × X)) → AllBelow R k (xs ++ ys) → AllBelow R k ys
  below_second k [] ys a = a
  below_second k (x ∷ xs) ys a = below_second k xs ys a.1

  pub above_first : (k : K) (xs ys : List (K × X)) → AllAbove R k (xs ++ ys) → AllAbove R k xs
  above_first k [] ys a = tt
  above_first k (x ∷ xs) ys a = (a.0, above_first k xs ys a.1)

  pub above_second : (k : K) (xs ys : List (K × X)) → AllAbove R k (xs ++ ys) → AllAbove R k ys
  above_second k [] ys a = a
  above_second k (x ∷ xs) ys a = above_second k xs ys a.1

  pub ascend_first : (xs ys : List (K × X)) → Ascend R (xs ++ ys) → Ascend R xs
  ascend_first [] ys up = tt
  ascend_first (x ∷ xs) ys up = (above_first x.0 xs ys up.0, ascend_first xs ys up.1)

  pub ascend_second : (xs ys : List (K × X)) → Ascend R (xs ++ ys) → Ascend R ys
  ascend_second [] ys up = up
  ascend_second (x ∷ xs) ys up = ascend_second xs ys up.1

  -- one that isn't below is reached
  pub reached_at : (k : K) (es : List (K × X)) (i : ℕ) (e : K × X) → i < length es → get_or es i e ≡ e → R e.0 k ≢ Less → Reaches R k es
  reached_at k [] i e lt is n = absurd (omega arith)
  reached_at k (x ∷ es) zero e lt is n = λ less. absurd (n (subst (λ (y : K × X). R y.0 k ≡ Less) is less))
  reached_at k (x ∷ es) (suc i) e lt is n = λ less. reached_at k es i e (omega arith) is n

  head_above : (k : K) (xs : List (K × X)) (f : K × X) (rest : List (K × X)) → AllAbove R k (xs ++ f ∷ rest) → R k f.0 ≡ Less
  head_above k [] f rest a = a.0
  head_above k (x ∷ xs) f rest a = head_above k xs f rest a.1

module _ {K X : Type 0} {R : K → K → Ordering} (total : IsTotalOrder R) where
  -- what stands before one that is below is below
  pub below_before : (k : K) (xs : List (K × X)) (f : K × X) (rest : List (K × X)) → Ascend R (xs ++ f ∷ rest) → R f.0 k ≡ Less → AllBelow R k xs
  below_before k [] f rest up less = tt
  below_before k (x ∷ xs) f rest up less =
      (total.trans x.0 f.0 k (head_above R x.0 xs f rest up.0) less, below_before k xs f rest up.1 less)
