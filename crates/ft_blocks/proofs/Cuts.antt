-- Where a search in sorted entries ends.
use Rattle.std.proofs.Common.{◌≡◌, ℕ, zero, suc, ◌<◌, ◌≤◌, List, [], ◌∷◌, length, get_or, take, drop, refl, sym, ap, subst, ◌∙◌, arith, true, false}
use Rattle.std.specs.Prelude.{◌≢◌}
use Rattle.std.specs.declared.cmp.Ordering.{Ordering}
use Rattle.std.specs.declared.cmp.Ordering.TheVariants.{Less, Equal, Greater}
use Rattle.std.specs.Ordering.{is_lt, eq_by_cmp, ordering_reverse}
use Rattle.std.specs.Cmp.{IsTotalOrder}
use Rattle.std.proofs.lemmas.Bool.{false≢true}
use Rattle.ft_blocks.specs.Sorted.{AllAbove, AllBelow, Ascend, StartsAt, ties_first}

pub is_less : (o : Ordering) → is_lt o ≡ true → o ≡ Less
is_less Less h = refl
is_less Equal h = absurd (false≢true h)
is_less Greater h = absurd (false≢true h)

pub not_less : (o : Ordering) → is_lt o ≡ false → o ≢ Less
not_less Less h e = absurd (false≢true (sym h))
not_less Equal h e = false≢true (ap is_lt e)
not_less Greater h e = false≢true (ap is_lt e)

module _ {K X : Type 0} (R : K → K → Ordering) where
  above_at : (k : K) (es : List (K × X)) (i : ℕ) (e : K × X) → AllAbove R k es → i < length es → get_or es i e ≡ e → R k e.0 ≡ Less
  above_at k [] i e all lt is = absurd (omega arith)
  above_at k (x ∷ es) zero e all lt is = subst (λ (y : K × X). R k y.0 ≡ Less) is all.0
  above_at k (x ∷ es) (suc i) e all lt is = above_at k es i e all.1 (omega arith) is

  -- the others begin at one that isn't below
  pub starts_here : (es : List (K × X)) (k : K) (i : ℕ) (e : K × X) → i < length es → get_or es i e ≡ e → R e.0 k ≢ Less → StartsAt R k (drop i es)
  starts_here [] k i e lt is n = absurd (omega arith)
  starts_here (x ∷ es) k zero e lt is n = subst (λ (y : K × X). R y.0 k ≢ Less) (sym is) n
  starts_here (x ∷ es) k (suc i) e lt is n = starts_here es k i e (omega arith) is n

  -- behind the last there are no others
  pub starts_behind : (es : List (K × X)) (k : K) → StartsAt R k (drop (length es) es)
  starts_behind [] k = tt
  starts_behind (x ∷ es) k = starts_behind es k

  ties_at : (es : List (K × X)) (k : K) (i : ℕ) (e : K × X) → i < length es → get_or es i e ≡ e → ties_first R k (drop i es) ≡ eq_by_cmp R k e.0
  ties_at [] k i e lt is = absurd (omega arith)
  ties_at (x ∷ es) k zero e lt is = ap (λ (y : K × X). eq_by_cmp R k y.0) is
  ties_at (x ∷ es) k (suc i) e lt is = ties_at es k i e (omega arith) is

  ties_behind : (es : List (K × X)) (k : K) (i : ℕ) → length es ≤ i → ties_first R k (drop i es) ≡ false
  ties_behind [] k zero le = refl
  ties_behind [] k (suc i) le = refl
  ties_behind (x ∷ es) k zero le = absurd (omega arith)
  ties_behind (x ∷ es) k (suc i) le = ties_behind es k i (omega arith)

module _ {K X : Type 0} {R : K → K → Ordering} (total : IsTotalOrder R) where
  -- all up to one that is below are below
  pub below_through : (es : List (K × X)) (k : K) (i : ℕ) (e : K × X) → Ascend R es → i < length es → get_or es i e ≡ e → R e.0 k ≡ Less → AllBelow R k (take (suc i) es)
  below_through [] k i e up lt is less = absurd (omega arith)
  below_through (x ∷ es) k zero e up lt is less = (subst (λ (y : K × X). R y.0 k ≡ Less) (sym is) less, tt)
  below_through (x ∷ es) k (suc i) e up lt is less =
      (total.trans x.0 e.0 k (above_at R x.0 es i e up.0 (omega arith) is) less, below_through es k i e up.1 (omega arith) is less)

module _ {K : Type 0} {R : K → K → Ordering} (total : IsTotalOrder R) where
  -- a search for a key passes one that is below it
  pub key_after : (x k : K) → R x k ≡ Less → R k x ≡ Greater
  key_after x k less = total.antisymm k x ∙ ap ordering_reverse less

  pub key_not_after : (x k : K) → R x k ≢ Less → R k x ≢ Greater
  key_not_after x k n is = n (total.antisymm x k ∙ ap ordering_reverse is)
