-- A value is put at a key, at the place that a search for the key found.
use Rattle.std.proofs.Common.{◌≡◌, ℕ, zero, suc, ◌≤◌, List, [], ◌∷◌, length, get_or, take, drop, refl, sym, ap, ◌∙◌, arith, true, false}
use Rattle.std.specs.Prelude.{◌≢◌, slice_set}
use Rattle.std.specs.List.{insert}
use Rattle.std.specs.declared.cmp.Ordering.{Ordering}
use Rattle.std.specs.declared.cmp.Ordering.TheVariants.{Less, Equal, Greater}
use Rattle.std.specs.Ordering.{is_eq}
use Rattle.std.specs.Cmp.{IsTotalOrder}
use Rattle.std.specs.FinMap.{put}
use Rattle.std.specs.FinMap.Entries.{by_order}
use Rattle.std.proofs.lemmas.Bool.{false≢true}
use Rattle.ft_blocks.specs.Sorted.{AllBelow, StartsAt, IsCut, ties_first}
use Rattle.ft_blocks.proofs.Cuts.{key_after, key_not_after}

module _ {K X : Type 0} {R : K → K → Ordering} (total : IsTotalOrder R) where
  gap_first : (o : Ordering) (k : K) (v : X) (x : K × X) (es : List (K × X)) → o ≢ Greater → is_eq o ≡ false → (k, v) ∷ x ∷ es ≡ by_order o ((k, v) ∷ x ∷ es) ((x.0, v) ∷ es) (x ∷ put R k v es)
  gap_first Less k v x es n e = refl
  gap_first Equal k v x es n e = absurd (false≢true (sym e))
  gap_first Greater k v x es n e = absurd (n refl)

  gap : (es : List (K × X)) (k : K) (v : X) (i : ℕ) → i ≤ length es → AllBelow R k (take i es) → StartsAt R k (drop i es) → ties_first R k (drop i es) ≡ false → insert es i (k, v) ≡ put R k v es
  gap [] k v zero le below at none = refl
  gap [] k v (suc i) le below at none = absurd (omega arith)
  gap (x ∷ es) k v zero le below at none = gap_first (R k x.0) k v x es (key_not_after total x.0 k at) none
  gap (x ∷ es) k v (suc i) le below at none =
      ap (λ (l : List (K × X)). x ∷ l) (gap es k v i (omega arith) below.1 at none)
      ∙ ap (λ o. by_order o ((k, v) ∷ x ∷ es) ((x.0, v) ∷ es) (x ∷ put R k v es)) (sym (key_after total x.0 k below.0))

  -- if the others don't begin with the key, it goes in there
  pub put_gap : (es : List (K × X)) (k : K) (v : X) (i : ℕ) → IsCut R es k i → ties_first R k (drop i es) ≡ false → insert es i (k, v) ≡ put R k v es
  put_gap es k v i cut none = gap es k v i cut.within cut.below cut.others none

  tie_first : (o : Ordering) (k : K) (v : X) (x : K × X) (es : List (K × X)) → is_eq o ≡ true → (x.0, v) ∷ es ≡ by_order o ((k, v) ∷ x ∷ es) ((x.0, v) ∷ es) (x ∷ put R k v es)
  tie_first Less k v x es e = absurd (false≢true e)
  tie_first Equal k v x es e = refl
  tie_first Greater k v x es e = absurd (false≢true e)

  tie : (es : List (K × X)) (k : K) (v : X) (i : ℕ) (e : K × X) → get_or es i e ≡ e → AllBelow R k (take i es) → ties_first R k (drop i es) ≡ true → slice_set es i (e.0, v) ≡ put R k v es
  tie [] k v zero e is below at = absurd (false≢true at)
  tie [] k v (suc i) e is below at = absurd (false≢true at)
  tie (x ∷ es) k v zero e is below at = ap (λ (y : K × X). (y.0, v) ∷ es) (sym is) ∙ tie_first (R k x.0) k v x es at
  tie (x ∷ es) k v (suc i) e is below at =
      ap (λ (l : List (K × X)). x ∷ l) (tie es k v i e is below.1 at)
      ∙ ap (λ o. by_order o ((k, v) ∷ x ∷ es) ((x.0, v) ∷ es) (x ∷ put R k v es)) (sym (key_after total x.0 k below.0))

  -- if they do, it takes the value
  pub put_tie : (es : List (K × X)) (k : K) (v : X) (i : ℕ) (e : K × X) → IsCut R es k i → get_or es i e ≡ e → ties_first R k (drop i es) ≡ true → slice_set es i (e.0, v) ≡ put R k v es
  put_tie es k v i e cut is at = tie es k v i e is cut.below at
