-- Edits keep the order of the keys.
use Rattle.std.proofs.Common.{◌≡◌, ℕ, ◌≤◌, cond, List, [], ◌∷◌, length, refl, subst, true, false}
use Rattle.std.specs.Prelude.{not}
use Rattle.std.specs.declared.vec.Vec.{Vec}
use Rattle.std.specs.declared.alloc.Global.{Global}
use Rattle.std.specs.declared.cmp.Ordering.{Ordering}
use Rattle.std.specs.declared.cmp.Ordering.TheVariants.{Less, Equal, Greater}
use Rattle.std.specs.Ordering.{eq_by_cmp}
use Rattle.std.specs.Cmp.{IsTotalOrder}
use Rattle.std.specs.FinMap.{put}
use Rattle.std.specs.FinMap.Entries.{by_order}
use Rattle.std.proofs.lemmas.List.{take_all}
use Rattle.ft_blocks.specs.Sorted.{AllAbove, AllBelow, Ascend, without}
use Rattle.ft_blocks.specs.Blocks.{joined, IsBlockOf}
use Rattle.ft_blocks.proofs.Taken.{above_from}
use Rattle.ft_blocks.proofs.Edited.{below_again}

module _ {K X : Type 0} (R : K → K → Ordering) where
  -- if a key has no block, all in the blocks are below it
  pub below_blocks : (bs : List (Vec (K × X) Global)) (k : K) (i : ℕ) → IsBlockOf R bs k i → length bs ≤ i → AllBelow R k (joined bs)
  below_blocks bs k i at le = subst (λ cs. AllBelow R k (joined cs)) (take_all i bs le) at.below

  above_put : (x k : K) (v : X) (es : List (K × X)) → R x k ≡ Less → AllAbove R x es → AllAbove R x (put R k v es)
  above_put x k v [] less a = (less, tt)
  above_put x k v (e ∷ es) less a =
      elim (R k e.0) as (λ o. AllAbove R x (by_order o ((k, v) ∷ e ∷ es) ((e.0, v) ∷ es) (e ∷ put R k v es))) [
        | Less ↦ (less, a)
        | Equal ↦ a
        | Greater ↦ (a.0, above_put x k v es less a.1)
      ]

  above_without : (x k : K) (es : List (K × X)) → AllAbove R x es → AllAbove R x (without R k es)
  above_without x k [] a = tt
  above_without x k (e ∷ es) a = elim (eq_by_cmp R k e.0) as (λ b. AllAbove R x (cond (not b) (e ∷ without R k es) (without R k es))) [
    | true ↦ above_without x k es a.1
    | false ↦ (a.0, above_without x k es a.1)
  ]

  pub ascend_without : (k : K) (es : List (K × X)) → Ascend R es → Ascend R (without R k es)
  ascend_without k [] up = tt
  ascend_without k (e ∷ es) up = elim (eq_by_cmp R k e.0) as (λ b. Ascend R (cond (not b) (e ∷ without R k es) (without R k es))) [
    | true ↦ ascend_without k es up.1
    | false ↦ (above_without e.0 k es up.0, ascend_without k es up.1)
  ]

module _ {K X : Type 0} {R : K → K → Ordering} (total : IsTotalOrder R) where
  pub ascend_put : (k : K) (v : X) (es : List (K × X)) → Ascend R es → Ascend R (put R k v es)
  ascend_put k v [] up = (tt, tt)
  ascend_put k v (e ∷ es) up =
      elim (R k e.0) as (λ o. R k e.0 ≡ o → Ascend R (by_order o ((k, v) ∷ e ∷ es) ((e.0, v) ∷ es) (e ∷ put R k v es))) [
        | Less ↦ λ is. ((is, above_from total k e.0 es is up.0), up)
        | Equal ↦ λ is. up
        | Greater ↦ λ is. (above_put R e.0 k v es (below_again total e.0 k is) up.0, ascend_put k v es up.1)
      ] refl
