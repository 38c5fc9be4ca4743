-- What a key has is taken out.
use Rattle.std.proofs.Common.{◌≡◌, ℕ, zero, suc, ◌<◌, ◌≤◌, cond, List, [], ◌∷◌, ◌++◌, length, get_or, take, drop, refl, sym, ap, subst, ◌∙◌, arith, true, false, Some, None}
use Rattle.std.specs.Prelude.{◌≢◌, slice_set, not}
use Rattle.std.specs.List.{remove}
use Rattle.std.specs.declared.vec.Vec.{Vec}
use Rattle.std.specs.declared.alloc.Global.{Global}
use Rattle.std.specs.declared.cmp.Ordering.{Ordering}
use Rattle.std.specs.declared.cmp.Ordering.TheVariants.{Less, Equal, Greater}
use Rattle.std.specs.Ordering.{is_eq, eq_by_cmp}
use Rattle.std.specs.Cmp.{IsTotalOrder}
use Rattle.std.specs.FinMap.{find}
use Rattle.std.proofs.lemmas.Bool.{false≢true}
use Rattle.std.proofs.lemmas.List.{append_assoc}
use Rattle.std.proofs.lemmas.List.Elements.{filter-append}
use Rattle.ft_blocks.specs.Sorted.{AllAbove, AllBelow, Ascend, StartsAt, Reaches, IsCut, ties_first, without}
use Rattle.ft_blocks.specs.Blocks.{joined, StartsReaching}
use Rattle.ft_blocks.proofs.Cuts.{key_after, key_not_after}
use Rattle.ft_blocks.proofs.Appends.{below_first, below_second, above_second, ascend_second}
use Rattle.ft_blocks.proofs.Edited.{below_again}

pub tied : (o : Ordering) → is_eq o ≡ true → o ≡ Equal
tied Less e = absurd (false≢true e)
tied Equal e = refl
tied Greater e = absurd (false≢true e)

pub lesser : (o : Ordering) → o ≢ Greater → is_eq o ≡ false → o ≡ Less
lesser Less n e = refl
lesser Equal n e = absurd (false≢true (sym e))
lesser Greater n e = absurd (n refl)

module _ {K X : Type 0} (R : K → K → Ordering) where
  keep : (k : K) (x : K × X) (es : List (K × X)) → eq_by_cmp R k x.0 ≡ false → without R k es ≡ es → without R k (x ∷ es) ≡ x ∷ es
  keep k x es e same = ap (λ b. cond (not b) (x ∷ without R k es) (without R k es)) e ∙ ap (λ (l : List (K × X)). x ∷ l) same

  pub without_above : (k : K) (es : List (K × X)) → AllAbove R k es → without R k es ≡ es
  without_above k [] a = refl
  without_above k (x ∷ es) a = keep k x es (ap is_eq a.0) (without_above k es a.1)

  pub find_above : (k : K) (es : List (K × X)) → AllAbove R k es → find R k es ≡ None
  find_above k [] a = refl
  find_above k (x ∷ es) a = ap (λ o. cond (is_eq o) (Some x.1) (find R k es)) a.0 ∙ find_above k es a.1

module _ {K X : Type 0} {R : K → K → Ordering} (total : IsTotalOrder R) where
  pub without_below : (k : K) (es : List (K × X)) → AllBelow R k es → without R k es ≡ es
  without_below k [] a = refl
  without_below k (x ∷ es) a = keep R k x es (ap is_eq (key_after total x.0 k a.0)) (without_below k es a.1)

  pub find_behind : (k : K) (xs ys : List (K × X)) → AllBelow R k xs → find R k (xs ++ ys) ≡ find R k ys
  find_behind k [] ys a = refl
  find_behind k (x ∷ xs) ys a = ap (λ o. cond (is_eq o) (Some x.1) (find R k (xs ++ ys))) (key_after total x.0 k a.0) ∙ find_behind k xs ys a.1

  pub above_from : (k x : K) (es : List (K × X)) → R k x ≡ Less → AllAbove R x es → AllAbove R k es
  above_from k x [] less a = tt
  above_from k x (e ∷ es) less a = (total.trans k x e.0 less a.0, above_from k x es less a.1)

  pub above_tied : (k x : K) (es : List (K × X)) → R k x ≡ Equal → AllAbove R x es → AllAbove R k es
  above_tied k x [] e a = tt
  above_tied k x (y ∷ es) e a = (total.congr k x y.0 e ∙ a.0, above_tied k x es e a.1)

  -- behind one that isn't below a key all are above it
  pub above_rest : (k : K) (xs ys : List (K × X)) → Ascend R (xs ++ ys) → Reaches R k xs → AllAbove R k ys
  above_rest k [] ys up r = absurd r
  above_rest k (x ∷ xs) ys up r =
      elim (R k x.0) as (λ o. R k x.0 ≡ o → AllAbove R k ys) [
        | Less ↦ λ is. above_from k x.0 ys is (above_second R x.0 xs ys up.0)
        | Equal ↦ λ is. above_tied k x.0 ys is (above_second R x.0 xs ys up.0)
        | Greater ↦ λ is. above_rest k xs ys up.1 (r (below_again total x.0 k is))
      ] refl

  none : (es : List (K × X)) (k : K) (i : ℕ) → i ≤ length es → Ascend R es → AllBelow R k (take i es) → StartsAt R k (drop i es) → ties_first R k (drop i es) ≡ false → without R k es ≡ es
  none [] k i le up below at not_tied = refl
  none (x ∷ es) k zero le up below at not_tied =
      let less : R k x.0 ≡ Less = lesser _ (key_not_after total x.0 k at) not_tied in
      keep R k x es not_tied (without_above R k es (above_from k x.0 es less up.0))
  none (x ∷ es) k (suc i) le up below at not_tied = keep R k x es (ap is_eq (key_after total x.0 k below.0)) (none es k i (omega arith) up.1 below.1 at not_tied)

  pub take_none : (es : List (K × X)) (k : K) (i : ℕ) → IsCut R es k i → Ascend R es → ties_first R k (drop i es) ≡ false → es ≡ without R k es
  take_none es k i cut up not_tied = sym (none es k i cut.within up cut.below cut.others not_tied)

  unfound : (es : List (K × X)) (k : K) (i : ℕ) → i ≤ length es → Ascend R es → AllBelow R k (take i es) → StartsAt R k (drop i es) → ties_first R k (drop i es) ≡ false → find R k es ≡ None
  unfound [] k i le up below at not_tied = refl
  unfound (x ∷ es) k zero le up below at not_tied =
      let less : R k x.0 ≡ Less = lesser _ (key_not_after total x.0 k at) not_tied in
      find_above R k (x ∷ es) (less, above_from k x.0 es less up.0)
  unfound (x ∷ es) k (suc i) le up below at not_tied =
      ap (λ o. cond (is_eq o) (Some x.1) (find R k es)) (key_after total x.0 k below.0) ∙ unfound es k i (omega arith) up.1 below.1 at not_tied

  pub find_none : (es : List (K × X)) (k : K) (i : ℕ) → IsCut R es k i → Ascend R es → ties_first R k (drop i es) ≡ false → None ≡ find R k es
  find_none es k i cut up not_tied = sym (unfound es k i cut.within up cut.below cut.others not_tied)

  some : (es : List (K × X)) (k : K) (i : ℕ) → Ascend R es → AllBelow R k (take i es) → ties_first R k (drop i es) ≡ true → remove es i ≡ without R k es
  some [] k zero up below at = absurd (false≢true at)
  some [] k (suc i) up below at = absurd (false≢true at)
  some (x ∷ es) k zero up below at =
      sym (ap (λ b. cond (not b) (x ∷ without R k es) (without R k es)) at ∙ without_above R k es (above_tied k x.0 es (tied _ at) up.0))
  some (x ∷ es) k (suc i) up below at =
      ap (λ (l : List (K × X)). x ∷ l) (some es k i up.1 below.1 at)
      ∙ sym (ap (λ o. cond (not (is_eq o)) (x ∷ without R k es) (without R k es)) (key_after total x.0 k below.0))

  pub take_some : (es : List (K × X)) (k : K) (i : ℕ) → IsCut R es k i → Ascend R es → ties_first R k (drop i es) ≡ true → remove es i ≡ without R k es
  take_some es k i cut up at = some es k i up cut.below at

  found : (es : List (K × X)) (k : K) (i : ℕ) (e : K × X) → get_or es i e ≡ e → AllBelow R k (take i es) → ties_first R k (drop i es) ≡ true → find R k es ≡ Some e.1
  found [] k zero e is below at = absurd (false≢true at)
  found [] k (suc i) e is below at = absurd (false≢true at)
  found (x ∷ es) k zero e is below at = ap (λ b. cond b (Some x.1) (find R k es)) at ∙ ap (λ (y : K × X). Some y.1) is
  found (x ∷ es) k (suc i) e is below at = ap (λ o. cond (is_eq o) (Some x.1) (find R k es)) (key_after total x.0 k below.0) ∙ found es k i e is below.1 at

  pub find_some : (es : List (K × X)) (k : K) (i : ℕ) (e : K × X) → IsCut R es k i → get_or es i e ≡ e → ties_first R k (drop i es) ≡ true → Some e.1 ≡ find R k es
  find_some es k i e cut is at = sym (found es k i e is cut.below at)

  past : (k : K) (xs ys : List (K × X)) → AllAbove R k ys → find R k (xs ++ ys) ≡ find R k xs
  past k [] ys a = find_above R k ys a
  past k (x ∷ xs) ys a = ap (cond (eq_by_cmp R k x.0) (Some x.1)) (past k xs ys a)

  pub find_before : (k : K) (xs ys : List (K × X)) → Reaches R k xs → AllAbove R k ys → find R k (xs ++ ys) ≡ find R k xs
  find_before k xs ys r a = past k xs ys a

  -- the block for a key loses what the key has
  pub take_block : (bs : List (Vec (K × X) Global)) (k : K) (i : ℕ) (b c : Vec (K × X) Global) (rest : List (K × X)) → i < length bs → get_or bs i b ≡ b
      → AllBelow R k (joined (take i bs)) → StartsReaching R k (drop i bs) → Ascend R (joined bs ++ rest) → c.items ≡ without R k b.items
      → joined (slice_set bs i c) ++ rest ≡ without R k (joined bs ++ rest)
  take_block [] k i b c rest lt is below at up new = absurd (omega arith)
  take_block (x ∷ bs) k zero b c rest lt is below at up new =
      let whole = subst (Ascend R) (append_assoc x.items (joined bs) rest) up in
      append_assoc c.items (joined bs) rest
      ∙ ap (λ (l : List (K × X)). l ++ (joined bs ++ rest)) (new ∙ ap (λ (y : Vec (K × X) Global). without R k y.items) (sym is))
      ∙ ap (λ (l : List (K × X)). without R k x.items ++ l) (sym (without_above R k (joined bs ++ rest) (above_rest k x.items (joined bs ++ rest) whole at)))
      ∙ sym (filter-append (λ e. not (eq_by_cmp R k e.0)) x.items (joined bs ++ rest))
      ∙ ap (without R k) (sym (append_assoc x.items (joined bs) rest))
  take_block (x ∷ bs) k (suc i) b c rest lt is below at up new =
      let whole = subst (Ascend R) (append_assoc x.items (joined bs) rest) up in
      append_assoc x.items (joined (slice_set bs i c)) rest
      ∙ ap (λ (l : List (K × X)). x.items ++ l) (take_block bs k i b c rest (omega arith) is (below_second R k x.items (joined (take i bs)) below) at (ascend_second R x.items (joined bs ++ rest) whole) new)
      ∙ ap (λ (l : List (K × X)). l ++ without R k (joined bs ++ rest)) (sym (without_below k x.items (below_first R k x.items (joined (take i bs)) below)))
      ∙ sym (filter-append (λ e. not (eq_by_cmp R k e.0)) x.items (joined bs ++ rest))
      ∙ ap (without R k) (sym (append_assoc x.items (joined bs) rest))

  -- and there it is looked up
  pub find_block : (bs : List (Vec (K × X) Global)) (k : K) (i : ℕ) (b : Vec (K × X) Global) (rest : List (K × X)) → i < length bs → get_or bs i b ≡ b
      → AllBelow R k (joined (take i bs)) → StartsReaching R k (drop i bs) → Ascend R (joined bs ++ rest)
      → find R k b.items ≡ find R k (joined bs ++ rest)
  find_block [] k i b rest lt is below at up = absurd (omega arith)
  find_block (x ∷ bs) k zero b rest lt is below at up =
      let whole = subst (Ascend R) (append_assoc x.items (joined bs) rest) up in
      ap (λ (y : Vec (K × X) Global). find R k y.items) (sym is)
      ∙ sym (find_before k x.items (joined bs ++ rest) at (above_rest k x.items (joined bs ++ rest) whole at))
      ∙ ap (find R k) (sym (append_assoc x.items (joined bs) rest))
  find_block (x ∷ bs) k (suc i) b rest lt is below at up =
      let whole = subst (Ascend R) (append_assoc x.items (joined bs) rest) up in
      find_block bs k i b rest (omega arith) is (below_second R k x.items (joined (take i bs)) below) at (ascend_second R x.items (joined bs ++ rest) whole)
      ∙ sym (find_behind k x.items (joined bs ++ rest) (below_first R k x.items (joined (take i bs)) below))
      ∙ ap (find R k) (sym (append_assoc x.items (joined bs) rest))
