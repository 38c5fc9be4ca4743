-- The first entry above a key.
use Rattle.std.proofs.Common.{◌≡◌, ℕ, zero, suc, ◌<◌, ◌≤◌, List, [], ◌∷◌, ◌++◌, length, get_or, take, drop, refl, sym, ap, subst, ◌∙◌, arith, Bool, true, false, Some, None, Option}
use Rattle.std.specs.Prelude.{if◌then◌else◌}
use Rattle.std.specs.declared.vec.Vec.{Vec}
use Rattle.std.specs.declared.alloc.Global.{Global}
use Rattle.std.specs.declared.cmp.Ordering.{Ordering}
use Rattle.std.specs.declared.cmp.Ordering.TheVariants.{Less, Equal}
use Rattle.std.specs.Ordering.{is_lt}
use Rattle.std.specs.Cmp.{IsTotalOrder}
use Rattle.std.proofs.lemmas.Bool.{false≢true}
use Rattle.std.proofs.lemmas.List.{append_assoc}
use Rattle.ft_blocks.specs.Sorted.{AllAbove, AllBelow, Ascend, StartsAt, IsCut, ties_first, later_of, first_entry, first_above}
use Rattle.ft_blocks.specs.Blocks.{joined, AreFilled, StartsReaching}
use Rattle.ft_blocks.proofs.Cuts.{key_after, key_not_after}
use Rattle.ft_blocks.proofs.Appends.{below_first, below_second, ascend_second}
use Rattle.ft_blocks.proofs.Taken.{above_rest, above_tied, tied, lesser}

module _ {A : Type 0} where
  pub entry_is : (es : List A) (i : ℕ) (e : A) → i < length es → get_or es i e ≡ e → Some e ≡ first_entry (drop i es)
  entry_is [] i e lt is = absurd (omega arith)
  entry_is (x ∷ es) zero e lt is = ap Some (sym is)
  entry_is (x ∷ es) (suc i) e lt is = entry_is es i e (omega arith) is

  pub no_entry : (es : List A) (i : ℕ) → length es ≤ i → None ≡ first_entry (drop i es)
  no_entry [] zero le = refl
  no_entry [] (suc i) le = refl
  no_entry (x ∷ es) zero le = absurd (omega arith)
  no_entry (x ∷ es) (suc i) le = no_entry es i (omega arith)

  first_of_some : (es rest : List A) → 0 < length es → first_entry es ≡ first_entry (es ++ rest)
  first_of_some [] rest some = absurd (omega arith)
  first_of_some (x ∷ es) rest some = refl

  -- the first of blocks is that of the first block
  pub first_here : (bs : List (Vec A Global)) (i : ℕ) (b : Vec A Global) (rest : List A) → AreFilled bs → i < length bs → get_or bs i b ≡ b → first_entry b.items ≡ first_entry (joined (drop i bs) ++ rest)
  first_here [] i b rest f lt is = absurd (omega arith)
  first_here (x ∷ bs) zero b rest f lt is =
      ap (λ (y : Vec A Global). first_entry y.items) (sym is) ∙ first_of_some x.items (joined bs ++ rest) f.0
      ∙ ap first_entry (sym (append_assoc x.items (joined bs) rest))
  first_here (x ∷ bs) (suc i) b rest f lt is = first_here bs i b rest f.1 (omega arith) is

  pub none_here : (bs : List (Vec A Global)) (i : ℕ) (rest : List A) → length bs ≤ i → first_entry rest ≡ first_entry (joined (drop i bs) ++ rest)
  none_here [] zero rest le = refl
  none_here [] (suc i) rest le = refl
  none_here (x ∷ bs) zero rest le = absurd (omega arith)
  none_here (x ∷ bs) (suc i) rest le = none_here bs i rest (omega arith)

module _ {K X : Type 0} (R : K → K → Ordering) where
  by_test : (b : Bool) (x : K × X) (p q : Option (K × X)) → (if b then Some x else later_of p q) ≡ later_of (if b then Some x else p) q
  by_test true x p q = refl
  by_test false x p q = refl

  pub first_above-append : (k : K) (xs ys : List (K × X)) → first_above R k (xs ++ ys) ≡ later_of (first_above R k xs) (first_above R k ys)
  first_above-append k [] ys = refl
  first_above-append k (x ∷ xs) ys =
      ap (λ o. if is_lt (R k x.0) then Some x else o) (first_above-append k xs ys) ∙ by_test (is_lt (R k x.0)) x (first_above R k xs) (first_above R k ys)

  pub above_first_entry : (k : K) (es : List (K × X)) → AllAbove R k es → first_above R k es ≡ first_entry es
  above_first_entry k [] a = refl
  above_first_entry k (x ∷ es) a = ap (λ o. if is_lt o then Some x else first_above R k es) a.0

module _ {K X : Type 0} {R : K → K → Ordering} (total : IsTotalOrder R) where
  pub below_no_above : (k : K) (es : List (K × X)) → AllBelow R k es → first_above R k es ≡ None
  below_no_above k [] a = refl
  below_no_above k (x ∷ es) a = ap (λ o. if is_lt o then Some x else first_above R k es) (key_after total x.0 k a.0) ∙ below_no_above k es a.1

  pass : (k : K) (x : K × X) (es : List (K × X)) → R x.0 k ≡ Less → first_above R k (x ∷ es) ≡ first_above R k es
  pass k x es less = ap (λ o. if is_lt o then Some x else first_above R k es) (key_after total x.0 k less)

  after_tied : (es : List (K × X)) (k : K) (i : ℕ) → Ascend R es → AllBelow R k (take i es) → ties_first R k (drop i es) ≡ true → first_above R k es ≡ first_entry (drop (suc i) es)
  after_tied [] k zero up below at = absurd (false≢true at)
  after_tied [] k (suc i) up below at = absurd (false≢true at)
  after_tied (x ∷ es) k zero up below at =
      let equal : R k x.0 ≡ Equal = tied _ at in
      ap (λ o. if is_lt o then Some x else first_above R k es) equal ∙ above_first_entry R k es (above_tied total k x.0 es equal up.0)
  after_tied (x ∷ es) k (suc i) up below at = pass k x es below.0 ∙ after_tied es k i up.1 below.1 at

  pub after_tie : (es : List (K × X)) (k : K) (i : ℕ) → IsCut R es k i → Ascend R es → ties_first R k (drop i es) ≡ true → first_entry (drop (suc i) es) ≡ first_above R k es
  after_tie es k i cut up at = sym (after_tied es k i up cut.below at)

  after_gapped : (es : List (K × X)) (k : K) (i : ℕ) → i ≤ length es → AllBelow R k (take i es) → StartsAt R k (drop i es) → ties_first R k (drop i es) ≡ false → first_above R k es ≡ first_entry (drop i es)
  after_gapped [] k zero le below at none = refl
  after_gapped [] k (suc i) le below at none = absurd (omega arith)
  after_gapped (x ∷ es) k zero le below at none =
      let less : R k x.0 ≡ Less = lesser _ (key_not_after total x.0 k at) none in
      ap (λ o. if is_lt o then Some x else first_above R k es) less
  after_gapped (x ∷ es) k (suc i) le below at none = pass k x es below.0 ∙ after_gapped es k i (omega arith) below.1 at none

  pub after_gap : (es : List (K × X)) (k : K) (i : ℕ) → IsCut R es k i → ties_first R k (drop i es) ≡ false → first_entry (drop i es) ≡ first_above R k es
  after_gap es k i cut none = sym (after_gapped es k i cut.within cut.below cut.others none)

  -- among blocks it is in the one for the key, or the first behind that
  pub after_block : (bs : List (Vec (K × X) Global)) (k : K) (i : ℕ) (b : Vec (K × X) Global) (rest : List (K × X)) → i < length bs → get_or bs i b ≡ b
      → AllBelow R k (joined (take i bs)) → StartsReaching R k (drop i bs) → Ascend R (joined bs ++ rest)
      → later_of (first_above R k b.items) (first_entry (joined (drop (suc i) bs) ++ rest)) ≡ first_above R k (joined bs ++ rest)
  after_block [] k i b rest lt is below at up = absurd (omega arith)
  after_block (x ∷ bs) k zero b rest lt is below at up =
      let whole = subst (Ascend R) (append_assoc x.items (joined bs) rest) up in
      ap (λ (y : Vec (K × X) Global). later_of (first_above R k y.items) (first_entry (joined bs ++ rest))) (sym is)
      ∙ ap (later_of (first_above R k x.items)) (sym (above_first_entry R k (joined bs ++ rest) (above_rest total k x.items (joined bs ++ rest) whole at)))
      ∙ sym (first_above-append R k x.items (joined bs ++ rest))
      ∙ ap (first_above R k) (sym (append_assoc x.items (joined bs) rest))
  after_block (x ∷ bs) k (suc i) b rest lt is below at up =
      let whole = subst (Ascend R) (append_assoc x.items (joined bs) rest) up in
      after_block bs k i b rest (omega arith) is (below_second R k x.items (joined (take i bs)) below) at (ascend_second R x.items (joined bs ++ rest) whole)
      ∙ ap (λ o. later_of o (first_above R k (joined bs ++ rest))) (sym (below_no_above k x.items (below_first R k x.items (joined (take i bs)) below)))
      ∙ sym (first_above-append R k x.items (joined bs ++ rest))
      ∙ ap (first_above R k) (sym (append_assoc x.items (joined bs) rest))

  pub after_rest : (bs : List (Vec (K × X) Global)) (k : K) (rest : List (K × X)) → AllBelow R k (joined bs) → first_above R k rest ≡ first_above R k (joined bs ++ rest)
  after_rest bs k rest below = sym (first_above-append R k (joined bs) rest ∙ ap (λ o. later_of o (first_above R k rest)) (below_no_above k (joined bs) below))
