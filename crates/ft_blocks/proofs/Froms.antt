-- The entries from a key on.
use Rattle.std.proofs.Common.{◌≡◌, ℕ, zero, suc, ◌<◌, ◌≤◌, cond, List, [], ◌∷◌, ◌++◌, length, get_or, take, drop, refl, sym, ap, subst, ◌∙◌, arith, Bool, true, false}
use Rattle.std.specs.Prelude.{◌≢◌, not}
use Rattle.std.specs.List.{filter}
use Rattle.std.specs.declared.vec.Vec.{Vec}
use Rattle.std.specs.declared.alloc.Global.{Global}
use Rattle.std.specs.declared.cmp.Ordering.{Ordering}
use Rattle.std.specs.declared.cmp.Ordering.TheVariants.{Less, Equal, Greater}
use Rattle.std.specs.Ordering.{is_lt, ordering_reverse}
use Rattle.std.specs.Cmp.{IsTotalOrder}
use Rattle.std.proofs.lemmas.List.{append_assoc, take-append-drop}
use Rattle.std.proofs.lemmas.List.Elements.{filter-append}
use Rattle.ft_blocks.specs.Sorted.{AllAbove, AllBelow, Ascend, StartsAt, IsCut, from_key}
use Rattle.ft_blocks.specs.Blocks.{joined, AreFilled, StartsReaching}
use Rattle.ft_blocks.proofs.Appends.{below_first, below_second, ascend_second}
use Rattle.ft_blocks.proofs.Taken.{above_rest}

not_below : (o : Ordering) → o ≢ Less → not (is_lt o) ≡ true
not_below Less n = absurd (n refl)
not_below Equal n = refl
not_below Greater n = refl

-- the blocks from a place on are filled
pub filled_drop : {E : Type 0} (bs : List (Vec E Global)) (i : ℕ) → AreFilled bs → AreFilled (drop i bs)
filled_drop [] zero f = f
filled_drop [] (suc i) f = f
filled_drop (b ∷ bs) zero f = f
filled_drop (b ∷ bs) (suc i) f = filled_drop bs i f.1

module _ {K X : Type 0} (R : K → K → Ordering) where
  abbrev stays : K → K × X → Bool
  stays k e = not (is_lt (R e.0 k))

  from_below : (k : K) (es : List (K × X)) → AllBelow R k es → from_key R k es ≡ []
  from_below k [] a = refl
  from_below k (e ∷ es) a = ap (λ o. cond (not (is_lt o)) (e ∷ from_key R k es) (from_key R k es)) a.0 ∙ from_below k es a.1

  from_append : (k : K) (xs ys : List (K × X)) → from_key R k (xs ++ ys) ≡ from_key R k xs ++ from_key R k ys
  from_append k xs ys = filter-append (stays k) xs ys

module _ {K X : Type 0} {R : K → K → Ordering} (total : IsTotalOrder R) where
  from_above : (k : K) (es : List (K × X)) → AllAbove R k es → from_key R k es ≡ es
  from_above k [] a = refl
  from_above k (e ∷ es) a =
      let greater : R e.0 k ≡ Greater = total.antisymm e.0 k ∙ ap ordering_reverse a.0 in
      ap (λ o. cond (not (is_lt o)) (e ∷ from_key R k es) (from_key R k es)) greater ∙ ap (λ (es : List (K × X)). e ∷ es) (from_above k es a.1)

  from_behind : (x k : K) (es : List (K × X)) → AllAbove R x es → R x k ≢ Less → from_key R k es ≡ es
  from_behind x k [] a n = refl
  from_behind x k (e ∷ es) a n =
      ap (λ b. cond b (e ∷ from_key R k es) (from_key R k es)) (not_below (R e.0 k) (λ less. n (total.trans x e.0 k a.0 less)))
      ∙ ap (λ (es : List (K × X)). e ∷ es) (from_behind x k es a.1 n)

  from_start : (k : K) (es : List (K × X)) → Ascend R es → StartsAt R k es → from_key R k es ≡ es
  from_start k [] up at = refl
  from_start k (e ∷ es) up at =
      ap (λ b. cond b (e ∷ from_key R k es) (from_key R k es)) (not_below (R e.0 k) at)
      ∙ ap (λ (es : List (K × X)). e ∷ es) (from_behind e.0 k es up.0 at)

  -- in one block they stand behind the cut
  pub from_cut : (es : List (K × X)) (k : K) (i : ℕ) → Ascend R es → IsCut R es k i → from_key R k es ≡ drop i es
  from_cut es k i up cut =
      ap (from_key R k) (sym (take-append-drop i es))
      ∙ from_append R k (take i es) (drop i es)
      ∙ ap (λ xs. xs ++ from_key R k (drop i es)) (from_below R k (take i es) cut.below)
      ∙ from_start k (drop i es) (ascend_second R (take i es) (drop i es) (subst (Ascend R) (sym (take-append-drop i es)) up)) cut.others

  -- among blocks they are in the one for the key, and all that stand behind that
  pub from_block : (bs : List (Vec (K × X) Global)) (k : K) (i : ℕ) (b : Vec (K × X) Global) (rest : List (K × X)) → i < length bs → get_or bs i b ≡ b
      → AllBelow R k (joined (take i bs)) → StartsReaching R k (drop i bs) → Ascend R (joined bs ++ rest)
      → from_key R k b.items ++ (joined (drop (suc i) bs) ++ rest) ≡ from_key R k (joined bs ++ rest)
  from_block [] k i b rest lt is below at up = absurd (omega arith)
  from_block (x ∷ bs) k zero b rest lt is below at up =
      let whole = subst (Ascend R) (append_assoc x.items (joined bs) rest) up in
      ap (λ (y : Vec (K × X) Global). from_key R k y.items ++ (joined bs ++ rest)) (sym is)
      ∙ ap (λ (es : List (K × X)). from_key R k x.items ++ es) (sym (from_above k (joined bs ++ rest) (above_rest total k x.items (joined bs ++ rest) whole at)))
      ∙ sym (from_append R k x.items (joined bs ++ rest))
      ∙ ap (from_key R k) (sym (append_assoc x.items (joined bs) rest))
  from_block (x ∷ bs) k (suc i) b rest lt is below at up =
      let whole = subst (Ascend R) (append_assoc x.items (joined bs) rest) up in
      from_block bs k i b rest (omega arith) is (below_second R k x.items (joined (take i bs)) below) at (ascend_second R x.items (joined bs ++ rest) whole)
      ∙ ap (λ xs. xs ++ from_key R k (joined bs ++ rest)) (sym (from_below R k x.items (below_first R k x.items (joined (take i bs)) below)))
      ∙ sym (from_append R k x.items (joined bs ++ rest))
      ∙ ap (from_key R k) (sym (append_assoc x.items (joined bs) rest))

  -- or in the last one
  pub from_rest : (bs : List (Vec (K × X) Global)) (k : K) (rest : List (K × X)) → AllBelow R k (joined bs) → from_key R k rest ≡ from_key R k (joined bs ++ rest)
  from_rest bs k rest below = sym (from_append R k (joined bs) rest ∙ ap (λ xs. xs ++ from_key R k rest) (from_below R k (joined bs) below))
