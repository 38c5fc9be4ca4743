-- One block of several is edited, the one for the key.
use Rattle.std.proofs.Common.{◌≡◌, ℕ, zero, suc, ◌<◌, List, [], ◌∷◌, ◌++◌, length, get_or, take, drop, refl, sym, ap, ◌∙◌, arith}
use Rattle.std.specs.Prelude.{slice_set}
use Rattle.std.specs.declared.vec.Vec.{Vec}
use Rattle.std.specs.declared.alloc.Global.{Global}
use Rattle.std.specs.declared.cmp.Ordering.{Ordering}
use Rattle.std.specs.declared.cmp.Ordering.TheVariants.{Less, Equal, Greater}
use Rattle.std.specs.Ordering.{ordering_reverse}
use Rattle.std.specs.Cmp.{IsTotalOrder}
use Rattle.std.specs.FinMap.{put}
use Rattle.std.specs.FinMap.Entries.{by_order}
use Rattle.std.proofs.lemmas.List.{append_assoc}
use Rattle.ft_blocks.specs.Sorted.{AllBelow, Reaches}
use Rattle.ft_blocks.specs.Blocks.{joined, AreFilled, StartsReaching}
use Rattle.ft_blocks.proofs.Cuts.{key_after}
use Rattle.ft_blocks.proofs.Appends.{below_first, below_second}

pub below_again : {K : Type 0} {R : K → K → Ordering} → IsTotalOrder R → (x k : K) → R k x ≡ Greater → R x k ≡ Less
below_again total x k is = total.antisymm x k ∙ ap ordering_reverse is

module _ {K X : Type 0} {R : K → K → Ordering} (total : IsTotalOrder R) where
  -- a key is put behind those below it
  pub put_behind : (k : K) (v : X) (xs ys : List (K × X)) → AllBelow R k xs → put R k v (xs ++ ys) ≡ xs ++ put R k v ys
  put_behind k v [] ys all = refl
  put_behind k v (x ∷ xs) ys all =
      ap (λ o. by_order o ((k, v) ∷ x ∷ (xs ++ ys)) ((x.0, v) ∷ (xs ++ ys)) (x ∷ put R k v (xs ++ ys))) (key_after total x.0 k all.0)
      ∙ ap (λ (l : List (K × X)). x ∷ l) (put_behind k v xs ys all.1)

  pub reaching : (k : K) (v : X) (x : K × X) (xs ys : List (K × X)) (o : Ordering) → (o ≡ Greater → put R k v (xs ++ ys) ≡ put R k v xs ++ ys)
      → by_order o ((k, v) ∷ x ∷ (xs ++ ys)) ((x.0, v) ∷ (xs ++ ys)) (x ∷ put R k v (xs ++ ys)) ≡ by_order o ((k, v) ∷ x ∷ xs) ((x.0, v) ∷ xs) (x ∷ put R k v xs) ++ ys
  reaching k v x xs ys Less f = refl
  reaching k v x xs ys Equal f = refl
  reaching k v x xs ys Greater f = ap (λ (l : List (K × X)). x ∷ l) (f refl)

  -- and before the others, if one isn't below it
  pub put_before : (k : K) (v : X) (xs ys : List (K × X)) → Reaches R k xs → put R k v (xs ++ ys) ≡ put R k v xs ++ ys
  put_before k v [] ys r = absurd r
  put_before k v (x ∷ xs) ys r = reaching k v x xs ys (R k x.0) (λ is. put_before k v xs ys (r (below_again total x.0 k is)))

  -- the block for a key takes a value at it
  pub put_block : (bs : List (Vec (K × X) Global)) (k : K) (v : X) (i : ℕ) (b c : Vec (K × X) Global) (rest : List (K × X)) → i < length bs → get_or bs i b ≡ b
      → AllBelow R k (joined (take i bs)) → StartsReaching R k (drop i bs) → c.items ≡ put R k v b.items
      → joined (slice_set bs i c) ++ rest ≡ put R k v (joined bs ++ rest)
  put_block [] k v i b c rest lt is below at new = absurd (omega arith)
  put_block (x ∷ bs) k v zero b c rest lt is below at new =
      append_assoc c.items (joined bs) rest
      ∙ ap (λ (l : List (K × X)). l ++ (joined bs ++ rest)) (new ∙ ap (λ (y : Vec (K × X) Global). put R k v y.items) (sym is))
      ∙ sym (put_before k v x.items (joined bs ++ rest) at)
      ∙ ap (put R k v) (sym (append_assoc x.items (joined bs) rest))
  put_block (x ∷ bs) k v (suc i) b c rest lt is below at new =
      append_assoc x.items (joined (slice_set bs i c)) rest
      ∙ ap (λ (l : List (K × X)). x.items ++ l) (put_block bs k v i b c rest (omega arith) is (below_second R k x.items (joined (take i bs)) below) at new)
      ∙ sym (put_behind k v x.items (joined bs ++ rest) (below_first R k x.items (joined (take i bs)) below))
      ∙ ap (put R k v) (sym (append_assoc x.items (joined bs) rest))

-- a block that is as it was changes nothing
pub same_block : {X : Type 0} (bs : List (Vec X Global)) (i : ℕ) (b c : Vec X Global) → i < length bs → get_or bs i b ≡ b → c.items ≡ b.items → joined (slice_set bs i c) ≡ joined bs
same_block [] i b c lt is same = absurd (omega arith)
same_block {X = X} (x ∷ bs) zero b c lt is same = ap (λ (l : List X). l ++ joined bs) (same ∙ ap (λ (y : Vec X Global). y.items) (sym is))
same_block {X = X} (x ∷ bs) (suc i) b c lt is same = ap (λ (l : List X). x.items ++ l) (same_block bs i b c (omega arith) is same)

-- a block that isn't empty leaves none empty
pub filled_block : {X : Type 0} (bs : List (Vec X Global)) (i : ℕ) (c : Vec X Global) → AreFilled bs → 0 < length c.items → AreFilled (slice_set bs i c)
filled_block [] i c f some = tt
filled_block (x ∷ bs) zero c f some = (some, f.1)
filled_block (x ∷ bs) (suc i) c f some = (f.0, filled_block bs i c f.1 some)

module _ {K X : Type 0} (R : K → K → Ordering) where
  by_case : (k : K) (v : X) (x : K × X) (es more : List (K × X)) (o : Ordering) → 0 < length (by_order o ((k, v) ∷ x ∷ es) ((x.0, v) ∷ es) (x ∷ more))
  by_case k v x es more Less = omega arith
  by_case k v x es more Equal = omega arith
  by_case k v x es more Greater = omega arith

  -- what took a value isn't empty
  pub put_filled : (k : K) (v : X) (es : List (K × X)) → 0 < length (put R k v es)
  put_filled k v [] = omega arith
  put_filled k v (x ∷ es) = by_case k v x es (put R k v es) (R k x.0)
