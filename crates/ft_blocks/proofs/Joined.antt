-- Blocks in a row.
use Rattle.std.proofs.Common.{◌≡◌, ℕ, zero, suc, ◌<◌, ◌-◌, List, [], ◌∷◌, ◌++◌, length, get_or, take, drop, sym, subst, arith}
use Rattle.std.specs.declared.vec.Vec.{Vec}
use Rattle.std.specs.declared.alloc.Global.{Global}
use Rattle.std.specs.declared.cmp.Ordering.{Ordering}
use Rattle.std.specs.declared.cmp.Ordering.TheVariants.{Less}
use Rattle.std.specs.Cmp.{IsTotalOrder}
use Rattle.ft_blocks.specs.Sorted.{AllBelow, Ascend, Reaches}
use Rattle.ft_blocks.specs.Blocks.{joined, AreFilled, StartsReaching}
use Rattle.std.proofs.lemmas.List.{take_all}
use Rattle.ft_blocks.proofs.Cuts.{below_through}
use Rattle.ft_blocks.proofs.Appends.{below_both, below_before, ascend_first, ascend_second}

module _ {X : Type 0} where
  pub filled_at : (bs : List (Vec X Global)) (i : ℕ) (b : Vec X Global) → AreFilled bs → i < length bs → get_or bs i b ≡ b → 0 < length b.items
  filled_at [] i b f lt is = absurd (omega arith)
  filled_at (x ∷ bs) zero b f lt is = subst (λ (y : Vec X Global). 0 < length y.items) is f.0
  filled_at (x ∷ bs) (suc i) b f lt is = filled_at bs i b f.1 (omega arith) is

module _ {K X : Type 0} (R : K → K → Ordering) where
  pub ascend_at : (bs : List (Vec (K × X) Global)) (i : ℕ) (b : Vec (K × X) Global) → Ascend R (joined bs) → i < length bs → get_or bs i b ≡ b → Ascend R b.items
  ascend_at [] i b up lt is = absurd (omega arith)
  ascend_at (x ∷ bs) zero b up lt is = subst (λ (y : Vec (K × X) Global). Ascend R y.items) is (ascend_first R x.items (joined bs) up)
  ascend_at (x ∷ bs) (suc i) b up lt is = ascend_at bs i b (ascend_second R x.items (joined bs) up) (omega arith) is

  pub reaches_here : (bs : List (Vec (K × X) Global)) (k : K) (i : ℕ) (b : Vec (K × X) Global) → i < length bs → get_or bs i b ≡ b → Reaches R k b.items → StartsReaching R k (drop i bs)
  reaches_here [] k i b lt is r = absurd (omega arith)
  reaches_here (x ∷ bs) k zero b lt is r = subst (λ (y : Vec (K × X) Global). Reaches R k y.items) (sym is) r
  reaches_here (x ∷ bs) k (suc i) b lt is r = reaches_here bs k i b (omega arith) is r

module _ {K X : Type 0} {R : K → K → Ordering} (total : IsTotalOrder R) where
  via : (k : K) (xs ys rest front : List (K × X)) → 0 < length ys → Ascend R (xs ++ (ys ++ rest)) → AllBelow R k (ys ++ front) → AllBelow R k xs
  via k xs [] rest front some up all = absurd (omega arith)
  via k xs (f ∷ ys) rest front some up all = below_before total k xs f (ys ++ rest) up all.0

  earlier : (k : K) (xs : List (K × X)) (bs : List (Vec (K × X) Global)) (i : ℕ) → Ascend R (xs ++ joined bs) → AreFilled bs → i < length bs → AllBelow R k (joined (take (suc i) bs)) → AllBelow R k xs
  earlier k xs [] i up f lt all = absurd (omega arith)
  earlier k xs (b ∷ bs) i up f lt all = via k xs b.items (joined bs) (joined (take i bs)) f.0 up all

  -- the blocks up to one that is below are below
  pub below_block : (bs : List (Vec (K × X) Global)) (k : K) (i : ℕ) (b : Vec (K × X) Global) → Ascend R (joined bs) → AreFilled bs → i < length bs → get_or bs i b ≡ b → AllBelow R k b.items → AllBelow R k (joined (take (suc i) bs))
  below_block [] k i b up f lt is all = absurd (omega arith)
  below_block (x ∷ bs) k zero b up f lt is all = below_both R k x.items [] (subst (λ (y : Vec (K × X) Global). AllBelow R k y.items) (sym is) all) tt
  below_block (x ∷ bs) k (suc i) b up f lt is all =
      let rest = below_block bs k i b (ascend_second R x.items (joined bs) up) f.1 (omega arith) is all in
      below_both R k x.items (joined (take (suc i) bs)) (earlier k x.items bs i up f.1 (omega arith) rest) rest

  -- if the last is below, all are
  pub below_whole : (es : List (K × X)) (k : K) (e : K × X) → Ascend R es → 0 < length es → get_or es (length es - 1) e ≡ e → R e.0 k ≡ Less → AllBelow R k es
  below_whole es k e up some is less =
      let lt : length es - 1 < length es = omega (arith, some) in
      let whole : suc (length es - 1) ≡ length es = omega (arith, some) in
      subst (AllBelow R k) (take_all (length es) es (omega arith)) (subst (λ n. AllBelow R k (take n es)) whole (below_through total es k (length es - 1) e up lt is less))
