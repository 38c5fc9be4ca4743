-- The last entry below a key.
use Rattle.std.proofs.Common.{◌≡◌, ℕ, zero, suc, ◌<◌, ◌≤◌, List, [], ◌∷◌, ◌++◌, length, get_or, take, drop, refl, sym, ap, subst, ◌∙◌, arith, Bool, true, false, Some, None, Option}
use Rattle.std.specs.Prelude.{◌≢◌, if◌then◌else◌}
use Rattle.std.specs.declared.vec.Vec.{Vec}
use Rattle.std.specs.declared.alloc.Global.{Global}
use Rattle.std.specs.declared.cmp.Ordering.{Ordering}
use Rattle.std.specs.declared.cmp.Ordering.TheVariants.{Less, Equal, Greater}
use Rattle.std.specs.Ordering.{is_lt, ordering_reverse}
use Rattle.std.specs.Cmp.{IsTotalOrder}
use Rattle.std.proofs.lemmas.List.{append_assoc, append-nil, take-append-drop, take_all}
use Rattle.ft_blocks.specs.Sorted.{AllAbove, AllBelow, Ascend, StartsAt, IsCut, later, later_of, last_entry, last_below}
use Rattle.ft_blocks.specs.Blocks.{joined, StartsReaching}
use Rattle.ft_blocks.proofs.Appends.{below_first, below_second, ascend_second}
use Rattle.ft_blocks.proofs.Taken.{above_rest}

not_lt : (o : Ordering) → o ≢ Less → is_lt o ≡ false
not_lt Less n = absurd (n refl)
not_lt Equal n = refl
not_lt Greater n = refl

module _ {A : Type 0} where
  pub later_none : (o : Option A) → o ≡ later_of o None
  later_none (Some x) = refl
  later_none None = refl

  later_assoc : (a b c : Option A) → later_of (later_of a b) c ≡ later_of a (later_of b c)
  later_assoc (Some x) b c = refl
  later_assoc None b c = refl

  later_some : (x : A) (a b : Option A) → Some (later x (later_of a b)) ≡ later_of a (Some (later x b))
  later_some x (Some f) b = refl
  later_some x None b = refl

  pub last_entry-append : (xs ys : List A) → last_entry (xs ++ ys) ≡ later_of (last_entry ys) (last_entry xs)
  last_entry-append [] ys = later_none (last_entry ys)
  last_entry-append (x ∷ xs) ys = ap (λ o. Some (later x o)) (last_entry-append xs ys) ∙ later_some x (last_entry ys) (last_entry xs)

  -- the last up to a place stands there
  pub last_taken : (es : List A) (j : ℕ) (e : A) → j < length es → get_or es j e ≡ e → last_entry (take (suc j) es) ≡ Some e
  last_taken [] j e lt is = absurd (omega arith)
  last_taken (x ∷ es) zero e lt is = ap Some is
  last_taken (x ∷ es) (suc j) e lt is = ap (λ o. Some (later x o)) (last_taken es j e (omega arith) is)

  -- the last of blocks is that of the last block
  pub last_block : (bs : List (Vec A Global)) (j : ℕ) (b : Vec A Global) (e : A) → j < length bs → get_or bs j b ≡ b → last_entry b.items ≡ Some e → last_entry (joined (take (suc j) bs)) ≡ Some e
  last_block [] j b e lt is last = absurd (omega arith)
  last_block (x ∷ bs) zero b e lt is last = ap last_entry (append-nil x.items) ∙ ap (λ (y : Vec A Global). last_entry y.items) is ∙ last
  last_block (x ∷ bs) (suc j) b e lt is last =
      last_entry-append x.items (joined (take (suc j) bs))
      ∙ ap (λ o. later_of o (last_entry x.items)) (last_block bs j b e (omega arith) is last)

module _ {K X : Type 0} (R : K → K → Ordering) where
  pub below_entry : (k : K) (es : List (K × X)) → AllBelow R k es → last_below R k es ≡ last_entry es
  below_entry k [] a = refl
  below_entry k (e ∷ es) a =
      ap (λ o. if is_lt o then Some (later e (last_below R k es)) else last_below R k es) a.0
      ∙ ap (λ o. Some (later e o)) (below_entry k es a.1)

  by_test : (b : Bool) (x : K × X) (p q r : Option (K × X)) → r ≡ later_of p q → (if b then Some (later x r) else r) ≡ later_of p (if b then Some (later x q) else q)
  by_test true x p q r e = ap (λ o. Some (later x o)) e ∙ later_some x p q
  by_test false x p q r e = e

  pub last_below-append : (k : K) (xs ys : List (K × X)) → last_below R k (xs ++ ys) ≡ later_of (last_below R k ys) (last_below R k xs)
  last_below-append k [] ys = later_none (last_below R k ys)
  last_below-append k (x ∷ xs) ys = by_test (is_lt (R x.0 k)) x (last_below R k ys) (last_below R k xs) (last_below R k (xs ++ ys)) (last_below-append k xs ys)

  skip : (k : K) (x : K × X) (es : List (K × X)) → R x.0 k ≢ Less → last_below R k es ≡ None → last_below R k (x ∷ es) ≡ None
  skip k x es n rest = ap (λ b. if b then Some (later x (last_below R k es)) else last_below R k es) (not_lt (R x.0 k) n) ∙ rest

module _ {K X : Type 0} {R : K → K → Ordering} (total : IsTotalOrder R) where
  pub above_none : (k : K) (es : List (K × X)) → AllAbove R k es → last_below R k es ≡ None
  above_none k [] a = refl
  above_none k (x ∷ es) a =
      let greater : R x.0 k ≡ Greater = total.antisymm x.0 k ∙ ap ordering_reverse a.0 in
      skip R k x es (λ less. cc) (above_none k es a.1)

  behind : (x k : K) (es : List (K × X)) → AllAbove R x es → R x k ≢ Less → last_below R k es ≡ None
  behind x k [] a n = refl
  behind x k (y ∷ es) a n = skip R k y es (λ less. n (total.trans x y.0 k a.0 less)) (behind x k es a.1 n)

  starts_none : (k : K) (es : List (K × X)) → Ascend R es → StartsAt R k es → last_below R k es ≡ None
  starts_none k [] up at = refl
  starts_none k (x ∷ es) up at = skip R k x es at (behind x.0 k es up.0 at)

  -- in one block it is the last before the cut
  pub before_cut : (es : List (K × X)) (k : K) (i : ℕ) → Ascend R es → IsCut R es k i → last_below R k es ≡ last_entry (take i es)
  before_cut es k i up cut =
      ap (last_below R k) (sym (take-append-drop i es))
      ∙ last_below-append R k (take i es) (drop i es)
      ∙ ap (λ o. later_of o (last_below R k (take i es))) (starts_none k (drop i es) (ascend_second R (take i es) (drop i es) (subst (Ascend R) (sym (take-append-drop i es)) up)) cut.others)
      ∙ below_entry R k (take i es) cut.below

  -- among blocks it is in the one for the key, or the last before that
  pub before_block : (bs : List (Vec (K × X) Global)) (k : K) (i : ℕ) (b : Vec (K × X) Global) (rest : List (K × X)) → i < length bs → get_or bs i b ≡ b
      → AllBelow R k (joined (take i bs)) → StartsReaching R k (drop i bs) → Ascend R (joined bs ++ rest)
      → last_below R k (joined bs ++ rest) ≡ later_of (last_below R k b.items) (last_entry (joined (take i bs)))
  before_block [] k i b rest lt is below at up = absurd (omega arith)
  before_block (x ∷ bs) k zero b rest lt is below at up =
      let whole = subst (Ascend R) (append_assoc x.items (joined bs) rest) up in
      ap (last_below R k) (append_assoc x.items (joined bs) rest)
      ∙ last_below-append R k x.items (joined bs ++ rest)
      ∙ ap (λ o. later_of o (last_below R k x.items)) (above_none k (joined bs ++ rest) (above_rest total k x.items (joined bs ++ rest) whole at))
      ∙ ap (λ (y : Vec (K × X) Global). last_below R k y.items) is
      ∙ later_none (last_below R k b.items)
  before_block (x ∷ bs) k (suc i) b rest lt is below at up =
      let whole = subst (Ascend R) (append_assoc x.items (joined bs) rest) up in
      let first = joined (take i bs) in
      ap (last_below R k) (append_assoc x.items (joined bs) rest)
      ∙ last_below-append R k x.items (joined bs ++ rest)
      ∙ ap (λ o. later_of o (last_below R k x.items)) (before_block bs k i b rest (omega arith) is (below_second R k x.items first below) at (ascend_second R x.items (joined bs ++ rest) whole))
      ∙ ap (λ o. later_of (later_of (last_below R k b.items) (last_entry first)) o) (below_entry R k x.items (below_first R k x.items first below))
      ∙ later_assoc (last_below R k b.items) (last_entry first) (last_entry x.items)
      ∙ ap (later_of (last_below R k b.items)) (sym (last_entry-append x.items first))

  -- or in the last one
  pub before_rest : (bs : List (Vec (K × X) Global)) (k : K) (i : ℕ) (rest : List (K × X)) → length bs ≤ i → AllBelow R k (joined (take i bs))
      → last_below R k (joined bs ++ rest) ≡ later_of (last_below R k rest) (last_entry (joined (take i bs)))
  before_rest bs k i rest le below =
      ap (λ cs. last_below R k (joined cs ++ rest)) (sym (take_all i bs le))
      ∙ last_below-append R k (joined (take i bs)) rest
      ∙ ap (later_of (last_below R k rest)) (below_entry R k (joined (take i bs)) below)
