-- Lists in order, for any total order: the list with one more among them, and that no two lists have the same elements.
use Rattle.std.proofs.Common.{◌≡◌, ◌+◌, inl, inr, ℕ, zero, suc, true, false, List, [], ◌∷◌, get_or, refl, sym, ap, subst, ◌∙◌, arith}
use Rattle.std.specs.Prelude.{⊤, ◌⊎◌, IsSorted, Contains, All}
use Rattle.std.specs.List.{IsDistinct, AllByRecursion}
use Rattle.std.specs.List.Sorted.{IsStrictlySortedBy}
use Rattle.std.specs.declared.cmp.Ordering.{Ordering}
use Rattle.std.specs.declared.cmp.Ordering.TheVariants.{Less, Equal, Greater}
use Rattle.std.specs.Ordering.{is_lt, is_gt, is_eq, eq_by_cmp, ordering_reverse}
use Rattle.std.specs.Cmp.{IsTotalOrder, tied_itself}
use Rattle.std.proofs.lemmas.List.Elements.{All-head, All-tail}
use Rattle.std.proofs.lemmas.List.Sorted.{ranks_by, sorted_far}
use Rattle.std.proofs.lemmas.Map.Keys.{IsDistinct-head, IsDistinct-tail}

-- ---- elements

contains-first : {X : Type 0} (x : X) (xs : List X) → Contains (x ∷ xs) x
contains-first x xs = (zero, omega arith, refl)

contains-rest : {X : Type 0} (x y : X) (xs : List X) → Contains xs x → Contains (y ∷ xs) x
contains-rest x y xs has = (suc has.0, omega (arith, has.1), has.2)

contains-either : {X : Type 0} (x y : X) (xs : List X) → Contains (y ∷ xs) x → (y ≡ x) ⊎ Contains xs x
contains-either x y xs (zero, inside, is) = inl is
contains-either x y xs (suc k, inside, is) = inr (k, omega (arith, inside), is)

contains-none : {X : Type 0} (x : X) → Contains [] x → ⊥
contains-none x has = omega (arith, has.1)

recursion-at : {X : Type 0} (P : X → Type 0) (xs : List X) (x : X) → AllByRecursion P xs → Contains xs x → P x
recursion-at P [] x all has = absurd (contains-none x has)
recursion-at P (y ∷ ys) x all has = from (contains-either x y ys has) (recursion-at P ys x all.1)
  where
    from : (y ≡ x) ⊎ Contains ys x → (Contains ys x → P x) → P x
    from (inl is) more = subst P is all.0
    from (inr later) more = more later

-- the next place of a list with one more in front
next-place : {X : Type 0} (x : X) (xs : List X) (k : ℕ) (d : X) → get_or (x ∷ xs) (suc k + 1) d ≡ get_or xs (k + 1) d
next-place x xs k d = (let same : suc k + 1 ≡ suc (k + 1) = omega arith in ap (λ n. get_or (x ∷ xs) n d) same)

-- ---- the order

pub not-less : (r : Ordering) → is_gt (ordering_reverse r) ≡ false → is_lt r ≡ false
not-less Less e = absurd cc
not-less Equal e = refl
not-less Greater e = refl

pub greater-not-less : (r : Ordering) → is_gt r ≡ true → is_lt r ≡ false
greater-not-less Less e = absurd cc
greater-not-less Equal e = refl
greater-not-less Greater e = refl

pub below : (r : Ordering) → is_lt (ordering_reverse r) ≡ false → is_eq r ≡ false → r ≡ Less
below Less up other = refl
below Equal up other = absurd cc
below Greater up other = absurd cc

module _ {X : Type 0} {R : X → X → Ordering} (o : IsTotalOrder R) where
  -- ---- one list for the same elements

  heads : (x : X) (xs : List X) → All (λ y. is_lt (R y x) ≡ false) xs → AllByRecursion (λ y. eq_by_cmp R x y ≡ false) xs → AllByRecursion (λ y. R x y ≡ Less) xs
  heads x [] up other = tt
  heads x (y ∷ ys) up other =
      (below (R x y) (ap is_lt (sym (o.antisymm y x)) ∙ All-head (λ z. is_lt (R z x) ≡ false) y ys up) other.0, heads x ys (All-tail (λ z. is_lt (R z x) ≡ false) y ys up) other.1)

  sorted-tail : (x : X) (xs : List X) → IsSorted R (x ∷ xs) → IsSorted R xs
  sorted-tail x xs up k d low inside = subst (λ y. is_lt (R y (get_or xs k d)) ≡ false) (next-place x xs k d) (up (suc k) d (omega arith) (omega arith))

  -- if no two tie, elements in order are strictly in order
  pub strictly : (xs : List X) → IsSorted R xs → IsDistinct (eq_by_cmp R) xs → IsStrictlySortedBy R xs
  unfolding IsStrictlySortedBy
  strictly [] up other = tt
  strictly (x ∷ xs) up other = (
    heads x xs (λ j d inside. sorted_far _ (ranks_by o (λ (z : X). z)) (x ∷ xs) up zero (suc j) d (omega arith) (omega arith)) (IsDistinct-head (eq_by_cmp R) x xs other),
    strictly xs (sorted-tail x xs up) (IsDistinct-tail (eq_by_cmp R) x xs other),
  )

  unlike : (x : X) → R x x ≡ Less → ⊥
  unlike x less = (let e : Equal ≡ Less = sym (tied_itself o x) ∙ less in absurd cc)

  crossed : (x y : X) → R x y ≡ Less → R y x ≡ Less → ⊥
  crossed x y one two = unlike x (o.trans x y x one two)

  -- lists strictly in order that have the same elements are one
  pub one_list : (xs ys : List X) → IsStrictlySortedBy R xs → IsStrictlySortedBy R ys → ((q : X) → Contains xs q → Contains ys q) → ((q : X) → Contains ys q → Contains xs q) → xs ≡ ys
  unfolding IsStrictlySortedBy
  one_list [] [] up rise there back = refl
  one_list [] (y ∷ ys) up rise there back = absurd (contains-none y (back y (contains-first y ys)))
  one_list (x ∷ xs) [] up rise there back = absurd (contains-none x (there x (contains-first x xs)))
  one_list (x ∷ xs) (y ∷ ys) up rise there back =
      let same : x ≡ y = first (contains-either x y ys (there x (contains-first x xs))) (contains-either y x xs (back y (contains-first y ys))) in
      ap (λ z. z ∷ xs) same
      ∙ ap (λ (rest : List X). y ∷ rest) (one_list xs ys up.1 rise.1
      (λ q has. later q (contains-either q y ys (there q (contains-rest q x xs has))) (subst (λ z. R z q ≡ Less) same (recursion-at (λ z. R x z ≡ Less) xs q up.0 has)))
      (λ q has. sooner q (contains-either q x xs (back q (contains-rest q y ys has))) (subst (λ z. R z q ≡ Less) (sym same) (recursion-at (λ z. R y z ≡ Less) ys q rise.0 has))))
    where
      first : (y ≡ x) ⊎ Contains ys x → (x ≡ y) ⊎ Contains xs y → x ≡ y
      first (inl is) other = sym is
      first (inr one) (inl is) = is
      first (inr one) (inr two) = absurd (crossed x y (recursion-at (λ z. R x z ≡ Less) xs y up.0 two) (recursion-at (λ z. R y z ≡ Less) ys x rise.0 one))

      later : (q : X) → (y ≡ q) ⊎ Contains ys q → R y q ≡ Less → Contains ys q
      later q (inl is) less = absurd (unlike y (subst (λ z. R y z ≡ Less) (sym is) less))
      later q (inr has) less = has

      sooner : (q : X) → (x ≡ q) ⊎ Contains xs q → R x q ≡ Less → Contains xs q
      sooner q (inl is) less = absurd (unlike x (subst (λ z. R x z ≡ Less) (sym is) less))
      sooner q (inr has) less = has

  -- ---- one more element

  -- the element is no less than the first of the list, if there is one
  abbrev pub Bounds : X → List X → Type 0
  Bounds x [] = ⊤
  Bounds x (y ∷ ys) = is_lt (R y x) ≡ false

  -- each element is no less than the one before it
  abbrev pub Chain : List X → Type 0
  Chain [] = ⊤
  Chain (x ∷ xs) = Bounds x xs × Chain xs

  pub sorted-chain : (xs : List X) → Chain xs → IsSorted R xs
  sorted-chain [] up k d low inside = absurd (omega (arith, inside))
  sorted-chain (x ∷ []) up k d low inside = absurd (omega (arith, inside))
  sorted-chain (x ∷ y ∷ ys) up zero d low inside = up.0
  sorted-chain (x ∷ y ∷ ys) up (suc k) d low inside =
      subst (λ z. is_lt (R z (get_or (y ∷ ys) k d)) ≡ false) (sym (next-place x (y ∷ ys) k d)) (sorted-chain (y ∷ ys) up.1 k d (omega arith) (omega (arith, inside)))
