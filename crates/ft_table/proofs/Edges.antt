-- What lies after a size in a list that is edited.
use Rattle.std.proofs.Common.{◌≡◌, ℕ, zero, suc, ◌+◌, ◌<◌, ◌≤◌, List, [], ◌∷◌, length, get_or, drop, refl, arith}
use Rattle.std.specs.List.{insert, remove, sum_by}
use Rattle.std.proofs.lemmas.List.Sums.{sum_by-cons, sum_by-insert, sum_by-remove, sum_by-take-drop}

module _ {X : Type 0} where
  pub drop-insert : (xs : List X) (s i : ℕ) (x : X) → i ≤ s → drop (suc s) (insert xs i x) ≡ drop s xs
  drop-insert [] s zero x le = refl
  drop-insert [] (suc s) (suc i) x le = refl
  drop-insert [] zero (suc i) x le = absurd (omega arith)
  drop-insert (y ∷ ys) s zero x le = refl
  drop-insert (y ∷ ys) zero (suc i) x le = absurd (omega arith)
  drop-insert (y ∷ ys) (suc s) (suc i) x le = drop-insert ys s i x (omega arith)

  pub drop-remove : (xs : List X) (s i : ℕ) → i ≤ s → i < length xs → drop s (remove xs i) ≡ drop (suc s) xs
  drop-remove [] s i le within = absurd (omega arith)
  drop-remove (y ∷ ys) s zero le within = refl
  drop-remove (y ∷ ys) zero (suc i) le within = absurd (omega arith)
  drop-remove (y ∷ ys) (suc s) (suc i) le within = drop-remove ys s i (omega arith) (omega arith)

  module _ (f : X → ℕ) where
    pub sum-drop-insert : (xs : List X) (s i : ℕ) (x : X) → s ≤ i → i ≤ length xs → sum_by f (drop s (insert xs i x)) ≡ sum_by f (drop s xs) + f x
    sum-drop-insert xs zero i x le within = sum_by-insert f xs i x
    sum-drop-insert xs (suc s) zero x le within = absurd (omega arith)
    sum-drop-insert [] (suc s) (suc i) x le within = absurd (omega arith)
    sum-drop-insert (y ∷ ys) (suc s) (suc i) x le within = sum-drop-insert ys s i x (omega arith) (omega arith)

    pub sum-drop-remove : (xs : List X) (s i : ℕ) (d : X) → s ≤ i → i < length xs → sum_by f (drop s (remove xs i)) + f (get_or xs i d) ≡ sum_by f (drop s xs)
    sum-drop-remove xs zero i d le within = sum_by-remove f xs i d within
    sum-drop-remove xs (suc s) zero d le within = absurd (omega arith)
    sum-drop-remove [] (suc s) (suc i) d le within = absurd (omega arith)
    sum-drop-remove (y ∷ ys) (suc s) (suc i) d le within = sum-drop-remove ys s i d (omega arith) (omega arith)

    -- what is after the size is a part of the whole
    pub sum-drop-le : (xs : List X) (s : ℕ) → sum_by f (drop s xs) ≤ sum_by f xs
    sum-drop-le xs s = omega (arith, sum_by-take-drop f xs s)

    -- after a size that the list doesn't pass is nothing
    pub sum-drop-all : (xs : List X) (s : ℕ) → length xs ≤ s → sum_by f (drop s xs) ≡ 0
    sum-drop-all [] zero le = refl
    sum-drop-all [] (suc s) le = refl
    sum-drop-all (x ∷ xs) zero le = absurd (omega arith)
    sum-drop-all (x ∷ xs) (suc s) le = sum-drop-all xs s (omega arith)

  module _ (f g : X → ℕ) where
    pub same-sums : (xs : List X) → ((j : ℕ) (d : X) → j < length xs → g (get_or xs j d) ≡ f (get_or xs j d)) → sum_by g xs ≡ sum_by f xs
    same-sums [] same = refl
    same-sums (x ∷ xs) same =
        let rest : sum_by g xs ≡ sum_by f xs = same-sums xs (λ j d lt. same (suc j) d (omega arith)) in
        let here : g x ≡ f x = same zero x (omega arith) in
        omega (arith, sum_by-cons f x xs, sum_by-cons g x xs)

    pub all_behind : (xs : List X) (s : ℕ) → ((j : ℕ) (d : X) → j < length xs → g (get_or xs j d) ≡ f (get_or xs j d)) → sum_by g (drop s xs) ≡ sum_by f (drop s xs)
    all_behind xs zero same = same-sums xs same
    all_behind [] (suc s) same = refl
    all_behind (x ∷ xs) (suc s) same = all_behind xs s (λ j d lt. same (suc j) d (omega arith))

    -- one item counts for one more: before the size, and after it
    pub one-more-before : (xs : List X) (s i : ℕ) → i < s → ((j : ℕ) (d : X) → j < length xs → (j ≡ i → ⊥) → g (get_or xs j d) ≡ f (get_or xs j d)) → sum_by g (drop s xs) ≡ sum_by f (drop s xs)
    one-more-before [] (suc s) i lt same = refl
    one-more-before xs zero i lt same = absurd (omega arith)
    one-more-before (x ∷ xs) (suc s) zero lt same = all_behind xs s (λ j d lt. same (suc j) d (omega arith) (λ e. absurd (omega arith)))
    one-more-before (x ∷ xs) (suc s) (suc i) lt same = one-more-before xs s i (omega arith) (λ j d lt ne. same (suc j) d (omega arith) (λ e. ne (omega arith)))

    pub one-more : (xs : List X) (i : ℕ) (d : X) → i < length xs → g (get_or xs i d) ≡ f (get_or xs i d) + 1 → ((j : ℕ) (d : X) → j < length xs → (j ≡ i → ⊥) → g (get_or xs j d) ≡ f (get_or xs j d)) → sum_by g xs ≡ sum_by f xs + 1
    one-more [] i d lt more same = absurd (omega arith)
    one-more (x ∷ xs) zero d lt more same =
        let rest : sum_by g xs ≡ sum_by f xs = same-sums xs (λ j d lt. same (suc j) d (omega arith) (λ e. absurd (omega arith))) in
        omega (arith, sum_by-cons f x xs, sum_by-cons g x xs)
    one-more (x ∷ xs) (suc i) d lt more same =
        let rest : sum_by g xs ≡ sum_by f xs + 1 = one-more xs i d (omega arith) more (λ j d lt ne. same (suc j) d (omega arith) (λ e. ne (omega arith))) in
        let here : g x ≡ f x = same zero x (omega arith) (λ e. absurd (omega arith)) in
        omega (arith, sum_by-cons f x xs, sum_by-cons g x xs)

    pub one-more-behind : (xs : List X) (s i : ℕ) (d : X) → s ≤ i → i < length xs → g (get_or xs i d) ≡ f (get_or xs i d) + 1 → ((j : ℕ) (d : X) → j < length xs → (j ≡ i → ⊥) → g (get_or xs j d) ≡ f (get_or xs j d)) → sum_by g (drop s xs) ≡ sum_by f (drop s xs) + 1
    one-more-behind xs zero i d le lt more same = one-more xs i d lt more same
    one-more-behind [] (suc s) i d le lt more same = absurd (omega arith)
    one-more-behind (x ∷ xs) (suc s) zero d le lt more same = absurd (omega arith)
    one-more-behind (x ∷ xs) (suc s) (suc i) d le lt more same = one-more-behind xs s i d (omega arith) (omega arith) more (λ j d lt ne. same (suc j) d (omega arith) (λ e. ne (omega arith)))
