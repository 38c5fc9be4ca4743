-- Which keys are among the first of the order.
use Rattle.std.proofs.Common.{◌≡◌, ℕ, zero, suc, ◌<◌, ◌≤◌, Bool, true, false, List, [], ◌∷◌, length, get_or, take, map as list_map, refl, sym, ap, ◌∙◌, arith, nat_lt, inl, inr}
use Rattle.std.specs.Prelude.{◌||◌}
use Rattle.std.specs.List.{list_any}
use Rattle.std.proofs.lemmas.Bool.{cases_lt}
use Rattle.std.proofs.lemmas.Bool.Decides.{nat_tests}
use Rattle.ft_fields.specs.declared.key.Part.{Part}
use Rattle.ft_fields.specs.Parts.{same_key}
use Rattle.ft_hits.specs.declared.mark.Mark.{Mark}
use Rattle.ft_hits.specs.Marks.{mark_cmp}
use Rattle.ft_table.specs.inner.Ascending.{IsRank}
use Rattle.ft_hits.specs.Hits.{Hits}
use Rattle.ft_table.specs.inner.Moves.{order_without, order_with}
use Rattle.ft_hits.proofs.Flat.{same_itself, same_back}
use Rattle.ft_table.proofs.Firsts.{order-found}
use Rattle.ft_table.proofs.Counts.{without-apart, with-apart}

module _ {X Y : Type 0} (f : X → Y) (p : Y → Bool) where
  pub none-in : (xs : List X) (s : ℕ) → ((j : ℕ) (d : X) → j < length xs → p (f (get_or xs j d)) ≡ false) → list_any p (list_map f (take s xs)) ≡ false
  none-in [] zero h = refl
  none-in [] (suc s) h = refl
  none-in (x ∷ xs) zero h = refl
  none-in (x ∷ xs) (suc s) h = (λ i. h zero x (omega arith) i || none-in xs s (λ j d lt. h (suc j) d (omega arith)) i)

  one-in : (xs : List X) (s i : ℕ) → i < s → i < length xs → ((d : X) → p (f (get_or xs i d)) ≡ true) → list_any p (list_map f (take s xs)) ≡ true
  one-in [] s i lt within h = absurd (omega arith)
  one-in (x ∷ xs) zero i lt within h = absurd (omega arith)
  one-in (x ∷ xs) (suc s) zero lt within h = ap (λ b. b || list_any p (list_map f (take s xs))) (h x)
  one-in (x ∷ xs) (suc s) (suc i) lt within h = ap (λ b. p (f x) || b) (one-in xs s i (omega arith) (omega arith) h) ∙ or_true (p (f x)) where
    or_true : (b : Bool) → (b || true) ≡ true
    or_true true = refl
    or_true false = refl

  none-before : (xs : List X) (s i : ℕ) → s ≤ i → ((j : ℕ) (d : X) → j < length xs → (j ≡ i → ⊥) → p (f (get_or xs j d)) ≡ false) → list_any p (list_map f (take s xs)) ≡ false
  none-before [] zero i le h = refl
  none-before [] (suc s) i le h = refl
  none-before (x ∷ xs) zero i le h = refl
  none-before (x ∷ xs) (suc s) zero le h = absurd (omega arith)
  none-before (x ∷ xs) (suc s) (suc i) le h = (λ k. h zero x (omega arith) (λ e. absurd (omega arith)) k || none-before xs s i (omega arith) (λ j d lt ne. h (suc j) d (omega arith) (λ e. ne (omega arith))) k)

module _ (hits : Hits) (size : ℕ) where
  pub in-without : (key : List Part) → list_any (same_key key) (list_map (λ m. m.key) (take size (order_without hits key))) ≡ false
  in-without key = none-in (λ (m : Mark). m.key) (same_key key) (order_without hits key) size (λ j d lt. same_back key _ ∙ without-apart hits key j d lt)

  pub in-with : (m : Mark) (i : ℕ) → IsRank mark_cmp (order_with hits m) m i → list_any (same_key m.key) (list_map (λ m. m.key) (take size (order_with hits m))) ≡ nat_lt i size
  in-with m i at =
      let found = order-found hits m i at in
      elim (cases_lt i size) [
        | inl lt ↦ one-in (λ (m : Mark). m.key) (same_key m.key) (order_with hits m) size i lt found.0 (λ d. ap (λ (q : Mark). same_key m.key q.key) (found.1 d) ∙ same_itself m.key) ∙ sym (grind (arith, nat_tests, lt))
        | inr le ↦ none-before (λ (m : Mark). m.key) (same_key m.key) (order_with hits m) size i le (λ j d lt ne. same_back m.key _ ∙ with-apart hits m i j d at lt ne) ∙ sym (grind (arith, nat_tests, le))
      ]
