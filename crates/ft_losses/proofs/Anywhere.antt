-- Whether any item of a list passes a test.
use Rattle.std.specs.Prelude.{◌≡◌, ℕ, ◌&&◌, ◌||◌, Bool, false, List, [], ◌∷◌, take, drop}
use Rattle.std.specs.List.{list_any, flat_map, All}
use Rattle.std.proofs.Common.{refl, sym, ap, ◌∙◌, arith}
use Rattle.std.proofs.lemmas.Bool.{and_right, or_from, or_parts}
use Rattle.std.proofs.lemmas.List.{take-append-drop}
use Rattle.std.proofs.Math.Bool.{or-false}
use Rattle.std.proofs.lemmas.List.Concat.{flat_map-cons}
use Rattle.std.proofs.lemmas.List.Elements.{All-tail}
use Rattle.std.proofs.lemmas.List.Folds.{list_any-append}

module _ {X : Type 0} (p : X → Bool) where
  -- two tests that agree on each item
  pub any-same : (q : X → Bool) (xs : List X) → All (λ x. p x ≡ q x) xs → list_any p xs ≡ list_any q xs
  any-same q [] h = refl
  any-same q (x ∷ xs) h =
      let here : p x ≡ q x = h 0 x (omega arith) in
      let there = any-same q xs (All-tail (λ x. p x ≡ q x) x xs h) in
      ap (λ b. b || list_any p xs) here ∙ ap (λ b. q x || b) there

  -- none of the last items passes
  pub any-first : (n : ℕ) (xs : List X) → list_any p (drop n xs) ≡ false → list_any p xs ≡ list_any p (take n xs)
  any-first n xs none =
      ap (list_any p) (sym (take-append-drop n xs)) ∙ list_any-append p (take n xs) (drop n xs)
      ∙ ap (λ b. list_any p (take n xs) || b) none ∙ or-false (list_any p (take n xs))

-- none passes a test that asks for more
pub any-less : {X : Type 0} (p q : X → Bool) (xs : List X) → list_any q xs ≡ false → list_any (λ x. p x && q x) xs ≡ false
any-less p q [] none = refl
any-less p q (x ∷ xs) none =
    let parts = or_parts (q x) (list_any q xs) none in
    or_from (p x && q x) (list_any (λ x. p x && q x) xs) (and_right (p x) (q x) parts.0) (any-less p q xs parts.1)

-- items of which each stands for some others
pub any-flat_map : {X Y : Type 0} (p : Y → Bool) (q : X → Bool) (f : X → List Y) (xs : List X) → ((x : X) → list_any p (f x) ≡ q x) → list_any p (flat_map f xs) ≡ list_any q xs
any-flat_map p q f [] each = refl
any-flat_map p q f (x ∷ xs) each =
    ap (list_any p) (flat_map-cons f x xs) ∙ list_any-append p (f x) (flat_map f xs)
    ∙ ap (λ b. b || list_any p (flat_map f xs)) (each x) ∙ ap (λ b. q x || b) (any-flat_map p q f xs each)
