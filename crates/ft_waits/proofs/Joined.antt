-- Pieces, joined.
use Rattle.std.specs.Prelude.{◌≡◌, ◌<◌, ◌+◌, ℕ, List, [], ◌∷◌, ◌++◌, length, take}
use Rattle.std.specs.List.{flat_map}
use Rattle.std.proofs.Common.{sym, ap, ◌∙◌, get_or, drop}
use Rattle.std.proofs.lemmas.List.{take_more, append-nil, take-append-drop}
use Rattle.std.proofs.lemmas.Grind.{flat_map-append}
use Rattle.std.proofs.lemmas.List.Concat.{flat_map-cons}

-- what one more item adds
pub flat-more : {X A : Type 0} (f : X → List A) (xs : List X) (i : ℕ) (x : X) → i < length xs → x ≡ get_or xs i x → flat_map f (take (i + 1) xs) ≡ flat_map f (take i xs) ++ f x
flat-more f xs i x within is =
    ap (flat_map f) (take_more xs i x within)
    ∙ flat_map-append f (take i xs) (get_or xs i x ∷ [])
    ∙ ap (λ y. flat_map f (take i xs) ++ flat_map f (y ∷ [])) (sym is)
    ∙ ap (λ ys. flat_map f (take i xs) ++ ys) (flat_map-cons f x [] ∙ append-nil (f x))

-- what some items give, and what the others give after them
pub flat-split : {X A : Type 0} (f : X → List A) (xs : List X) (i : ℕ) → flat_map f (take i xs) ++ flat_map f (drop i xs) ≡ flat_map f xs
flat-split f xs i = sym (flat_map-append f (take i xs) (drop i xs)) ∙ ap (flat_map f) (take-append-drop i xs)
