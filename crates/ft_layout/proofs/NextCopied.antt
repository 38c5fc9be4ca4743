-- Copying one item after another.
use Rattle.std.proofs.Common.{◌≡◌, ℕ, zero, suc, ◌+◌, ◌<◌, List, [], ◌∷◌, ◌++◌, length, take, drop, set, map, get_or, sym, ap, ◌∙◌, add-one, arith}

next : {X Y : Type 0} (shown : X → Y) (xs : List X) (ys : List Y) (n : ℕ) (x : X) → n < length xs → n < length ys → x ≡ get_or xs n x → set (map shown (take n xs) ++ drop n ys) n (shown x) ≡ map shown (take (suc n) xs) ++ drop (suc n) ys
next shown [] ys n x in_xs in_ys is = absurd (omega (arith, in_xs))
next shown (a ∷ xs) [] n x in_xs in_ys is = absurd (omega (arith, in_ys))
next shown (a ∷ xs) (b ∷ ys) zero x in_xs in_ys is = ap (λ v. shown v ∷ ys) is
next shown (a ∷ xs) (b ∷ ys) (suc n) x in_xs in_ys is = ap (λ rest. shown a ∷ rest) (next shown xs ys n x (omega (arith, in_xs)) (omega (arith, in_ys)) is)

-- the next item, shown, stands after those that are copied
pub next_copied : {X Y : Type 0} (shown : X → Y) (xs : List X) (ys : List Y) (n : ℕ) (x : X) → n < length xs → n < length ys → x ≡ get_or xs n x → set (map shown (take n xs) ++ drop n ys) n (shown x) ≡ map shown (take (n + 1) xs) ++ drop (n + 1) ys
next_copied shown xs ys n x in_xs in_ys is = next shown xs ys n x in_xs in_ys is ∙ ap (λ m. map shown (take m xs) ++ drop m ys) (sym (add-one n))
