-- Numbers that may have a `-`.
use Rattle.std.proofs.Common.{◌≡◌, ℕ, inr, List, ◌++◌, refl, ap, ◌∙◌, ℤ, pos, arith}
use Rattle.std.proofs.lemmas.Int.{ints}
use Rattle.std.specs.Prelude.{codes, neg_ℤ}
use Rattle.ft_quick.specs.inner.Cuts.{IsNumbered, IsSigned}

-- digits after a `-`
pub signed_minus : (text behind rest : List ℕ) (n : ℕ) (z : ℤ) → text ≡ codes "-" ++ behind → IsNumbered behind n rest → z ≡ neg_ℤ (pos n) → IsSigned text z rest
signed_minus text behind rest n z cut read value = record {
  number = codes "-" ++ read.digits;
  joined = cut ∙ ap (λ (x : List ℕ). codes "-" ++ x) read.joined;
  is = (read.digits, read.are, inr (refl, value ∙ ap (λ (m : ℕ). neg_ℤ (pos m)) read.value));
  fits = let small = read.below in omega (arith, ints);
}
