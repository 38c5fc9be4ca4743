-- The least power of 2 that is not below a value, and sizes rounded up to it.
use Rattle.std.specs.Prelude.{◌≡◌, ℕ, zero, suc, ◌+◌, ◌^◌, ◌/◌, ◌<◌, ◌≤◌}
use Rattle.std.proofs.Common.{arith, ap, refl, sym, ◌∙◌, subst, max}
use Rattle.std.proofs.Math.Pow.{pow_mono, pow-lt}
use Rattle.std.specs.Int.{IsPowerOfTwo}
use Rattle.std.proofs.lemmas.Nat.{pow_pos}
use Rattle.std.proofs.lemmas.Grind.{pow_more}
use Rattle.ft_hist.specs.Powers.{first_power}
use Rattle.ft_hist.proofs.PowerLemmas.{first_power_least, first_power_reached}
use Rattle.ft_head.specs.Draft.{rounded}

-- a number is below its power of 2
below_power : (n : ℕ) → n < 2 ^ n
below_power zero = omega arith
below_power (suc n) =
    let less = below_power n in
    let next : 2 ^ (n + 1) ≡ 2 ^ suc n = ap (λ (k : ℕ). 2 ^ k) (omega arith) in
    omega (arith, pow_more 2 n)

-- a rounded number is a power of 2
pub rounded_power : (n : ℕ) → (k : ℕ) × (rounded n ≡ 2 ^ k)
unfolding rounded
rounded_power n = (first_power n n 0, refl)

-- a number that is rounded up is not below itself
pub rounded_reached : (n : ℕ) → n ≤ rounded n
unfolding rounded
rounded_reached n =
    let less = below_power n in
    let fits : n ≤ 2 ^ n = omega arith in
    let same : n ≡ 0 + n = omega arith in
    first_power_reached n n 0 (subst (λ (k : ℕ). n ≤ 2 ^ k) same fits)

-- it is rounded up to no power of 2 above one that is not below it
pub rounded_least : (n k : ℕ) → n ≤ 2 ^ k → rounded n ≤ 2 ^ k
unfolding rounded
rounded_least n k high = pow_mono {i = first_power n n 0} {j = k} (first_power_least n n 0 k (omega arith) high)

-- a power of 2 that is not below a number, and whose half is, is the number rounded up
pub rounded_is : (n k : ℕ) → n ≤ 2 ^ k → 2 ^ k / 2 < max 1 n → 2 ^ k ≡ rounded n
rounded_is n k high half =
    let power = rounded_power n in
    let least : 2 ^ power.0 ≤ 2 ^ k = rw (sym power.1) (rounded_least n k high) in
    let reached : n ≤ 2 ^ power.0 = subst (λ (p : ℕ). n ≤ p) power.1 (rounded_reached n) in
    same_power n k power.0 least reached half ∙ sym power.1
  where
    same_power : (n k j : ℕ) → 2 ^ j ≤ 2 ^ k → n ≤ 2 ^ j → 2 ^ k / 2 < max 1 n → 2 ^ k ≡ 2 ^ j
    same_power n k j least reached half =
        let most : j < k → ⊥ = λ below.
        (let low : 2 ^ (j + 1) ≤ 2 ^ k = pow_mono {i = j + 1} {j = k} (omega arith) in
        let some = pow_pos j in
        omega (arith, pow_more 2 j)) in
        let above : k < j → ⊥ = λ more. (let high : 2 ^ k < 2 ^ j = pow-lt {i = k} {j = j} more in omega arith) in
        let same : k ≡ j = grind arith in
        ap (λ n. 2 ^ n) same

-- so is one that is told so
pub rounded_of : (n size : ℕ) → IsPowerOfTwo size → n ≤ size → size / 2 < max 1 n → size ≡ rounded n
rounded_of n size power high half =
    power.1 ∙ rounded_is n power.0 (subst (λ (p : ℕ). n ≤ p) power.1 high) (subst (λ (p : ℕ). p / 2 < max 1 n) power.1 half)
