-- The least power of 2 that is not below a value.
use Rattle.std.specs.Prelude.{◌≡◌, ℕ, zero, suc, ◌+◌, ◌-◌, ◌^◌, ◌<◌, ◌≤◌, Bool, true, false, nat_le, if◌then◌else◌}
use Rattle.std.proofs.Common.{arith, ◌∙◌}
use Rattle.std.proofs.lemmas.Bool.Decides.{nat_tests}
use Rattle.std.proofs.Math.Pow.{pow_mono}
use Rattle.std.proofs.lemmas.Nat.{leading_length}
use Rattle.std.proofs.lemmas.Grind.{pow_more}
use native.Mathlib.Numerals.{unary_clauses}
use lib.Count.{count_leading_zeros}
use Rattle.ft_hist.specs.Powers.{first_power, log2_of}

-- one step of the search stays up to a number whose power is high enough
least_step : (value p q k n other : ℕ) → k ≤ n → (k ≡ n → p ≡ q) → value ≤ q → (k + 1 ≤ n → other ≤ n) → (if nat_le value p then k else other) ≤ n
least_step value p q k n other low same high more = grind (arith, nat_tests)

-- the search stops at no number above one whose power is high enough
pub first_power_least : (value left k n : ℕ) → k ≤ n → value ≤ 2 ^ n → first_power value left k ≤ n
first_power_least value zero k n low high = low
first_power_least value (suc left) k n low high =
    least_step value (2 ^ k) (2 ^ n) k n (first_power value left (k + 1)) low (λ same i. 2 ^ same i) high (λ more. first_power_least value left (k + 1) n more high)

-- one step of the search keeps that its power is high enough
reached_step : (value k other : ℕ) → value ≤ 2 ^ other → value ≤ 2 ^ (if nat_le value (2 ^ k) then k else other)
reached_step value k other high = grind (arith, nat_tests)

-- the search stops at a number whose power is high enough, if that of its last number is
pub first_power_reached : (value left k : ℕ) → value ≤ 2 ^ (k + left) → value ≤ 2 ^ first_power value left k
first_power_reached value zero k high = simp unary_clauses at high
first_power_reached value (suc left) k high =
    let same : k + suc left ≡ k + 1 + left = omega arith in
    reached_step value k (first_power value left (k + 1)) (first_power_reached value left (k + 1) (rw same at high))

-- the power of a value is the least
pub log2_of_least : (value n : ℕ) → value ≤ 2 ^ n → log2_of value ≤ n
unfolding log2_of
log2_of_least value n high = first_power_least value 64 0 n (omega arith) high

-- the power of a value of 64 bits is not below it
pub log2_of_reached : (value : ℕ) → value < 2 ^ 64 → value ≤ 2 ^ log2_of value
unfolding log2_of
log2_of_reached value fits = first_power_reached value 64 0 (omega arith)

-- the power is a number whose power is high enough, and whose half is below the value
log2_of_is : (value r : ℕ) → value < 2 ^ 64 → value ≤ 2 ^ r → ((k : ℕ) → 2 ^ (k + 1) ≤ 2 ^ r → 2 ^ k < value) → r ≡ log2_of value
log2_of_is value r fits high half =
    let least : log2_of value ≤ r = log2_of_least value r high in
    let reached : value ≤ 2 ^ log2_of value = log2_of_reached value fits in
    let most : log2_of value < r → ⊥ = λ below. (let low : 2 ^ log2_of value < value = half (log2_of value) (pow_mono (omega arith)) in omega arith) in
    grind arith

-- the power of a value, by the leading zeros of what is one below it
pub log2_of_leading : (value : ℕ) → 0 < value → value < 2 ^ 64 → 64 - count_leading_zeros 64 (value - 1) ≡ log2_of value
log2_of_leading value some fits =
    let found = leading_length 64 (value - 1) (omega arith) in
    let length_is : 64 - count_leading_zeros 64 (value - 1) ≡ found.0 = (let e = found.1 in omega arith) in
    let high : value ≤ 2 ^ found.0 = (let e = found.2 in omega arith) in
    let half : (k : ℕ) → 2 ^ (k + 1) ≤ 2 ^ found.0 → 2 ^ k < value = λ k h. (let e = found.3 in omega (arith, pow_more 2 k)) in
    length_is ∙ log2_of_is value found.0 fits high half

-- one step of the search stays below its last number
few_step : (b : Bool) (k left other : ℕ) → other ≤ k + 1 + left → (if b then k else other) ≤ k + suc left
few_step true k left other most = omega arith
few_step false k left other most = omega arith

-- the search stops at its last number at the latest
first_power_few : (value left k : ℕ) → first_power value left k ≤ k + left
first_power_few value zero k = omega arith
first_power_few value (suc left) k = few_step (nat_le value (2 ^ k)) k left (first_power value left (k + 1)) (first_power_few value left (k + 1))

-- the power of a value is at most 64
pub log2_of_few : (value : ℕ) → log2_of value ≤ 64
unfolding log2_of
log2_of_few value = let few = first_power_few value 64 0 in omega arith
