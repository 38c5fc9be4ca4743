-- Digits eight at a time: two multiplications of a word's pairs give the number that its bytes write.
use Rattle.std.proofs.Common.{◌≡◌, ◌<◌, ◌≤◌, ℕ, zero, suc, ◌+◌, ◌-◌, ◌*◌, ◌/◌, ◌%◌, ◌^◌, true, List, length, get_or, take, drop, bit_and, w8, w64, Fits, leb, refl, sym, ap, ◌∙◌, arith, subst}
use Rattle.std.proofs.lemmas.Bool.{and_parts, leb-true}
use Rattle.std.proofs.Math.Nat.{mod-eq_of_lt}
use lib.Arith.{digits_div, digits_mod}
use lib.Bits.{and_block, and_mask}
use Rattle.ft_event.specs.Bytes.{is_digit}
use Rattle.std.proofs.lemmas.List.{get_or-drop, get_or-take, length-drop}
use Rattle.std.specs.Int.{from_le_bytes}
use Rattle.ft_quick.specs.inner.Cuts.{IsNumbered}
use Rattle.ft_quick.proofs.Places.{numbered_at}
use Rattle.ft_quick.proofs.Runs.{IsRead, next_digit}

-- the mask keeps bytes 0 and 4
masked : (x : ℕ) → bit_and x 0x0000_00ff_0000_00ff ≡ x / 2 ^ 32 % 256 * 2 ^ 32 + x % 2 ^ 32 % 256
masked x =
    let e : x ≡ x / 2 ^ 32 * 2 ^ 32 + x % 2 ^ 32 = omega arith in
    ap (λ y. bit_and y 0x0000_00ff_0000_00ff) e ∙ and_block 32 (x / 2 ^ 32) 255 (x % 2 ^ 32) 255 (omega arith) (omega arith)
    ∙ (λ i. and_mask (x / 2 ^ 32) 8 i * 2 ^ 32 + and_mask (x % 2 ^ 32) 8 i)

-- what the code computes of a word of eight digits
abbrev pub worth : ℕ → ℕ
worth word =
    let pairs = (word * 10 % 2 ^ 64 + word / 2 ^ 8) % 2 ^ 64 in
    (bit_and pairs 0x0000_00ff_0000_00ff * 4294967296000100 % 2 ^ 64 + bit_and (pairs / 2 ^ 16) 0x0000_00ff_0000_00ff * 42949672960001 % 2 ^ 64) % 2 ^ 64 / 2 ^ 32

byte : (x : ℕ) → x < 100 → x < 256
byte x h = omega arith

first : (p r : ℕ) → p < 100 → r < 100 → (r * 2 ^ 32 + p) * 4294967296000100 % 2 ^ 64 ≡ (p * 1000000 + r * 100) * 2 ^ 32 + p * 100
first p r P R = omega arith

second : (q s : ℕ) → q < 100 → s < 100 → (s * 2 ^ 32 + q) * 42949672960001 % 2 ^ 64 ≡ (q * 10000 + s) * 2 ^ 32 + q
second q s Q S = omega arith

sum : (p q r s : ℕ) → p < 100 → q < 100 → r < 100 → s < 100
    → ((p * 1000000 + r * 100) * 2 ^ 32 + p * 100 + ((q * 10000 + s) * 2 ^ 32 + q)) % 2 ^ 64 / 2 ^ 32 ≡ p * 1000000 + q * 10000 + r * 100 + s
sum p q r s P Q R S =
    let whole = (p * 1000000 + r * 100) * 2 ^ 32 + p * 100 + ((q * 10000 + s) * 2 ^ 32 + q) in
    let small : whole < 2 ^ 64 = omega arith in
    let parts : whole ≡ (p * 1000000 + q * 10000 + r * 100 + s) * 2 ^ 32 + (p * 100 + q) = omega arith in
    let low : p * 100 + q < 2 ^ 32 = omega arith in
    ap (λ x. x / 2 ^ 32) (mod-eq_of_lt small ∙ parts) ∙ digits_div _ low

-- p, q, r and s are the pairs of digits, and x, y, z and w the bytes between them
paired : (p q r s x y z w pairs : ℕ) → p < 100 → q < 100 → r < 100 → s < 100 → x < 100 → y < 100 → z < 100 → w < 100
    → pairs ≡ p + 2 ^ 8 * x + 2 ^ 16 * q + 2 ^ 24 * y + 2 ^ 32 * r + 2 ^ 40 * z + 2 ^ 48 * s + 2 ^ 56 * w
    → (bit_and pairs 0x0000_00ff_0000_00ff * 4294967296000100 % 2 ^ 64 + bit_and (pairs / 2 ^ 16) 0x0000_00ff_0000_00ff * 42949672960001 % 2 ^ 64) % 2 ^ 64 / 2 ^ 32
    ≡ p * 1000000 + q * 10000 + r * 100 + s
paired p q r s x y z w pairs P Q R S X Y Z W e =
    let high : pairs / 2 ^ 32 ≡ (z + 2 ^ 8 * s + 2 ^ 16 * w) * 256 + r = omega arith in
    let low : pairs % 2 ^ 32 ≡ (x + 2 ^ 8 * q + 2 ^ 16 * y) * 256 + p = omega arith in
    let down : pairs / 2 ^ 16 ≡ (((w * 256) + s) * 2 ^ 32) + ((y + 2 ^ 8 * r + 2 ^ 16 * z) * 256 + q) = omega arith in
    let a : pairs / 2 ^ 32 % 256 ≡ r = rw high (digits_mod _ (byte r R)) in
    let b : pairs % 2 ^ 32 % 256 ≡ p = rw low (digits_mod _ (byte p P)) in
    let part : (y + 2 ^ 8 * r + 2 ^ 16 * z) * 256 + q < 2 ^ 32 = omega arith in
    let c : pairs / 2 ^ 16 / 2 ^ 32 % 256 ≡ s = rw (down, digits_div _ part) (digits_mod _ (byte s S)) in
    let d : pairs / 2 ^ 16 % 2 ^ 32 % 256 ≡ q = rw (down, digits_mod _ part) (digits_mod _ (byte q Q)) in
    rw (masked pairs, masked (pairs / 2 ^ 16), a, b, c, d, first p r P R, second q s Q S) (sum p q r s P Q R S)

-- eight digits, the first of them lowest
eight : (a b c d e f g h word : ℕ) → a < 10 → b < 10 → c < 10 → d < 10 → e < 10 → f < 10 → g < 10 → h < 10
    → word ≡ a + 2 ^ 8 * b + 2 ^ 16 * c + 2 ^ 24 * d + 2 ^ 32 * e + 2 ^ 40 * f + 2 ^ 48 * g + 2 ^ 56 * h
    → worth word ≡ a * 10000000 + b * 1000000 + c * 100000 + d * 10000 + e * 1000 + f * 100 + g * 10 + h
eight a b c d e f g h word A B C D E F G H is =
    let rest = b + 2 ^ 8 * c + 2 ^ 16 * d + 2 ^ 24 * e + 2 ^ 32 * f + 2 ^ 40 * g + 2 ^ 48 * h in
    let parts : word ≡ rest * 256 + a = omega arith in
    let low : a < 2 ^ 8 = omega arith in
    let shifted : word / 2 ^ 8 ≡ rest = ap (λ x. x / 2 ^ 8) parts ∙ digits_div rest low in
    let tens : word * 10 < 2 ^ 64 = omega arith in
    let whole : word * 10 + rest < 2 ^ 64 = omega arith in
    let pairs : (word * 10 % 2 ^ 64 + word / 2 ^ 8) % 2 ^ 64
    ≡ 10 * a + b + 2 ^ 8 * (10 * b + c) + 2 ^ 16 * (10 * c + d) + 2 ^ 24 * (10 * d + e) + 2 ^ 32 * (10 * e + f) + 2 ^ 40 * (10 * f + g) + 2 ^ 48 * (10 * g + h) + 2 ^ 56 * (10 * h) =
    rw (mod-eq_of_lt tens, shifted, mod-eq_of_lt whole) (omega arith) in
    paired _ _ _ _ _ _ _ _ _ (omega arith) (omega arith) (omega arith) (omega arith) (omega arith) (omega arith) (omega arith) (omega arith) pairs ∙ omega arith

-- ---- the first digits of a word, of which the code keeps the values, moved up to the end

abbrev pub lifted : ℕ → ℕ → ℕ
lifted word up = (word + (2 ^ 64 - 0x3030_3030_3030_3030)) % 2 ^ 64 * 2 ^ up % 2 ^ 64

one : (a rest word : ℕ) → a < 10 → rest < 2 ^ 56 → word ≡ (48 + a) + 2 ^ 8 * rest
    → worth (lifted word 56) ≡ 0 * 10 + a
one a rest word A R is =
    let kept : lifted word 56 ≡ 2 ^ 56 * a = omega arith in
    eight 0 0 0 0 0 0 0 a (lifted word 56) (omega arith) (omega arith) (omega arith) (omega arith) (omega arith) (omega arith) (omega arith) A (omega arith) ∙ omega arith

two : (a b rest word : ℕ) → a < 10 → b < 10 → rest < 2 ^ 48 → word ≡ (48 + a) + 2 ^ 8 * (48 + b) + 2 ^ 16 * rest
    → worth (lifted word 48) ≡ (0 * 10 + a) * 10 + b
two a b rest word A B R is =
    let kept : lifted word 48 ≡ 2 ^ 48 * a + 2 ^ 56 * b = omega arith in
    eight 0 0 0 0 0 0 a b (lifted word 48) (omega arith) (omega arith) (omega arith) (omega arith) (omega arith) (omega arith) A B (omega arith) ∙ omega arith

three : (a b c rest word : ℕ) → a < 10 → b < 10 → c < 10 → rest < 2 ^ 40 → word ≡ (48 + a) + 2 ^ 8 * (48 + b) + 2 ^ 16 * (48 + c) + 2 ^ 24 * rest
    → worth (lifted word 40) ≡ ((0 * 10 + a) * 10 + b) * 10 + c
three a b c rest word A B C R is =
    let kept : lifted word 40 ≡ 2 ^ 40 * a + 2 ^ 48 * b + 2 ^ 56 * c = omega arith in
    eight 0 0 0 0 0 a b c (lifted word 40) (omega arith) (omega arith) (omega arith) (omega arith) (omega arith) A B C (omega arith) ∙ omega arith

four : (a b c d rest word : ℕ) → a < 10 → b < 10 → c < 10 → d < 10 → rest < 2 ^ 32 → word ≡ (48 + a) + 2 ^ 8 * (48 + b) + 2 ^ 16 * (48 + c) + 2 ^ 24 * (48 + d) + 2 ^ 32 * rest
    → worth (lifted word 32) ≡ (((0 * 10 + a) * 10 + b) * 10 + c) * 10 + d
four a b c d rest word A B C D R is =
    let kept : lifted word 32 ≡ 2 ^ 32 * a + 2 ^ 40 * b + 2 ^ 48 * c + 2 ^ 56 * d = omega arith in
    eight 0 0 0 0 a b c d (lifted word 32) (omega arith) (omega arith) (omega arith) (omega arith) A B C D (omega arith) ∙ omega arith

five : (a b c d e rest word : ℕ) → a < 10 → b < 10 → c < 10 → d < 10 → e < 10 → rest < 2 ^ 24 → word ≡ (48 + a) + 2 ^ 8 * (48 + b) + 2 ^ 16 * (48 + c) + 2 ^ 24 * (48 + d) + 2 ^ 32 * (48 + e) + 2 ^ 40 * rest
    → worth (lifted word 24) ≡ ((((0 * 10 + a) * 10 + b) * 10 + c) * 10 + d) * 10 + e
five a b c d e rest word A B C D E R is =
    let kept : lifted word 24 ≡ 2 ^ 24 * a + 2 ^ 32 * b + 2 ^ 40 * c + 2 ^ 48 * d + 2 ^ 56 * e = omega arith in
    eight 0 0 0 a b c d e (lifted word 24) (omega arith) (omega arith) (omega arith) A B C D E (omega arith) ∙ omega arith

six : (a b c d e f rest word : ℕ) → a < 10 → b < 10 → c < 10 → d < 10 → e < 10 → f < 10 → rest < 2 ^ 16 → word ≡ (48 + a) + 2 ^ 8 * (48 + b) + 2 ^ 16 * (48 + c) + 2 ^ 24 * (48 + d) + 2 ^ 32 * (48 + e) + 2 ^ 40 * (48 + f) + 2 ^ 48 * rest
    → worth (lifted word 16) ≡ (((((0 * 10 + a) * 10 + b) * 10 + c) * 10 + d) * 10 + e) * 10 + f
six a b c d e f rest word A B C D E F R is =
    let kept : lifted word 16 ≡ 2 ^ 16 * a + 2 ^ 24 * b + 2 ^ 32 * c + 2 ^ 40 * d + 2 ^ 48 * e + 2 ^ 56 * f = omega arith in
    eight 0 0 a b c d e f (lifted word 16) (omega arith) (omega arith) A B C D E F (omega arith) ∙ omega arith

seven : (a b c d e f g rest word : ℕ) → a < 10 → b < 10 → c < 10 → d < 10 → e < 10 → f < 10 → g < 10 → rest < 2 ^ 8 → word ≡ (48 + a) + 2 ^ 8 * (48 + b) + 2 ^ 16 * (48 + c) + 2 ^ 24 * (48 + d) + 2 ^ 32 * (48 + e) + 2 ^ 40 * (48 + f) + 2 ^ 48 * (48 + g) + 2 ^ 56 * rest
    → worth (lifted word 8) ≡ ((((((0 * 10 + a) * 10 + b) * 10 + c) * 10 + d) * 10 + e) * 10 + f) * 10 + g
seven a b c d e f g rest word A B C D E F G R is =
    let kept : lifted word 8 ≡ 2 ^ 8 * a + 2 ^ 16 * b + 2 ^ 24 * c + 2 ^ 32 * d + 2 ^ 40 * e + 2 ^ 48 * f + 2 ^ 56 * g = omega arith in
    eight 0 a b c d e f g (lifted word 8) (omega arith) A B C D E F G (omega arith) ∙ omega arith

all : (a b c d e f g h word : ℕ) → a < 10 → b < 10 → c < 10 → d < 10 → e < 10 → f < 10 → g < 10 → h < 10 → word ≡ (48 + a) + 2 ^ 8 * (48 + b) + 2 ^ 16 * (48 + c) + 2 ^ 24 * (48 + d) + 2 ^ 32 * (48 + e) + 2 ^ 40 * (48 + f) + 2 ^ 48 * (48 + g) + 2 ^ 56 * (48 + h)
    → worth (lifted word 0) ≡ (((((((0 * 10 + a) * 10 + b) * 10 + c) * 10 + d) * 10 + e) * 10 + f) * 10 + g) * 10 + h
all a b c d e f g h word A B C D E F G H is =
    let kept : lifted word 0 ≡ a + 2 ^ 8 * b + 2 ^ 16 * c + 2 ^ 24 * d + 2 ^ 32 * e + 2 ^ 40 * f + 2 ^ 48 * g + 2 ^ 56 * h = omega arith in
    eight a b c d e f g h (lifted word 0) A B C D E F G H (omega arith) ∙ omega arith

-- ---- the number that a text's first digits write

abbrev pub read : List ℕ → ℕ → ℕ
read text zero = 0
read text (suc n) = read text n * 10 + (get_or text n 0 - 48)

is_read : (text : List ℕ) (n : ℕ) → n ≤ length text → ((k : ℕ) → k < n → is_digit (get_or text k 0) ≡ true) → IsRead text n (read text n)
is_read text zero few each = record { digits = refl; value = refl; below = omega arith }
is_read text (suc n) few each =
    let next : n + 1 ≡ suc n = omega arith in
    subst (λ (m : ℕ). IsRead text m (read text (suc n))) next (next_digit text n (read text n) (omega arith) (each n (omega arith)) (is_read text n (omega arith) (λ k below. each k (omega arith))))

value : (x : ℕ) → is_digit x ≡ true → (x - 48 < 10) × (48 + (x - 48) ≡ x)
value x digit =
    let p = and_parts (leb 48 x) (leb x 57) digit in
    let low : 48 ≤ x = leb-true 48 x p.0 in
    let high : x ≤ 57 = leb-true x 57 p.1 in
    (omega arith, omega arith)

module _ (text : List ℕ) (word : ℕ) (bytes : (k : ℕ) → get_or text k 0 < 256)
    (is : word ≡ get_or text 0 0 + get_or text 1 0 * 2 ^ 8 + get_or text 2 0 * 2 ^ 16 + get_or text 3 0 * 2 ^ 24 + get_or text 4 0 * 2 ^ 32 + get_or text 5 0 * 2 ^ 40 + get_or text 6 0 * 2 ^ 48 + get_or text 7 0 * 2 ^ 56) where
  abbrev at : ℕ → ℕ
  at k = get_or text k 0 - 48

  one_read : ((k : ℕ) → k < 1 → is_digit (get_or text k 0) ≡ true) → worth (lifted word 56) ≡ read text 1
  one_read each =
      let v0 = value (get_or text 0 0) (each 0 (omega arith)) in
      let b1 = bytes 1 in
      let b2 = bytes 2 in
      let b3 = bytes 3 in
      let b4 = bytes 4 in
      let b5 = bytes 5 in
      let b6 = bytes 6 in
      let b7 = bytes 7 in
      one (at 0) (get_or text 1 0 + 2 ^ 8 * get_or text 2 0 + 2 ^ 16 * get_or text 3 0 + 2 ^ 24 * get_or text 4 0 + 2 ^ 32 * get_or text 5 0 + 2 ^ 40 * get_or text 6 0 + 2 ^ 48 * get_or text 7 0) word v0.0 (omega arith) (omega (arith, is, v0.1))

  two_read : ((k : ℕ) → k < 2 → is_digit (get_or text k 0) ≡ true) → worth (lifted word 48) ≡ read text 2
  two_read each =
      let v0 = value (get_or text 0 0) (each 0 (omega arith)) in
      let v1 = value (get_or text 1 0) (each 1 (omega arith)) in
      let b2 = bytes 2 in
      let b3 = bytes 3 in
      let b4 = bytes 4 in
      let b5 = bytes 5 in
      let b6 = bytes 6 in
      let b7 = bytes 7 in
      two (at 0) (at 1) (get_or text 2 0 + 2 ^ 8 * get_or text 3 0 + 2 ^ 16 * get_or text 4 0 + 2 ^ 24 * get_or text 5 0 + 2 ^ 32 * get_or text 6 0 + 2 ^ 40 * get_or text 7 0) word v0.0 v1.0 (omega arith) (omega (arith, is, v0.1, v1.1))

  three_read : ((k : ℕ) → k < 3 → is_digit (get_or text k 0) ≡ true) → worth (lifted word 40) ≡ read text 3
  three_read each =
      let v0 = value (get_or text 0 0) (each 0 (omega arith)) in
      let v1 = value (get_or text 1 0) (each 1 (omega arith)) in
      let v2 = value (get_or text 2 0) (each 2 (omega arith)) in
      let b3 = bytes 3 in
      let b4 = bytes 4 in
      let b5 = bytes 5 in
      let b6 = bytes 6 in
      let b7 = bytes 7 in
      three (at 0) (at 1) (at 2) (get_or text 3 0 + 2 ^ 8 * get_or text 4 0 + 2 ^ 16 * get_or text 5 0 + 2 ^ 24 * get_or text 6 0 + 2 ^ 32 * get_or text 7 0) word v0.0 v1.0 v2.0 (omega arith) (omega (arith, is, v0.1, v1.1, v2.1))

  four_read : ((k : ℕ) → k < 4 → is_digit (get_or text k 0) ≡ true) → worth (lifted word 32) ≡ read text 4
  four_read each =
      let v0 = value (get_or text 0 0) (each 0 (omega arith)) in
      let v1 = value (get_or text 1 0) (each 1 (omega arith)) in
      let v2 = value (get_or text 2 0) (each 2 (omega arith)) in
      let v3 = value (get_or text 3 0) (each 3 (omega arith)) in
      let b4 = bytes 4 in
      let b5 = bytes 5 in
      let b6 = bytes 6 in
      let b7 = bytes 7 in
      four (at 0) (at 1) (at 2) (at 3) (get_or text 4 0 + 2 ^ 8 * get_or text 5 0 + 2 ^ 16 * get_or text 6 0 + 2 ^ 24 * get_or text 7 0) word v0.0 v1.0 v2.0 v3.0 (omega arith) (omega (arith, is, v0.1, v1.1, v2.1, v3.1))

  five_read : ((k : ℕ) → k < 5 → is_digit (get_or text k 0) ≡ true) → worth (lifted word 24) ≡ read text 5
  five_read each =
      let v0 = value (get_or text 0 0) (each 0 (omega arith)) in
      let v1 = value (get_or text 1 0) (each 1 (omega arith)) in
      let v2 = value (get_or text 2 0) (each 2 (omega arith)) in
      let v3 = value (get_or text 3 0) (each 3 (omega arith)) in
      let v4 = value (get_or text 4 0) (each 4 (omega arith)) in
      let b5 = bytes 5 in
      let b6 = bytes 6 in
      let b7 = bytes 7 in
      five (at 0) (at 1) (at 2) (at 3) (at 4) (get_or text 5 0 + 2 ^ 8 * get_or text 6 0 + 2 ^ 16 * get_or text 7 0) word v0.0 v1.0 v2.0 v3.0 v4.0 (omega arith) (omega (arith, is, v0.1, v1.1, v2.1, v3.1, v4.1))

  six_read : ((k : ℕ) → k < 6 → is_digit (get_or text k 0) ≡ true) → worth (lifted word 16) ≡ read text 6
  six_read each =
      let v0 = value (get_or text 0 0) (each 0 (omega arith)) in
      let v1 = value (get_or text 1 0) (each 1 (omega arith)) in
      let v2 = value (get_or text 2 0) (each 2 (omega arith)) in
      let v3 = value (get_or text 3 0) (each 3 (omega arith)) in
      let v4 = value (get_or text 4 0) (each 4 (omega arith)) in
      let v5 = value (get_or text 5 0) (each 5 (omega arith)) in
      let b6 = bytes 6 in
      let b7 = bytes 7 in
      six (at 0) (at 1) (at 2) (at 3) (at 4) (at 5) (get_or text 6 0 + 2 ^ 8 * get_or text 7 0) word v0.0 v1.0 v2.0 v3.0 v4.0 v5.0 (omega arith) (omega (arith, is, v0.1, v1.1, v2.1, v3.1, v4.1, v5.1))

  seven_read : ((k : ℕ) → k < 7 → is_digit (get_or text k 0) ≡ true) → worth (lifted word 8) ≡ read text 7
  seven_read each =
      let v0 = value (get_or text 0 0) (each 0 (omega arith)) in
      let v1 = value (get_or text 1 0) (each 1 (omega arith)) in
      let v2 = value (get_or text 2 0) (each 2 (omega arith)) in
      let v3 = value (get_or text 3 0) (each 3 (omega arith)) in
      let v4 = value (get_or text 4 0) (each 4 (omega arith)) in
      let v5 = value (get_or text 5 0) (each 5 (omega arith)) in
      let v6 = value (get_or text 6 0) (each 6 (omega arith)) in
      let b7 = bytes 7 in
      seven (at 0) (at 1) (at 2) (at 3) (at 4) (at 5) (at 6) (get_or text 7 0) word v0.0 v1.0 v2.0 v3.0 v4.0 v5.0 v6.0 (omega arith) (omega (arith, is, v0.1, v1.1, v2.1, v3.1, v4.1, v5.1, v6.1))

  all_read : ((k : ℕ) → k < 8 → is_digit (get_or text k 0) ≡ true) → worth (lifted word 0) ≡ read text 8
  all_read each =
      let v0 = value (get_or text 0 0) (each 0 (omega arith)) in
      let v1 = value (get_or text 1 0) (each 1 (omega arith)) in
      let v2 = value (get_or text 2 0) (each 2 (omega arith)) in
      let v3 = value (get_or text 3 0) (each 3 (omega arith)) in
      let v4 = value (get_or text 4 0) (each 4 (omega arith)) in
      let v5 = value (get_or text 5 0) (each 5 (omega arith)) in
      let v6 = value (get_or text 6 0) (each 6 (omega arith)) in
      let v7 = value (get_or text 7 0) (each 7 (omega arith)) in
      all (at 0) (at 1) (at 2) (at 3) (at 4) (at 5) (at 6) (at 7) word v0.0 v1.0 v2.0 v3.0 v4.0 v5.0 v6.0 v7.0 (omega (arith, is, v0.1, v1.1, v2.1, v3.1, v4.1, v5.1, v6.1, v7.1))

  pub first_read : (n : ℕ) → 0 < n → n ≤ 8 → n ≤ length text → ((k : ℕ) → k < n → is_digit (get_or text k 0) ≡ true) → IsRead text n (worth (lifted word (64 - 8 * n)))
  first_read n some few within each = subst (IsRead text n) (sym (same n some few each)) (is_read text n within each)
    where
      same : (n : ℕ) → 0 < n → n ≤ 8 → ((k : ℕ) → k < n → is_digit (get_or text k 0) ≡ true) → worth (lifted word (64 - 8 * n)) ≡ read text n
      same zero some few each = absurd (omega arith)
      same (suc zero) some few each = one_read each
      same (suc (suc zero)) some few each = two_read each
      same (suc (suc (suc zero))) some few each = three_read each
      same (suc (suc (suc (suc zero)))) some few each = four_read each
      same (suc (suc (suc (suc (suc zero))))) some few each = five_read each
      same (suc (suc (suc (suc (suc (suc zero)))))) some few each = six_read each
      same (suc (suc (suc (suc (suc (suc (suc zero))))))) some few each = seven_read each
      same (suc (suc (suc (suc (suc (suc (suc (suc zero)))))))) some few each = all_read each
      same (suc (suc (suc (suc (suc (suc (suc (suc (suc n))))))))) some few each = absurd (omega arith)

-- ---- digits that stand in a line

pub once_read : (line bytes : List ℕ) (from end word : ℕ) → word ≡ from_le_bytes w64 bytes → ((k : ℕ) → Fits w8 (get_or line k 0)) → bytes ≡ take 8 (drop from line) → from < end → end - from ≤ 8 → end ≤ length line
    → ((k : ℕ) → from ≤ k → k < end → is_digit (get_or line k 0) ≡ true) → IsNumbered (drop from line) (worth (lifted word (64 - 8 * (end - from)))) (drop end line)
once_read line bytes from end word is fit cut some few within each =
    let text : List ℕ = drop from line in
    let long = length-drop from line in
    let small : (k : ℕ) → get_or text k 0 < 256 = λ k. subst (λ (x : ℕ). x < 256) (sym (get_or-drop from line k 0)) (fit (from + k)).fits in
    let same : (k : ℕ) → k < 8 → get_or bytes k 0 ≡ get_or text k 0 = λ k few. ap (λ (xs : List ℕ). get_or xs k 0) cut ∙ get_or-take 8 text k 0 few in
    let b0 = same 0 (omega arith) in
    let b1 = same 1 (omega arith) in
    let b2 = same 2 (omega arith) in
    let b3 = same 3 (omega arith) in
    let b4 = same 4 (omega arith) in
    let b5 = same 5 (omega arith) in
    let b6 = same 6 (omega arith) in
    let b7 = same 7 (omega arith) in
    let plain : from_le_bytes w64 bytes
    ≡ get_or bytes 0 0 + get_or bytes 1 0 * 2 ^ 8 + get_or bytes 2 0 * 2 ^ 16 + get_or bytes 3 0 * 2 ^ 24 + get_or bytes 4 0 * 2 ^ 32 + get_or bytes 5 0 * 2 ^ 40 + get_or bytes 6 0 * 2 ^ 48 + get_or bytes 7 0 * 2 ^ 56 = refl in
    let digit : (k : ℕ) → k < end - from → is_digit (get_or text k 0) ≡ true = λ k below. ap is_digit (get_or-drop from line k 0) ∙ each (from + k) (omega arith) (omega arith) in
    let number = first_read text word small (omega (arith, is, plain)) (end - from) (omega arith) few (omega arith) digit in
    numbered_at line from end _ (omega arith) (λ none. omega arith) (omega arith) within number
