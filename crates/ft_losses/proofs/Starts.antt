-- What the order of beginnings says of CPUs and stamps.
use Rattle.std.specs.Prelude.{◌≡◌, ◌≢◌, ℕ, suc, ◌<◌, ◌≤◌, ◌==◌, true, false, Option, Some, None}
use Rattle.std.specs.Bool.{MatchBool}
use Rattle.std.specs.Cmp.{ranks}
use Rattle.std.specs.Option.{option_cmp, option_eq}
use Rattle.std.specs.Ordering.{nat_cmp, is_lt, ordering_then, MatchOrdering}
use Rattle.std.specs.declared.cmp.Ordering.{Ordering}
use Rattle.std.specs.declared.cmp.Ordering.TheVariants.{Less, Equal, Greater}
use Rattle.std.proofs.Common.{refl, ap, arith, inl, inr, ◌⊎◌}
use Rattle.std.proofs.lemmas.Bool.{eqb-true, eqb-false, eq-eqb, lt-ltb, le-ltb}
use Rattle.ft_losses.specs.Doubt.{begins_before}
use Rattle.ft_losses.specs.inner.Stretches.{start_cmp}
use Rattle.ft_losses.specs.declared.stretches.Start.{Start}

-- ---- options in order

-- none comes first
abbrev pub rank : Option ℕ → ℕ
rank None = 0
rank (Some n) = suc n

next_ranks : (r : Ordering) (x y : ℕ) → MatchOrdering r (x < y) (x ≡ y) (y < x) → MatchOrdering r (suc x < suc y) (suc x ≡ suc y) (suc y < suc x)
next_ranks Less x y h = omega arith
next_ranks Equal x y h = ap suc h
next_ranks Greater x y h = omega arith

pub option_ranks : (a b : Option ℕ) → MatchOrdering (option_cmp nat_cmp a b) (rank a < rank b) (rank a ≡ rank b) (rank b < rank a)
option_ranks None None = refl
option_ranks None (Some y) = omega arith
option_ranks (Some x) None = omega arith
option_ranks (Some x) (Some y) = next_ranks (nat_cmp x y) x y (ranks x y)

-- equal options
pub same-option : (a b : Option ℕ) → option_eq ◌==◌ a b ≡ true → a ≡ b
same-option None None h = refl
same-option None (Some y) h = absurd (cc)
same-option (Some x) None h = absurd (cc)
same-option (Some x) (Some y) h = ap Some (eqb-true x y h)

pub other-option : (a b : Option ℕ) → option_eq ◌==◌ a b ≡ false → rank a ≢ rank b
other-option None None h = absurd (cc)
other-option None (Some y) h = λ same. absurd (omega arith)
other-option (Some x) None h = λ same. absurd (omega arith)
other-option (Some x) (Some y) h = λ same. eqb-false x y h (omega arith)

pub option-self : (a : Option ℕ) → option_eq ◌==◌ a a ≡ true
option-self None = refl
option-self (Some x) = eq-eqb x x refl

-- ---- beginnings in order

-- one comes before another
abbrev pub Before : Start → Start → Type 0
Before a b = (rank a.cpu < rank b.cpu) ⊎ ((rank a.cpu ≡ rank b.cpu) × (rank a.after < rank b.after))

-- or it doesn't
abbrev pub NotBefore : Start → Start → Type 0
NotBefore a b = (rank b.cpu < rank a.cpu) ⊎ ((rank a.cpu ≡ rank b.cpu) × (rank b.after ≤ rank a.after))

either : (r s : Ordering) (x y u v : ℕ) → MatchOrdering r (x < y) (x ≡ y) (y < x) → MatchOrdering s (u < v) (u ≡ v) (v < u) → MatchBool (is_lt (ordering_then r s)) ((x < y) ⊎ ((x ≡ y) × (u < v))) ((y < x) ⊎ ((x ≡ y) × (v ≤ u)))
either Less s x y u v h k = inl h
either Equal Less x y u v h k = inr (h, k)
either Equal Equal x y u v h k = inr (h, omega arith)
either Equal Greater x y u v h k = inr (h, omega arith)
either Greater s x y u v h k = inl h

pub starts : (a b : Start) → MatchBool (is_lt (start_cmp a b)) (Before a b) (NotBefore a b)
starts a b = either (option_cmp nat_cmp a.cpu b.cpu) (option_cmp nat_cmp a.after b.after) (rank a.cpu) (rank b.cpu) (rank a.after) (rank b.after) (option_ranks a.cpu b.cpu) (option_ranks a.after b.after)

pub before-from : (a b : Start) → is_lt (start_cmp a b) ≡ true → Before a b
before-from a b h = rw h at (starts a b)

pub not_before-from : (a b : Start) → is_lt (start_cmp a b) ≡ false → NotBefore a b
not_before-from a b h = rw h at (starts a b)

-- ---- a stamp that is before another

pub begins-early : (after : Option ℕ) (ended : ℕ) → rank after < suc ended → begins_before after ended ≡ true
begins-early None ended h = refl
begins-early (Some stamp) ended h = lt-ltb stamp ended (omega arith)

pub begins-late : (after : Option ℕ) (ended : ℕ) → suc ended ≤ rank after → begins_before after ended ≡ false
begins-late None ended h = absurd (omega arith)
begins-late (Some stamp) ended h = le-ltb stamp ended (omega arith)
