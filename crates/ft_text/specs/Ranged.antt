-- Numbers as they are read: of 64 bits with a sign, or out of range.
use Rattle.std.specs.Prelude.{ℕ, Bool, List, ℤ, pos, negsuc, nat_le, Option, option_map, if◌then◌else◌}
use Rattle.ft_text.specs.declared.number.Number.{Number}
use Rattle.ft_text.specs.declared.number.Number.TheVariants.{InRange, OutOfRange}

-- a signed number of 64 bits
abbrev pub fits_i64 : ℤ → Bool
fits_i64 (pos n) = nat_le n 9223372036854775807
fits_i64 (negsuc n) = nat_le n 9223372036854775807

-- a number as its reader gives it
abbrev pub ranged : ℤ → Number
ranged number = if fits_i64 number then InRange number else OutOfRange

-- a number and what is after it, as the reader gives them
abbrev pub ranged_at : Option (ℤ × List ℕ) → Option (Number × List ℕ)
ranged_at = option_map (λ found. (ranged found.0, found.1))
