-- The size that a text writes, defined by what it is (kernel: histogram.rst, `size`).
use Rattle.std.specs.Prelude.{◌≡◌, ◌≤◌, ◌<◌, ◌^◌, ℕ, true, List, length}
use Rattle.std.specs.Char.{is_ascii_digit}
use Rattle.std.specs.Int.{IsPowerOfTwo}
use Rattle.std.specs.List.{list_all}
use Rattle.std.specs.Str.Parse.{digits_value}

-- the text is one or more decimal digits, and the size is the least power of 2 that is not below their number, from 128 to 131,072 (kernel: histogram.rst, `size`; that it is tested after rounding is our own choice)
pub record IsSize (text : List ℕ) (size : ℕ) : Type 0 where
  pub some : 0 < length text
  pub digits : list_all is_ascii_digit text ≡ true
  pub power : IsPowerOfTwo size
  pub reached : digits_value 10 text ≤ size
  pub least : (k : ℕ) → digits_value 10 text ≤ 2 ^ k → size ≤ 2 ^ k
  pub least_size : 128 ≤ size
  pub most_size : size ≤ 131072
