-- The number that digits write.
use Rattle.std.specs.Prelude.{ℕ, ◌&&◌, List, Option, Some, None, nat_le, if◌then◌else◌}
use Rattle.std.specs.List.{list_all}
use Rattle.std.specs.Char.{is_ascii_digit}
use Rattle.std.specs.Str.Parse.{digits_value}

-- the number that digits write, if it is within the limit
unfoldable pub number_within : ℕ → List ℕ → Option ℕ
number_within limit text =
    if list_all is_ascii_digit text && nat_le (digits_value 10 text) limit then Some (digits_value 10 text) else None
