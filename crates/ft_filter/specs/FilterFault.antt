-- The numbers and places of what may be wrong with a filter's text.
use Rattle.std.specs.Prelude.{ℕ, Option, Some, None}
use Rattle.ft_filter.specs.declared.fault.FilterFault.{FilterFault}
use Rattle.ft_filter.specs.declared.fault.FilterFault.TheVariants.{Memory, Syntax, NoField, WrongKind, BadGlob, NumberRange, TooDeep}

-- the number that a refusal prints
abbrev pub filter_number : FilterFault → ℕ
filter_number Memory = 1
filter_number (Syntax place) = 2
filter_number (NoField place) = 3
filter_number (WrongKind place) = 4
filter_number (BadGlob place) = 5
filter_number (NumberRange place) = 6
filter_number TooDeep = 7

-- the byte that it is at, if it has a place
abbrev pub filter_place : FilterFault → Option ℕ
filter_place Memory = None
filter_place (Syntax place) = Some place
filter_place (NoField place) = Some place
filter_place (WrongKind place) = Some place
filter_place (BadGlob place) = Some place
filter_place (NumberRange place) = Some place
filter_place TooDeep = None
