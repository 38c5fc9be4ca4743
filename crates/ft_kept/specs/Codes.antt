-- How the logic stores what contracts see.
use Rattle.std.specs.Coded.{Coded, coded_ℕ}
use Rattle.std.specs.FinMap as map
use Rattle.ft_shelves.specs.Shelves.{shelved_code, Shelves}

-- shelves, stored as a list by id
abbrev pub shelves_code : Coded Shelves
shelves_code = map.code coded_ℕ shelved_code
