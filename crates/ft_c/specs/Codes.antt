-- Codes that no session gives. All of it is our own choice.
use Rattle.std.specs.Prelude.{ℕ}

-- the code of a call of a handle that holds nothing
abbrev pub closed : ℕ
closed = 255
