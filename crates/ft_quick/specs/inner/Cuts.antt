-- Cuts of a text from the left.
use Rattle.std.specs.Prelude.{◌≡◌, ◌<◌, ℕ, List, ◌∷◌, ◌++◌, Contains, ℤ, FitsSigned}
use Rattle.std.specs.Int.{w32}
use Rattle.std.specs.Str.Parse.{digits_value}
use Rattle.ft_event.specs.Bytes.{is_space}
use Rattle.ft_event.specs.LineIs.{IsSpaces, IsDigits, NumberIs, Stops}

-- the text is spaces, and a rest that begins with none
pub record IsSkip (text rest : List ℕ) : Type 0 where
  pub gap : List ℕ
  pub joined : text ≡ gap ++ rest
  pub spaces : IsSpaces gap
  pub stops : Stops is_space rest

-- the text is digits, which write this number of at most nine digits, and a rest
pub record IsNumbered (text : List ℕ) (n : ℕ) (rest : List ℕ) : Type 0 where
  pub digits : List ℕ
  pub joined : text ≡ digits ++ rest
  pub are : IsDigits digits
  pub value : n ≡ digits_value 10 digits
  pub below : n < 1000000000

-- the text is a number, perhaps with a `-`, and a rest
pub record IsSigned (text : List ℕ) (z : ℤ) (rest : List ℕ) : Type 0 where
  pub number : List ℕ
  pub joined : text ≡ number ++ rest
  pub is : NumberIs number z
  pub fits : FitsSigned w32 z

-- the byte stands between the two texts, and not in the first of them
pub record IsUntil (byte : ℕ) (text front rest : List ℕ) : Type 0 where
  pub joined : text ≡ front ++ byte ∷ rest
  pub first : Contains front byte → ⊥
