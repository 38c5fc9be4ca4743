-- What contracts see of a row as a text.
use Rattle.std.specs.Prelude.{ℕ, List}
use Rattle.ft_fields.specs.declared.key.Part.{Part}

-- a row as its key and its text
pub record KeyedText : Type 0 where
  pub key : List Part
  pub text : List ℕ
