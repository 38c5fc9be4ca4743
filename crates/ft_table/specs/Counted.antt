-- What contracts see of a row.
use Rattle.std.specs.Prelude.{ℕ, List}
use Rattle.ft_fields.specs.declared.key.Part.{Part}

-- a row: a key, how often it was hit, and the sums of its hits' values (kernel: histogram.rst, the `hist` file)
pub record Counted : Type 0 where
  pub key : List Part
  pub hitcount : ℕ
  pub sums : List ℕ
