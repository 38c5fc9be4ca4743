-- What contracts see of a board, however it keeps its tables.
use Rattle.std.specs.Prelude.{Bool}
use Rattle.ft_hist.specs.Steps.{Steps}
use Rattle.ft_base.specs.Base.{Base}

-- what is held and attached; whether the kept tables lack an edit, so that the next answer rebuilds them; whether the board keeps tables at all; and how many steps it has taken
pub record Shown : Type 0 where
  pub base : Base
  pub deferred : Bool
  pub keeps : Bool
  pub steps : Steps
