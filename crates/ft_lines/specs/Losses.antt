-- Where events were lost, as the lines of a text report it.
use Rattle.std.specs.Prelude.{ℕ, List, reverse}
use Rattle.ft_losses.specs.Notes.{Note, AreNotes}
use Rattle.ft_losses.specs.Telling.{AreLosses}
use Rattle.ft_losses.specs.declared.losses.LossesRead.{LossesRead}
use Rattle.ft_text.specs.Lines.{lines_of}

-- the losses of a text are those that its lines report, whatever the order of their stamps
pub record AreLossesOf (text : List ℕ) (read : LossesRead) : Type 0 where
  pub notes : List Note
  pub noted : AreNotes (reverse (lines_of text)) notes
  pub losses : AreLosses notes read
