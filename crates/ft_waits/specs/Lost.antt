-- What was lost of a text. Notes and events stand newest first.
use Rattle.std.specs.Prelude.{◌≡◌, List}
use Rattle.ft_dispatch.specs.declared.showing.Showing.{Showing}
use Rattle.ft_fields.specs.Traced.{Traced}
use Rattle.ft_losses.specs.Holes.{holes, buffers, is_told}
use Rattle.ft_losses.specs.Notes.{Note}
use Rattle.ft_losses.specs.declared.losses.LossesRead.{LossesRead}
use Rattle.ft_windows.specs.Windows.{with_windows}

-- the holes are those that lines report, and those that no line reports, by all events and by what acts show: none before the first event of a CPU of which a line tells how many events were overwritten; and how the buffers begin
pub record AreAllLosses (notes : List Note) (events : List Traced) (shown : List Showing) (read : LossesRead) : Type 0 where
  pub holes : read.holes.items ≡ with_windows (λ cpu. is_told cpu notes) (holes notes) events shown
  pub buffers : read.buffers ≡ buffers notes
