-- Lines of a text, and what they report lost, as C has them. All of it is our own choice.
use Rattle.std.specs.Prelude.{ℕ, length, is_some, unwrap_or}
use Rattle.ft_event.specs.LineFault.{line_number}
use Rattle.ft_layout.specs.Names.{name_number}
use Rattle.ft_losses.specs.declared.hole.Buffers.{Buffers}
use Rattle.ft_losses.specs.declared.losses.LossesRead.{LossesRead}
use Rattle.ft_lines.specs.declared.layouts.LossesLayout.{LossesLayout}
use Rattle.ft_lines.specs.declared.layouts.TextLineLayout.{TextLineLayout}
use Rattle.ft_lines.specs.declared.line.LineKind.{LineKind}
use Rattle.ft_lines.specs.declared.line.LineKind.TheVariants as kinds
use Rattle.ft_lines.specs.declared.line.TextLine.{TextLine}

-- ---- lines

-- the number in place of an event's name, for a line that is skipped
abbrev pub skipped : ℕ
skipped = 253

-- the same for a line that can't be read
abbrev pub bad : ℕ
bad = 254

-- a line without an event
abbrev pub no_event : ℕ → ℕ → ℕ → TextLineLayout
no_event end event fault = record { end = end; stamp = 0; cpu = 0; event = event; fault = fault; zero = 0 }

-- a line that ends there, by what it is
abbrev pub kind_layout : ℕ → LineKind → TextLineLayout
kind_layout end (kinds.Event event) = record { end = end; stamp = event.stamp; cpu = event.cpu; event = name_number event.name; fault = 0; zero = 0 }
kind_layout end kinds.Skipped = no_event end skipped 0
kind_layout end (kinds.Bad fault) = no_event end bad (line_number fault)

-- a line
abbrev pub text_line_layout : TextLine → TextLineLayout
text_line_layout line = kind_layout line.end line.kind

-- ---- losses

-- what a text without the kernel's header reports of the buffers
abbrev pub no_buffers : Buffers
no_buffers = record { held = 0; written = 0 }

-- how many holes there are, and what the kernel's header counts
abbrev pub losses_layout : LossesRead → LossesLayout
losses_layout read = record {
  holes = length read.holes.items;
  held = (unwrap_or read.buffers no_buffers).held;
  written = (unwrap_or read.buffers no_buffers).written;
  has_written = is_some read.buffers;
}
