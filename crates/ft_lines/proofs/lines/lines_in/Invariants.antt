use Rattle.std.proofs.Common.{◌≡◌, ◌++◌, length}
use Rattle.ft_lines.specs.Lines.{lines_from, text_lines}
use Rattle.ft_text.specs.Lines.{lines_of}
use Rattle.ft_lines.proofs.lines.lines_in.Given as goal

abbrev pub invariant-loop-line : goal.invariant-loop-line
invariant-loop-line l = l.lines.items ++ lines_from (length l.fn.text) l.start (lines_of l.rest) ≡ text_lines l.fn.text

abbrev pub decreases-loop-line : goal.decreases-loop-line
decreases-loop-line l = length l.rest
