-- What the lines of a text are, and where each ends.
use Rattle.std.specs.Prelude.{◌≡◌, ℕ, ◌+◌, min, List, [], ◌∷◌, length, take, drop, Result, Ok, Err}
use Rattle.ft_event.specs.Line.{line_of}
use Rattle.ft_event.specs.declared.fault.Line.{Line}
use Rattle.ft_event.specs.declared.fault.Line.TheVariants as lines
use Rattle.ft_event.specs.declared.fault.LineFault.{LineFault}
use Rattle.ft_fields.specs.Traced.{Traced, name_of}
use Rattle.ft_text.specs.Lines.{lines_of}
use Rattle.ft_lines.specs.declared.line.LineEvent.{LineEvent}
use Rattle.ft_lines.specs.declared.line.LineKind.{LineKind}
use Rattle.ft_lines.specs.declared.line.LineKind.TheVariants as kinds
use Rattle.ft_lines.specs.declared.line.TextLine.{TextLine}

-- when and on which CPU an event was, and its name
abbrev pub line_event : Traced → LineEvent
line_event event = record { stamp = event.stamp; cpu = event.cpu; name = name_of event.body }

-- what a line is, by how it reads
abbrev pub kind_of : Result Line LineFault → LineKind
kind_of (Ok (lines.Event event)) = kinds.Event (line_event event)
kind_of (Ok lines.Skip) = kinds.Skipped
kind_of (Err fault) = kinds.Bad fault

-- where a line ends that begins at this byte of a text of this size: behind its line break, or with the text
abbrev pub end_of : ℕ → ℕ → List ℕ → ℕ
end_of size start line = min size (start + length line + 1)

-- lines, the first of which begins at this byte of a text of this size
unfoldable pub lines_from : ℕ → ℕ → List (List ℕ) → List TextLine
lines_from size start [] = []
lines_from size start (line ∷ lines) = record { end = end_of size start line; kind = kind_of (line_of line) } ∷ lines_from size (end_of size start line) lines

-- the lines of a text
abbrev pub text_lines : List ℕ → List TextLine
text_lines text = lines_from (length text) 0 (lines_of text)

-- ---- what an end is for

-- a text that is cut at an end has these lines in front of it and these behind
pub record CutsAt (text : List ℕ) (before after : List (List ℕ)) (end : ℕ) : Type 0 where
  pub front : lines_of (take end text) ≡ before
  pub behind : lines_of (drop end text) ≡ after
