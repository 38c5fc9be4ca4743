-- How a reader finds the mark that a line is, from left to right.
use Rattle.std.specs.Prelude.{ℕ, List, Option, Some, None, codes, if◌then◌else◌}
use Rattle.ft_event.specs.Bytes.{is_digit}
use Rattle.ft_event.specs.Columns.{◌>>=◌}
use Rattle.ft_event.specs.Marks.{last_count}
use Rattle.ft_event.specs.Skipped.{is_at_end}
use Rattle.ft_event.specs.Spans.{leading_run, behind, limited_number}
use Rattle.ft_event.specs.declared.mark.Mark.{Mark}
use Rattle.ft_event.specs.declared.mark.Mark.TheVariants as marks
use Rattle.ft_fields.specs.Traced.{last_cpu}

-- the number that the text's first digits write, and what is after them
unfoldable pub leading_number : ℕ → List ℕ → Option (ℕ × List ℕ)
leading_number limit text = do
  digits ← leading_run is_digit text
  n ← limited_number limit digits.0
  Some (n, digits.1)

-- a count and a space
unfoldable pub spaced_count : List ℕ → Option (ℕ × List ℕ)
spaced_count text = do
  count ← leading_number last_count text
  rest ← behind (codes " ") count.1
  Some (count.0, rest)

-- the count that was found, or no count
abbrev pub count_or_none : Option (ℕ × List ℕ) → List ℕ → Option ℕ × List ℕ
count_or_none None text = (None, text)
count_or_none (Some count) text = (Some count.0, count.1)

-- the mark, if the text is the label and nothing more
abbrev pub closed_by : List ℕ → List ℕ → Mark → Option Mark
closed_by label text mark = if is_at_end (behind label text) then Some mark else None

-- `CPU:`, CPU, ` [LOST `, perhaps a count, `EVENTS]`
unfoldable pub lost_of : List ℕ → Option Mark
lost_of line = do
  front ← behind (codes "CPU:") line
  cpu ← leading_number last_cpu front
  rest ← behind (codes " [LOST ") cpu.1
  let column = count_or_none (spaced_count rest) rest in closed_by (codes "EVENTS]") column.1 (marks.Lost cpu.0 column.0)

-- `##### CPU `, CPU, ` buffer started ####`
unfoldable pub started_of : List ℕ → Option Mark
started_of line = do
  front ← behind (codes "##### CPU ") line
  cpu ← leading_number last_cpu front
  closed_by (codes " buffer started ####") cpu.1 (marks.Started cpu.0)

-- `# CPU `, CPU, `: `, a count, ` events overwritten`
unfoldable pub overwritten_of : List ℕ → Option Mark
overwritten_of line = do
  front ← behind (codes "# CPU ") line
  cpu ← leading_number last_cpu front
  rest ← behind (codes ": ") cpu.1
  count ← leading_number last_count rest
  closed_by (codes " events overwritten") count.1 (marks.Overwritten cpu.0 count.0)

-- `# entries-in-buffer/entries-written: `, a count, `/`, a count
unfoldable pub written_of : List ℕ → Option Mark
written_of line = do
  front ← behind (codes "# entries-in-buffer/entries-written: ") line
  held ← leading_number last_count front
  rest ← behind (codes "/") held.1
  written ← leading_number last_count rest
  Some (marks.Written held.0 written.0)

-- the first mark that was found
abbrev pub first_of : Option Mark → Option Mark → Option Mark
first_of (Some mark) later = Some mark
first_of None later = later

-- the mark that the line is
unfoldable pub mark_of : List ℕ → Option Mark
mark_of line = first_of (lost_of line) (first_of (started_of line) (first_of (overwritten_of line) (written_of line)))
