-- What a line without an event reports of lost events: cuts of the whole line, and the numbers that they write (kernel: ftrace.rst, the trace output).
use Rattle.std.specs.Prelude.{◌≡◌, ◌≤◌, ℕ, List, [], ◌++◌, Option, Some, None, codes}
use Rattle.std.specs.Str.Parse.{digits_value}
use Rattle.ft_event.specs.Bytes.{is_digit}
use Rattle.ft_event.specs.LineIs.{IsDigits, Stops}
use Rattle.ft_event.specs.declared.mark.Mark.{Mark}
use Rattle.ft_event.specs.declared.mark.Mark.TheVariants as marks
use Rattle.ft_fields.specs.Traced.{last_cpu}

-- the largest count, 2^64 - 1 (our own choice: a larger one makes no mark)
abbrev pub last_count : ℕ
last_count = 18446744073709551615

-- one or more digits that write the number, which is within the limit
pub record Writes (limit : ℕ) (digits : List ℕ) (n : ℕ) : Type 0 where
  pub shape : IsDigits digits
  pub value : n ≡ digits_value 10 digits
  pub within : n ≤ limit

-- the count and a space, or nothing if the kernel knows no count (kernel: ftrace.rst, the count of lost events)
abbrev pub CountIs : List ℕ → Option ℕ → Type 0
CountIs column None = column ≡ []
CountIs column (Some count) = (digits : List ℕ) × (column ≡ digits ++ codes " ") × Writes last_count digits count

-- the line is `CPU:`, CPU, ` [LOST `, perhaps a count, `EVENTS]` (kernel: ftrace.rst, events that a full buffer lost)
pub record ReportsLost (line : List ℕ) (cpu : ℕ) (count : Option ℕ) : Type 0 where
  pub digits : List ℕ
  pub column : List ℕ
  pub joined : line ≡ codes "CPU:" ++ digits ++ codes " [LOST " ++ column ++ codes "EVENTS]"
  pub cpu_is : Writes last_cpu digits cpu
  pub count_is : CountIs column count

-- the line is `##### CPU `, CPU, ` buffer started ####` (kernel: trace.c, test_cpu_buff_start)
pub record ReportsStart (line : List ℕ) (cpu : ℕ) : Type 0 where
  pub digits : List ℕ
  pub joined : line ≡ codes "##### CPU " ++ digits ++ codes " buffer started ####"
  pub cpu_is : Writes last_cpu digits cpu

-- the line is `# CPU `, CPU, `: `, a count, ` events overwritten` (our own choice: `tools/record` writes what the kernel counts in `per_cpu`)
pub record ReportsOverwritten (line : List ℕ) (cpu count : ℕ) : Type 0 where
  pub digits : List ℕ
  pub column : List ℕ
  pub joined : line ≡ codes "# CPU " ++ digits ++ codes ": " ++ column ++ codes " events overwritten"
  pub cpu_is : Writes last_cpu digits cpu
  pub count_is : Writes last_count column count

-- the line is `# entries-in-buffer/entries-written: `, a count, `/`, a count, and what begins with no digit (kernel: ftrace.rst, the header)
pub record ReportsWritten (line : List ℕ) (held written : ℕ) : Type 0 where
  pub first : List ℕ
  pub second : List ℕ
  pub rest : List ℕ
  pub joined : line ≡ codes "# entries-in-buffer/entries-written: " ++ first ++ codes "/" ++ second ++ rest
  pub held_is : Writes last_count first held
  pub written_is : Writes last_count second written
  pub ends : Stops is_digit rest

-- the line is this mark
abbrev pub MarkIs : List ℕ → Mark → Type 0
MarkIs line (marks.Lost cpu count) = ReportsLost line cpu count
MarkIs line (marks.Started cpu) = ReportsStart line cpu
MarkIs line (marks.Overwritten cpu count) = ReportsOverwritten line cpu count
MarkIs line (marks.Written held written) = ReportsWritten line held written
