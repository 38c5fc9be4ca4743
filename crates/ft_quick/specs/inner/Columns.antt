-- The columns of a line, cut from the left (kernel: ftrace.rst, the trace output).
use Rattle.std.specs.Prelude.{◌≡◌, ◌⊎◌, ◌≤◌, ◌<◌, ℕ, ◌+◌, Bool, false, ◌&&◌, ◌==◌, List, [], ◌∷◌, ◌++◌, length, slice_index, codes}
use Rattle.ft_event.specs.Bytes.{is_digit, is_space, is_colon}
use Rattle.ft_event.specs.LineIs.{IsSpaces, IsGap, IsLetters, IsLost}
use Rattle.ft_quick.specs.declared.columns.Columns.{Columns}
use Rattle.ft_quick.specs.inner.Cuts.{IsNumbered}
use Rattle.ft_quick.specs.inner.Marks.{IsMarks}

-- whether a `-` stands here that a digit follows (our own choice: a task's name may hold `-`)
abbrev pub ends_task : List ℕ → ℕ → Bool
ends_task text at = slice_index text at == 45 && is_digit (slice_index text (at + 1))

-- the line is short enough, and neither a comment nor one of lost events
pub record IsEventLine (line : List ℕ) : Type 0 where
  pub short : length line ≤ 4096
  pub comment : slice_index line 0 ≡ 35 → ⊥
  pub lost : IsLost line → ⊥

-- TASK, a `-`, and the rest; no `-` in TASK has a digit after it (our own choice: a task's name may hold `-`)
pub record IsTask (text task rest : List ℕ) : Type 0 where
  pub joined : text ≡ task ++ 45 ∷ rest
  pub first : (at : ℕ) → at < length task → ends_task text at ≡ false

-- PID, spaces, `[`, CPU, `] ` and the rest (kernel: ftrace.rst, the trace output)
pub record IsTail (text : List ℕ) (pid cpu : ℕ) (rest : List ℕ) : Type 0 where
  pub from_gap : List ℕ
  pub from_cpu : List ℕ
  pub gap : List ℕ
  pub from_close : List ℕ
  pub pid_is : IsNumbered text pid from_gap
  pub gap_is : IsGap gap
  pub gap_joined : from_gap ≡ gap ++ codes "[" ++ from_cpu
  pub cpu_is : IsNumbered from_cpu cpu from_close
  pub close : from_close ≡ codes "] " ++ rest
  pub within : cpu ≤ 8191

-- spaces, perhaps LETTERS, and the rest (kernel: ftrace.rst, irqs-off, need-resched and the like)
pub record IsLettered (text rest : List ℕ) : Type 0 where
  pub gap : List ℕ
  pub column : List ℕ
  pub joined : text ≡ gap ++ column ++ rest
  pub before : IsSpaces gap
  pub letters : (column ≡ []) ⊎ IsLetters column

-- each kind of byte is marked where it stands in the line's first 64 bytes
pub record AreMarked (columns : Columns) : Type 0 where
  pub spaces : IsMarks (λ k. is_space (slice_index columns.line.now k)) columns.spaces
  pub digits : IsMarks (λ k. is_digit (slice_index columns.line.now k)) columns.digits
  pub dashes : IsMarks (λ k. slice_index columns.line.now k == 45) columns.dashes
  pub colons : IsMarks (λ k. is_colon (slice_index columns.line.now k)) columns.colons
