-- How a reader finds the texts of a line's columns, from left to right.
use Rattle.std.specs.Prelude.{ℕ, ◌+◌, ◌*◌, ◌||◌, not, List, [], ◌∷◌, ◌++◌, length, Option, Some, None, ◌==◌, nat_lt, if◌then◌else◌, codes, unwrap_or}
use Rattle.std.specs.List.{list_any}
use Rattle.ft_event.specs.Bytes.{is_space, is_digit, is_colon, is_in_group}
use Rattle.ft_event.specs.LineIs.{Tail, Head}
use Rattle.ft_event.specs.Spans.{leading_run, leading_word, without_spaces, behind, limited_number}
use Rattle.ft_fields.specs.Traced.{last_second}

infixl 10 ◌>>=◌
-- the second step, on what the first one found
abbrev pub ◌>>=◌ : {A B : Type 0} → Option A → (A → Option B) → Option B
None >>= f = None
(Some x) >>= f = f x

-- what stands after GROUP and its spaces: `(`, any spaces, digits or `-`, `)`, spaces (kernel: ftrace.rst, the option record-tgid)
unfoldable pub behind_group : List ℕ → Option (List ℕ)
behind_group text = do
  inner ← behind (codes "(") text
  group ← leading_run is_in_group (without_spaces inner)
  close ← behind (codes ")") group.1
  gap ← leading_run is_space close
  Some gap.1

-- PID, spaces, perhaps GROUP, `[`, CPU, `]`, a space, and the rest (kernel: ftrace.rst, the trace output)
unfoldable pub tail_of : List ℕ → Option Tail
tail_of text = do
  pid ← leading_run is_digit text
  gap ← leading_run is_space pid.1
  bracket ← behind (codes "[") (unwrap_or (behind_group gap.1) gap.1)
  cpu ← leading_run is_digit bracket
  rest ← behind (codes "] ") cpu.1
  Some (record { pid = pid.0; cpu = cpu.0; rest = rest })

-- the head that ends at this `-`, or else a later one
abbrev pub head_from : Option Tail → Option Head → Option Head
head_from (Some tail) later = Some (record { task = []; tail = tail })
head_from None later = later

-- the head with a longer TASK
abbrev pub with_front : List ℕ → Option Head → Option Head
with_front front None = None
with_front front (Some head) = Some (record { task = front ++ head.task; tail = head.tail })

-- the head that ends at the first `-` with a tail
unfoldable pub head_of : List ℕ → Option Head
head_of [] = None
head_of (b ∷ bs) = if b == 45 then head_from (tail_of bs) (with_front (b ∷ []) (head_of bs)) else with_front (b ∷ []) (head_of bs)

-- the word that is STAMP: the first if it holds a `:`, else the one after LETTERS of at most 16 bytes (kernel: ftrace.rst, the option irq-info)
unfoldable pub stamp_word_of : List ℕ → Option (List ℕ × List ℕ)
stamp_word_of text =
    let first = leading_word (without_spaces text) in
    if list_any is_colon first.0 then Some first
    else (if nat_lt 16 (length first.0) then None else Some (leading_word (without_spaces first.1)))

-- the microseconds that STAMP says: SECONDS of up to ten digits, `.`, six digits, `:` (kernel: ftrace.rst, TIMESTAMP)
unfoldable pub micros_of : List ℕ → Option ℕ
micros_of word = do
  seconds ← leading_run is_digit word
  point ← behind (codes ".") seconds.1
  micros ← leading_run is_digit point
  end ← behind (codes ":") micros.1
  whole ← limited_number last_second seconds.0
  part ← limited_number 999999 micros.0
  if nat_lt 10 (length seconds.0) || not (length micros.0 == 6) || not (length end == 0) then None else Some (whole * 1000000 + part)

-- the event's stamp in microseconds, and what stands after STAMP (kernel: ftrace.rst, TIMESTAMP)
unfoldable pub stamp_of : List ℕ → Option (ℕ × List ℕ)
stamp_of text = do
  word ← stamp_word_of text
  micros ← micros_of word.0
  Some (micros, word.1)
