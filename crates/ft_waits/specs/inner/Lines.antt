-- What was read of the lines of a part, behind the lines before it.
use Rattle.std.specs.Prelude.{◌≡◌, ◌+◌, min, ℕ, List, ◌++◌, option_map}
use Rattle.std.specs.Option.{option_or}
use Rattle.ft_dispatch.specs.Joining.{AreOfTasks}
use Rattle.ft_dispatch.specs.declared.dispatch.Dispatch.{Dispatch}
use Rattle.ft_waits.specs.Joining.{Fit}
use Rattle.ft_waits.specs.Reading.{events_of}
use Rattle.ft_waits.specs.declared.fault.BadLine.{BadLine}
use Rattle.ft_waits.specs.declared.fault.LinesRead.{LinesRead}
use Rattle.ft_waits.specs.declared.reading.Reading.{Reading}
use Rattle.ft_waits.specs.inner.Known.{left_out_by}
use Rattle.ft_waits.specs.inner.Seams.{told_behind}
use Rattle.ft_waits.specs.inner.Starts.{most}
use Rattle.ft_waits.specs.inner.Streams.{choice_of, ReadsLines}

-- a line that can't be read, behind so many lines
abbrev pub bad_behind : ℕ → BadLine → BadLine
bad_behind lines bad = record { line = min (bad.line + lines) most; fault = bad.fault }

-- the lines of both
abbrev pub lines_with : LinesRead → LinesRead → LinesRead
lines_with before part = record { lines = min (before.lines + part.lines) most; bad = min (before.bad + part.bad) most; first = option_or before.first (option_map (bad_behind before.lines) part.first) }

-- the lines of both were read
abbrev pub JoinsReadings : Reading → Reading → List Dispatch → List Dispatch → Reading → List Dispatch → List Dispatch → Type 0
JoinsReadings old part out ones new out_now ones_now = (before own : List (List ℕ)) (told apart : List Dispatch) → ReadsLines old before (told ++ out) → ReadsLines part own apart
    → choice_of old ≡ choice_of part → Fit old part → AreOfTasks apart ones
    → ReadsLines new (own ++ before) ((told ++ out_now) ++ told_behind old.state.lines.items (left_out_by old.state.left_out.items) (events_of before) apart)
    × (ones_now ≡ told_behind old.state.lines.items (left_out_by old.state.left_out.items) (events_of before) ones) × (choice_of new ≡ choice_of old)
