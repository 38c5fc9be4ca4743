use Rattle.std.proofs.Common.{◌≡◌, ◌+◌, ◌≤◌, length}
use Rattle.ft_text.specs.Lines.{lines_of}
use Rattle.ft_desk_core.specs.Edits.{events_of, events_from}
use Rattle.ft_desk_core.specs.inner.Reading.{in_front}
use Rattle.ft_desk_core.proofs.events.events_in.Given as goal

abbrev pub invariant-loop-line : goal.invariant-loop-line
invariant-loop-line l = record {
  same : in_front l.events (events_from l.number (lines_of l.rest)) ≡ events_of l.fn.text;
  counted : l.number + length l.rest ≤ length l.fn.text + 1;
}

abbrev pub decreases-loop-line : goal.decreases-loop-line
decreases-loop-line l = length l.rest
