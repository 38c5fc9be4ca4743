use Rattle.std.proofs.Common.{◌≡◌, ◌++◌, take, drop, map}
use Rattle.ft_fields.specs.Borrowed.{event_told}
use Rattle.ft_waits.specs.LeftOut.{is_left_out}
use Rattle.ft_waits.specs.inner.Known.{left_out_by, with_event}
use Rattle.ft_waits.proofs.left_out.count_left_out.Given as goal

-- the first of them have counted the event, and the others are as they were
abbrev pub invariant-loop-number : goal.invariant-loop-number
invariant-loop-number l = record {
  counts : l.all.items ≡ map (with_event (event_told l.event)) (take l.number l.fn.all.items) ++ drop l.number l.fn.all.items;
  left_out : l.is_out ≡ is_left_out (left_out_by (take l.number l.fn.all.items)) (event_told l.event);
}
