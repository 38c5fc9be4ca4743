use Rattle.std.proofs.Common.{◌≡◌, length}
use Rattle.ft_waits.specs.inner.Streams.{choice_of, ReadsOn}
use Rattle.ft_waits.proofs.pieces.take_lines.Given as goal

abbrev pub invariant-loop-line : goal.invariant-loop-line
invariant-loop-line l = record {
  reads : ReadsOn l.fn.reading l.fn.out.items l.fn.text l.reading l.out.items l.rest;
  choice : choice_of l.reading ≡ choice_of l.fn.reading;
}

abbrev pub decreases-loop-line : goal.decreases-loop-line
decreases-loop-line l = length l.rest
