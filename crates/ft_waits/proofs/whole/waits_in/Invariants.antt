use Rattle.std.proofs.Common.{take}
use Rattle.std.specs.List.{flat_map}
use Rattle.ft_waits.specs.Choice.{all_events}
use Rattle.ft_waits.specs.Streams.{HasRead}
use Rattle.ft_waits.proofs.whole.waits_in.Given as goal

abbrev pub invariant-loop-piece : goal.invariant-loop-piece
invariant-loop-piece l = HasRead (all_events l.fn.bad_lines) l.waits (flat_map (λ piece. piece.items) (take l.piece-index l.pieces)) l.dispatches.items
