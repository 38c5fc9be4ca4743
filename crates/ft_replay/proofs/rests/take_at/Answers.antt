use Rattle.std.proofs.Common.{sym, arith}
use Rattle.ft_replay.proofs.Taking.{next_taken}
use Rattle.ft_replay.proofs.rests.take_at.Goals as goal

pub returns : goal.returns
returns c = next_taken c.args.rests.now.items c.args.index _ _ c.next.new.self c.next.result (omega arith) (sym c.index_mut.ensures.value) c.next.ensures.steps
