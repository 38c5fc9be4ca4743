use Rattle.std.proofs.Common.{to_z, of_z, w32}
use Rattle.std.proofs.lemmas.Int.{to_z-of_z}
use Rattle.ft_pids.proofs.Written.{written}
use Rattle.ft_pids.proofs.numbers.put_other.Goals as goal

pub returns : goal.returns
returns c = λ q. written c.args.others.now c.insert.new.self (to_z w32 (of_z w32 c.args.pid)) c.args.pid q c.args.number (to_z-of_z w32 c.args.pid c.ranges.pid) (c.in_ok-insert.ensures.updates.0 (record { pid = q }))
