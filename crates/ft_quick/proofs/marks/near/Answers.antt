use Rattle.std.proofs.Common.{arith}
use Rattle.ft_quick.proofs.Marked.{near_found}
use Rattle.ft_quick.proofs.marks.near.Goals as goal

pub returns-clause-until : goal.returns-clause-until
returns-clause-until c =
    (near_found c.args.line.now c.args.byte c.near_places-places.result c.args.at c.in_ok-len.len (omega arith) (rw c.bytes_at.ensures at c.near_places-places.ensures.marks) c.near_places-places.ensures.few c.in_ok-len.ensures).0

pub returns-clause-within : goal.returns-clause-within
returns-clause-within c =
    (near_found c.args.line.now c.args.byte c.near_places-places.result c.args.at c.in_ok-len.len (omega arith) (rw c.bytes_at.ensures at c.near_places-places.ensures.marks) c.near_places-places.ensures.few c.in_ok-len.ensures).1
