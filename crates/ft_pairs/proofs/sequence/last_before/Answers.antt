use Rattle.std.proofs.Common.{sym}
use Rattle.ft_pairs.proofs.Beside.{last_none, last_some}
use Rattle.ft_pairs.proofs.sequence.last_before.Goals as goal

pub returns-in-None : goal.returns-in-None
returns-in-None c = last_none c.args.at c.args.places.now (sym c.in-None.ensures.before)

pub returns-in-Some : goal.returns-in-Some
returns-in-Some c = last_some c.args.at c.args.places.now (c.in-Some.last, c.in-Some.field-0-1) c.in-Some.ensures.ordered (sym c.in-Some.ensures.before)
