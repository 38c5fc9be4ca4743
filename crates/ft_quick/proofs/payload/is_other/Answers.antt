use Rattle.std.proofs.Common.{drop}
use Rattle.ft_quick.proofs.Others.{other_found}
use Rattle.ft_quick.proofs.payload.is_other.Goals as goal

pub returns-in-Some : goal.returns-in-Some
returns-in-Some c = λ told. other_found (drop c.args.at c.args.line.now) (drop c.in-Some.text c.args.line.now) c.in-Some.ensures.cut (c.is_unlabelled.ensures told)
