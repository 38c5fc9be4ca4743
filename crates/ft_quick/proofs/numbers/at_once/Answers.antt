use Rattle.std.proofs.lemmas.List.{take_rest}
use Rattle.ft_quick.proofs.Eight.{once_read}
use Rattle.ft_quick.proofs.numbers.at_once.Goals as goal

pub returns : goal.returns
returns c = once_read c.args.line.now c.in_ok-bytes.bytes.now c.args.from c.args.end c.from_le_bytes.result c.from_le_bytes.ensures c.type_inv.line (rw take_rest at c.in_ok-bytes.ensures.cases.0) c.requires.some c.if-count-gt8.false c.requires.within c.requires.digits
