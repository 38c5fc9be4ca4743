use Rattle.std.proofs.Common.{rules}
use Rattle.ft_text.proofs.writing.write_signed.Goals as goal

pub returns-clause-ok : goal.returns-clause-ok
returns-clause-ok c = search rules
