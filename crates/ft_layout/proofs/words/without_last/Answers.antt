use Rattle.std.proofs.Common.{rules}
use Rattle.ft_layout.proofs.words.without_last.Goals as goal

pub returns : goal.returns
returns c = search rules
