use Rattle.std.proofs.Common.{rules}
use Rattle.ft_text.proofs.items.Word.suffix.Goals as goal

pub returns : goal.returns
returns c = search rules
