use Rattle.std.proofs.Common.{rules}
use Rattle.ft_text.specs.Items.{word_of}
use Rattle.ft_text.proofs.items.word_of.Goals as goal

pub returns-in-Some : goal.returns-in-Some
unfolding word_of
returns-in-Some c = search rules
