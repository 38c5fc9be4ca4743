use Rattle.ft_text.proofs.Spelled.{one_word}
use Rattle.ft_text.proofs.laws.one_word.Goals as goal

pub returns : goal.returns
returns c = one_word
