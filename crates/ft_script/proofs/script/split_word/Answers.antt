use Rattle.std.proofs.Common.{arith}
use Rattle.std.proofs.lemmas.List.Sums.{prefix_len-le-length}
use Rattle.ft_script.specs.Script.{is_in_word, after_word}
use Rattle.ft_script.proofs.WordLemmas.{drop_while_is}
use Rattle.ft_script.proofs.script.split_word.Goals as goal

pub split_at-requires : goal.split_at-requires
split_at-requires c = omega (arith, c.word_len.ensures, prefix_len-le-length is_in_word c.args.text.now)

pub returns-clause-rest : goal.returns-clause-rest
unfolding after_word
returns-clause-rest c = let whole = drop_while_is is_in_word c.args.text.now in cc
