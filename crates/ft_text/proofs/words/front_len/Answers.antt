use Rattle.std.proofs.Common.{arith}
use Rattle.std.proofs.lemmas.List.Sums.{prefix_len-drop_yes, prefix_len-drop_no, prefix_len-drop_all}
use Rattle.ft_text.proofs.words.front_len.Goals as goal

pub returns-then-not-has : goal.returns-then-not-has
returns-then-not-has c = grind (arith, prefix_len-drop_no)

pub loop-at-preserved : goal.loop-at-preserved
loop-at-preserved c = grind (arith, prefix_len-drop_yes)

pub returns : goal.returns
returns c = grind (arith, prefix_len-drop_all)
