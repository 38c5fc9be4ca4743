use Rattle.std.proofs.Common.{◌≡◌, ◌+◌, drop}
use Rattle.std.specs.List.{prefix_len}
use Rattle.ft_text.specs.inner.Words.{word_test}
use Rattle.ft_text.proofs.words.front_len.Given as goal

abbrev pub invariant-loop-at : goal.invariant-loop-at
invariant-loop-at l = l.at + prefix_len (word_test l.class) (drop l.at l.text) ≡ prefix_len (word_test l.class) l.text
