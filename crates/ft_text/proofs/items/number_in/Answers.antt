use Rattle.std.proofs.Common.{rules}
use Rattle.ft_text.specs.Items.{number_in}
use Rattle.ft_text.specs.Digits.{number_within}
use Rattle.ft_text.proofs.items.number_in.Goals as goal

pub returns-then-number-least-clause-value : goal.returns-then-number-least-clause-value
unfolding number_in number_within
returns-then-number-least-clause-value c = search rules
