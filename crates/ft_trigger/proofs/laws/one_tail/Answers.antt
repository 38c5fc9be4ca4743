use Rattle.ft_trigger.proofs.Shaped.{one_tail}
use Rattle.ft_trigger.proofs.laws.one_tail.Goals as goal

pub returns : goal.returns
returns c = one_tail (record { some = c.one_answer.ensures.some; one = c.one_answer.ensures.one })
