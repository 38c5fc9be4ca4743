use Rattle.ft_trigger.proofs.Shaped.{head_first, tail_then}
use Rattle.ft_trigger.proofs.laws.heads_first.Goals as goal

pub returns : goal.returns
returns c = record { fault = head_first; tail = tail_then (record { some = c.one_answer.ensures.some; one = c.one_answer.ensures.one }) }
