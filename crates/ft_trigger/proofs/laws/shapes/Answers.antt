use Rattle.ft_trigger.proofs.Shaped.{shaped}
use Rattle.ft_trigger.proofs.laws.shapes.Goals as goal

pub returns : goal.returns
returns c = shaped (record { some = c.one_answer.ensures.some; one = c.one_answer.ensures.one })
