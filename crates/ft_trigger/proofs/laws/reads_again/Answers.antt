use Rattle.ft_trigger.proofs.ReadAgain.{reads_again}
use Rattle.ft_trigger.proofs.laws.reads_again.Goals as goal

pub returns : goal.returns
returns c = reads_again (record { answers = record { some = c.one_answer.ensures.some; one = c.one_answer.ensures.one }; again = c.reads_again.ensures })
