use Rattle.ft_text.proofs.SameReading.{same_items}
use Rattle.ft_text.proofs.laws.one_reading.Goals as goal

pub returns : goal.returns
returns c = λ pattern items other. same_items items other pattern
