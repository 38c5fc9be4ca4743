use Rattle.ft_desk.proofs.Written.{in_order, of_script}
use Rattle.ft_desk.proofs.laws.what_runs_write.Goals as goal

pub returns-clause-lines : goal.returns-clause-lines
returns-clause-lines c = in_order

pub returns-clause-script : goal.returns-clause-script
returns-clause-script c = of_script
