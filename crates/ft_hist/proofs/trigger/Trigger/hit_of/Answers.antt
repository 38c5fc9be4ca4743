use Rattle.std.proofs.Common.{rules}
use Rattle.ft_hist.proofs.trigger.Trigger.hit_of.Goals as goal

pub returns-then-passes-clause-evals : goal.returns-then-passes-clause-evals
returns-then-passes-clause-evals c = search rules

pub returns-else-is_same-clause-evals : goal.returns-else-is_same-clause-evals
returns-else-is_same-clause-evals c = search rules
