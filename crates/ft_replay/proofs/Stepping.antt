-- No count of steps falls along a run.
use Rattle.std.proofs.Math.Nat.{le_refl, le_trans}
use Rattle.ft_hist.specs.Steps.{Steps, StepsGrow}

-- if no step is taken, no count falls
pub grow_none : (steps : Steps) → StepsGrow steps steps
grow_none steps = record { evals = le_refl steps.evals; puts = le_refl steps.puts }

-- one run after another
pub grow_more : (a b c : Steps) → StepsGrow a b → StepsGrow b c → StepsGrow a c
grow_more a b c first then = record { evals = le_trans first.evals then.evals; puts = le_trans first.puts then.puts }
