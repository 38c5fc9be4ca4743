use Rattle.std.proofs.Common.{arith, eq-eqb}
use Rattle.ft_waits.proofs.Cuts.{unbroken_ended, unbroken_open}
use Rattle.ft_waits.proofs.pieces.split_first_line.Goals as goal

pub returns-in-Some-clause-line : goal.returns-in-Some-clause-line
returns-in-Some-clause-line c = unbroken_ended c.args.text.now c.in-Some.end c.in-Some.ensures.0.high (λ k h e. c.in-Some.ensures.0.before k (omega arith) h (eq-eqb _ _ e))

pub returns-in-None-clause-none : goal.returns-in-None-clause-none
returns-in-None-clause-none c = unbroken_open c.args.text.now (λ k h e. c.in-None.ensures k (omega arith) h (eq-eqb _ _ e))
