use Rattle.std.proofs.Common.{arith, eq-eqb, add-one}
use Rattle.std.proofs.lemmas.Bool.{eqb-true}
use Rattle.std.proofs.lemmas.Grind.{common_steps}
use Rattle.std.proofs.lemmas.List.{take_rest}
use Rattle.ft_text.proofs.Breaks.{lines_of-ended, lines_of-open, unbroken_ended, unbroken_open}
use Rattle.ft_text.proofs.lines.next_line.Goals as goal

pub returns-in-Some-clause-cut : goal.returns-in-Some-clause-cut
returns-in-Some-clause-cut c =
    let cut = lines_of-ended c.args.text.now c.in-Some.end c.in-Some.ensures.0.high (λ k h e. c.in-Some.ensures.0.before k (omega arith) h (eq-eqb _ _ e)) (eqb-true _ _ c.in-Some.ensures.1) in
    rw take_rest (rw add-one cut)

pub returns-in-None-clause-cut : goal.returns-in-None-clause-cut
returns-in-None-clause-cut c = lines_of-open c.args.text.now (grind (arith, common_steps)) (λ k h e. c.in-None.ensures k (omega arith) h (eq-eqb _ _ e))

pub returns-in-Some-clause-unbroken : goal.returns-in-Some-clause-unbroken
returns-in-Some-clause-unbroken c = unbroken_ended c.args.text.now c.in-Some.end c.in-Some.ensures.0.high (λ k h e. c.in-Some.ensures.0.before k (omega arith) h (eq-eqb _ _ e))

pub returns-in-None-clause-unbroken : goal.returns-in-None-clause-unbroken
returns-in-None-clause-unbroken c = unbroken_open c.args.text.now (λ k h e. c.in-None.ensures k (omega arith) h (eq-eqb _ _ e))
