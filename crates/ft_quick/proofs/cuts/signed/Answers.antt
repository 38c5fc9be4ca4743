use Rattle.std.proofs.Common.{arith, drop}
use Rattle.std.proofs.lemmas.Int.{ints}
use Rattle.ft_quick.proofs.Signs.{signed_minus}
use Rattle.ft_quick.proofs.cuts.signed.Goals as goal

pub returns-in_ok-number-in-Some-clause-signed : goal.returns-in_ok-number-in-Some-clause-signed
returns-in_ok-number-in-Some-clause-signed c =
    let small = c.in_ok-number-in-Some.ensures.number.below in
    signed_minus (drop c.args.at c.args.line.now) (drop c.in-Some.digits c.args.line.now) (drop c.in_ok-number-in-Some.next c.args.line.now) c.in_ok-number-in-Some.number _ c.in-Some.ensures.cut c.in_ok-number-in-Some.ensures.number (omega (arith, ints))
