use Rattle.std.proofs.Common.{sym, ◌∙◌}
use Rattle.ft_text.proofs.Reach.{decimal_is_hex}
use Rattle.ft_text.proofs.number.number_of.Goals as goal

pub magnitude-requires-clause-digits : goal.magnitude-requires-clause-digits
magnitude-requires-clause-digits c = decimal_is_hex c.args.word.now (sym c.is_decimal.ensures ∙ c.if-is_decimal.true)

pub magnitude-requires-then-is_decimal-2-clause-digits : goal.magnitude-requires-then-is_decimal-2-clause-digits
magnitude-requires-then-is_decimal-2-clause-digits c = decimal_is_hex c.in-Some.digits.now (sym c.is_decimal-in-Some.ensures ∙ c.if-is_decimal-2.true)
