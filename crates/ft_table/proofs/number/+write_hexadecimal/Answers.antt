use Rattle.std.proofs.Common.{false}
use Rattle.std.proofs.lemmas.Result.{on_ok_weaker}
use Rattle.std.proofs.lemmas.Fmt.{hex_one_digit}
use Rattle.ft_table.proofs.Hexadecimal.{hexadecimal-step}
use Rattle.ft_text.proofs.Appends.{added_two}
use Rattle.ft_table.proofs.number.+write_hexadecimal.Goals as goal

pub returns-clause-ok : goal.returns-clause-ok
returns-clause-ok t c =
    let step = hexadecimal-step c.args.number c.if-number-lt16.false c.ranges.number.fits in
    rw step (on_ok_weaker c.write_digit-2.result (added_two c.args.text.now.items c.write_hexadecimal.new.text.items c.write_digit-2.new.text.items _ _ c.in_ok-write_hexadecimal.ensures.ok) c.write_digit-2.ensures.ok)

pub returns-then-number-lt16-clause-ok : goal.returns-then-number-lt16-clause-ok
returns-then-number-lt16-clause-ok t c = rw (hex_one_digit false c.args.number c.if-number-lt16.true) c.write_digit.ensures.ok
