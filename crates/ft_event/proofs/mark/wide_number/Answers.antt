use Rattle.std.proofs.Common.{◌≡◌, ◌<◌, ◌+◌, ◌∙◌, take, arith, sym, get_or, true}
use Rattle.std.proofs.lemmas.List.Folds.{list_all_more}
use Rattle.std.specs.Str.Parse.{digits_value}
use Rattle.std.proofs.lemmas.Bool.{and_from}
use Rattle.ft_event.specs.Bytes.{is_digit}
use Rattle.ft_event.specs.Marks.{last_count}
use Rattle.ft_event.proofs.Digits.{next_digit, above_limit}
use Rattle.ft_event.proofs.mark.wide_number.Goals as goal

pub returns-in_err-checked_mul : goal.returns-in_err-checked_mul
returns-in_err-checked_mul c =
    let digit : is_digit (get_or c.args.text.now c.loop-byte.byte-index 0) ≡ true = sym c.if-not-has.ensures in
    let more = next_digit c.args.text.now c.loop-byte.byte-index c.loop-byte-test.true digit in
    let above : last_count < digits_value 10 (take (c.loop-byte.byte-index + 1) c.args.text.now) = omega (arith, c.in_err-checked_mul.ensures, c.loop-byte.invariant.value) in
    c.from_residual.ensures ∙ sym (above_limit last_count c.args.text.now (c.loop-byte.byte-index + 1) above)

pub returns-in_err-number : goal.returns-in_err-number
returns-in_err-number c =
    let digit : is_digit (get_or c.args.text.now c.loop-byte.byte-index 0) ≡ true = sym c.if-not-has.ensures in
    let more = next_digit c.args.text.now c.loop-byte.byte-index c.loop-byte-test.true digit in
    let above : last_count < digits_value 10 (take (c.loop-byte.byte-index + 1) c.args.text.now) = omega (arith, c.in_err-number.ensures, c.in_ok-checked_mul.ensures.1, c.loop-byte.invariant.value) in
    c.from_residual-in_err-number.ensures ∙ sym (above_limit last_count c.args.text.now (c.loop-byte.byte-index + 1) above)

pub loop-byte-preserved : goal.loop-byte-preserved
loop-byte-preserved c =
    let digit : is_digit (get_or c.args.text.now c.loop-byte.byte-index 0) ≡ true = sym c.if-not-has.ensures in
    let more = next_digit c.args.text.now c.loop-byte.byte-index c.loop-byte-test.true digit in
    record {
      digits = list_all_more is_digit c.args.text.now c.loop-byte.byte-index 0 c.loop-byte-test.true ∙ and_from _ _ c.loop-byte.invariant.digits digit;
      value = omega (arith, c.in_ok-number.ensures.1, c.in_ok-checked_mul.ensures.1, c.loop-byte.invariant.value);
      within = omega (arith, c.in_ok-number.ensures.0, c.in_ok-number.ensures.1);
    }
