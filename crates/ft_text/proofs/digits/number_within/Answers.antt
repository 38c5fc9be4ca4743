use Rattle.std.proofs.Common.{◌≡◌, ◌<◌, ◌+◌, ◌∙◌, take, arith, sym, get_or, true}
use Rattle.std.proofs.lemmas.Bool.{and_from}
use Rattle.std.proofs.lemmas.List.Folds.{list_all_more}
use Rattle.std.specs.Char.{is_ascii_digit}
use Rattle.std.specs.Str.Parse.{digits_value}
use Rattle.ft_text.proofs.Numbers.{next_digit, past_limit}
use Rattle.ft_text.proofs.digits.number_within.Goals as goal

pub returns-then-number-from-clause-value : goal.returns-then-number-from-clause-value
returns-then-number-from-clause-value c =
    let digit : is_ascii_digit (get_or c.args.text.now c.loop-byte.byte-index 0) ≡ true = sym c.if-not-is_ascii_digit.ensures.value in
    let more = next_digit c.args.text.now c.loop-byte.byte-index c.loop-byte-test.true digit in
    let above : c.args.limit < digits_value 10 (take (c.loop-byte.byte-index + 1) c.args.text.now) = omega (arith, c.loop-byte.invariant.value) in
    sym (past_limit c.args.limit c.args.text.now (c.loop-byte.byte-index + 1) above)

pub loop-byte-preserved : goal.loop-byte-preserved
loop-byte-preserved c =
    let digit : is_ascii_digit (get_or c.args.text.now c.loop-byte.byte-index 0) ≡ true = sym c.if-not-is_ascii_digit.ensures.value in
    let more = next_digit c.args.text.now c.loop-byte.byte-index c.loop-byte-test.true digit in
    record {
      digits = list_all_more is_ascii_digit c.args.text.now c.loop-byte.byte-index 0 c.loop-byte-test.true ∙ and_from _ _ c.loop-byte.invariant.digits digit;
      value = omega (arith, c.loop-byte.invariant.value);
      within = omega arith;
    }
