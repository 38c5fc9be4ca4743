use Rattle.std.proofs.Common.{◌≡◌, ◌+◌, ◌*◌, ◌∙◌, take, arith, sym, ap₂}
use Rattle.std.proofs.lemmas.Int.Digits.{digits_value_more}
use Rattle.std.specs.Str.Parse.{digits_value}
use Rattle.ft_text.proofs.Reach.{out_of_reach}
use Rattle.ft_text.proofs.number.magnitude.Goals as goal

pub returns-then-number-from : goal.returns-then-number-from
returns-then-number-from c =
    let i = c.loop-byte.byte-index in
    let more = digits_value_more c.args.radix c.args.digits.now i c.loop-byte-test.true in
    let now : c.loop-byte.number * c.from.result + c.from-in-loop-byte.result ≡ digits_value c.args.radix (take (i + 1) c.args.digits.now) =
    ap₂ (λ m n. m + n) (ap₂ (λ m n. m * n) c.loop-byte.invariant.value c.from.ensures) (c.from-in-loop-byte.ensures ∙ c.digit.ensures) ∙ sym more in
    sym (out_of_reach c.args.radix c.args.digits.now (i + 1) c.requires.radix.0 (omega arith))

pub loop-byte-preserved : goal.loop-byte-preserved
loop-byte-preserved c =
    let i = c.loop-byte.byte-index in
    let more = digits_value_more c.args.radix c.args.digits.now i c.loop-byte-test.true in
    record {
      value = ap₂ (λ m n. m + n) (ap₂ (λ m n. m * n) c.loop-byte.invariant.value c.from.ensures) (c.from-in-loop-byte.ensures ∙ c.digit.ensures) ∙ sym more;
      within = omega arith;
    }
