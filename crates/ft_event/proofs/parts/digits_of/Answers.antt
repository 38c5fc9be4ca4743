use Rattle.std.proofs.Common.{◌≡◌, ◌∙◌, true, sym, get_or, length, arith}
use Rattle.std.proofs.lemmas.Bool.{and_from, eqb-true, eqb-false}
use Rattle.std.proofs.lemmas.List.Folds.{list_all_more}
use Rattle.ft_event.specs.Bytes.{is_digit}
use Rattle.ft_event.proofs.Caps.{empty_fails, other_fails, all_pass, next_capped, capped_number}
use Rattle.ft_event.proofs.parts.digits_of.Goals as goal

pub returns-then-is_empty-clause-none : goal.returns-then-is_empty-clause-none
returns-then-is_empty-clause-none c = empty_fails c.args.text.now (eqb-true _ _ (sym c.if-is_empty.ensures))

pub returns-then-not-has-clause-none : goal.returns-then-not-has-clause-none
returns-then-not-has-clause-none c = other_fails c.args.text.now c.loop-byte.byte-index c.loop-byte-test.true (sym c.if-not-has.ensures)

pub loop-byte-preserved : goal.loop-byte-preserved
loop-byte-preserved c =
    let digit : is_digit (get_or c.args.text.now c.loop-byte.byte-index 0) ≡ true = sym c.if-not-has.ensures in
    record {
      digits = list_all_more is_digit c.args.text.now c.loop-byte.byte-index 0 c.loop-byte-test.true ∙ and_from _ _ c.loop-byte.invariant.digits digit;
      value = c.min-number.ensures ∙ next_capped c.args.text.now c.loop-byte.byte-index c.loop-byte.number c.from.result c.loop-byte-test.true digit c.loop-byte.invariant.value c.from.ensures;
    }

pub returns-clause-some : goal.returns-clause-some
returns-clause-some c = let some = eqb-false (length c.args.text.now) 0 (sym c.if-is_empty.ensures) in all_pass c.args.text.now c.loop-byte.byte-index (omega arith) (omega arith) c.loop-byte.invariant.digits

pub returns-clause-value : goal.returns-clause-value
returns-clause-value c = λ limit below. capped_number c.args.text.now c.loop-byte.byte-index c.loop-byte.number limit (omega arith) c.loop-byte.invariant.digits c.loop-byte.invariant.value below
