use Rattle.std.proofs.Common.{sym, ◌∙◌, arith}
use Rattle.ft_head.proofs.Numerals.{size_none, size_found, size_small, rounded_most}
use Rattle.ft_head.proofs.Rounding.{rounded_of}
use Rattle.ft_head.proofs.draft.size_of.Goals as goal

pub returns-in_err-number_in-clause-value : goal.returns-in_err-number_in-clause-value
returns-in_err-number_in-clause-value c =
    c.from_residual.ensures ∙ sym (size_none c.args.text.now (sym c.number_in.ensures.value ∙ c.in_err-number_in.was))

pub returns-then-size-lt-LEAST_SIZE-clause-value : goal.returns-then-size-lt-LEAST_SIZE-clause-value
returns-then-size-lt-LEAST_SIZE-clause-value c =
    let n = c.in_ok-number_in.field-0 in
    let size = c.next_power_of_two-size in
    let same = rounded_of n size.result size.ensures.power size.ensures.lower_bound size.ensures.upper_bound in
    sym (size_small c.args.text.now n size.result (sym c.number_in.ensures.value ∙ c.in_ok-number_in.was) same (omega arith))

pub returns-clause-value : goal.returns-clause-value
returns-clause-value c =
    let n = c.in_ok-number_in.field-0 in
    let size = c.next_power_of_two-size in
    let same = rounded_of n size.result size.ensures.power size.ensures.lower_bound size.ensures.upper_bound in
    sym (size_found c.args.text.now n size.result (sym c.number_in.ensures.value ∙ c.in_ok-number_in.was) same (omega arith))

pub returns-clause-most : goal.returns-clause-most
returns-clause-most c =
    let n = c.in_ok-number_in.field-0 in
    let size = c.next_power_of_two-size in
    let same = rounded_of n size.result size.ensures.power size.ensures.lower_bound size.ensures.upper_bound in
    let within = c.in_ok-number_in.ensures.within in
    let most = rounded_most n within.1 in
    omega arith
