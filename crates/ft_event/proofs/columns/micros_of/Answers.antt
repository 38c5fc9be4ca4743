use Rattle.std.proofs.Common.{◌≡◌, ◌+◌, ◌-◌, ◌∙◌, ℕ, suc, Some, take, drop, get_or, length, sym, ap, arith}
use Rattle.ft_event.specs.Spans.{limited_number}
use Rattle.ft_fields.specs.Traced.{last_second}
use Rattle.ft_event.proofs.StampCuts.{stamp_found, no_stamp}
use Rattle.ft_event.proofs.columns.micros_of.Goals as goal

pub returns-then-len-lt9-clause-value : goal.returns-then-len-lt9-clause-value
returns-then-len-lt9-clause-value c = no_stamp c.args.word.now (λ s. omega (arith, s.len, s.some))

pub returns-then-len-gt18-clause-value : goal.returns-then-len-gt18-clause-value
returns-then-len-gt18-clause-value c = no_stamp c.args.word.now (λ s. omega (arith, s.len, s.short))

pub returns-then-word-point-ne46-clause-value : goal.returns-then-word-point-ne46-clause-value
returns-then-word-point-ne46-clause-value c = no_stamp c.args.word.now (λ s.
    let same : length c.args.word.now - 8 ≡ s.point = omega (arith, s.len) in
    c.if-word-point-ne46.true (ap (λ (n : ℕ). get_or c.args.word.now n 0) same ∙ s.dot))

pub returns-then-word-len-ne58-clause-value : goal.returns-then-word-len-ne58-clause-value
returns-then-word-len-ne58-clause-value c = no_stamp c.args.word.now (λ s.
    let same : length c.args.word.now - 1 ≡ s.point + 7 = omega (arith, s.len) in
    c.if-word-len-ne58.true (ap (λ (n : ℕ). get_or c.args.word.now n 0) same ∙ s.colon))

pub returns-in_err-whole-clause-value : goal.returns-in_err-whole-clause-value
returns-in_err-whole-clause-value c = c.from_residual.ensures ∙ no_stamp c.args.word.now (λ s.
    let same : s.point ≡ length c.args.word.now - 8 = omega (arith, s.len) in
    s.whole (ap (λ (n : ℕ). limited_number last_second (take n c.args.word.now)) same ∙ sym c.number.ensures.value ∙ c.in_err-whole.was))

pub returns-in_err-part-clause-value : goal.returns-in_err-part-clause-value
returns-in_err-part-clause-value c = c.from_residual-in_err-part.ensures ∙ no_stamp c.args.word.now (λ s.
    let same : suc s.point ≡ length c.args.word.now - 8 + 1 = omega (arith, s.len) in
    let six : 6 ≡ length c.args.word.now - 1 - (length c.args.word.now - 8 + 1) = omega (arith, s.len) in
    s.part (ap (λ (n : ℕ). limited_number 999999 (take 6 (drop n c.args.word.now))) same ∙ ap (λ (n : ℕ). limited_number 999999 (take n (drop (length c.args.word.now - 8 + 1) c.args.word.now))) six ∙ sym c.number-2.ensures.value ∙ c.in_err-part.was))

pub returns-clause-value : goal.returns-clause-value
returns-clause-value c =
    let point : ℕ = length c.args.word.now - 8 in
    let next : suc point ≡ point + 1 = omega arith in
    let six : 6 ≡ length c.args.word.now - 1 - (point + 1) = omega arith in
    let last : point + 7 ≡ length c.args.word.now - 1 = omega arith in
    let part : limited_number 999999 (take 6 (drop (suc point) c.args.word.now)) ≡ Some c.in_ok-part.part =
    ap (λ (n : ℕ). limited_number 999999 (take 6 (drop n c.args.word.now))) next ∙ ap (λ (n : ℕ). limited_number 999999 (take n (drop (point + 1) c.args.word.now))) six ∙ sym c.in_ok-part.ensures.value in
    sym (stamp_found c.args.word.now point c.in_ok-whole.whole c.in_ok-part.part (omega arith) (omega arith) (omega arith) c.if-word-point-ne46.false
    (ap (λ (n : ℕ). get_or c.args.word.now n 0) last ∙ c.if-word-len-ne58.false) (sym c.in_ok-whole.ensures.value) part)
