use Rattle.std.proofs.Common.{◌-◌, sym, ap, ◌∙◌}
use Rattle.ft_losses.specs.Doubt.{ends_after}
use Rattle.ft_losses.specs.inner.Stretches.{is_on}
use Rattle.ft_losses.specs.declared.stretches.Stretch.{Stretch}
use Rattle.ft_losses.proofs.Asking.{rows-rise, met-none, met-last, met-apart, last-row, no-row, Counts}
use Rattle.ft_losses.proofs.stretches.any_in.Goals as goal

pub returns-then-eq : goal.returns-then-eq
returns-then-eq c = λ stretches index.
    let n = c.count_before-count.result in
    let row = c.in-Some.row.now in
    let counts : Counts c.args.rows.now c.args.cpu c.args.ended n = (c.count_before-count.ensures.bound, c.count_before-count.ensures.before (rows-rise c.args.rows.now stretches index)) in
    let last = last-row c.args.rows.now n row c.count_before-count.ensures.bound (sym c.in-Some.ensures.value) in
    let here = ap (λ (s : Stretch). is_on c.args.cpu s) last.1 ∙ sym c.eq.ensures ∙ c.if-eq.true in
    c.ends_after.ensures ∙ ap (λ (s : Stretch). ends_after s.before c.args.began) (sym last.1)
    ∙ sym (met-last c.args.rows.now stretches index c.args.cpu c.args.began c.args.ended n counts (n - 1) row last.0 here)

pub returns-else-eq : goal.returns-else-eq
returns-else-eq c = λ stretches index.
    let n = c.count_before-count.result in
    let row = c.in-Some.row.now in
    let counts : Counts c.args.rows.now c.args.cpu c.args.ended n = (c.count_before-count.ensures.bound, c.count_before-count.ensures.before (rows-rise c.args.rows.now stretches index)) in
    let last = last-row c.args.rows.now n row c.count_before-count.ensures.bound (sym c.in-Some.ensures.value) in
    let away = ap (λ (s : Stretch). is_on c.args.cpu s) last.1 ∙ sym c.eq.ensures ∙ c.if-eq.false in
    c.if-eq.false ∙ sym (met-apart c.args.rows.now stretches index c.args.cpu c.args.began c.args.ended n counts (n - 1) row last.0 away)

pub returns-in-None : goal.returns-in-None
returns-in-None c = λ stretches index.
    let n = c.count_before-count.result in
    let counts : Counts c.args.rows.now c.args.cpu c.args.ended n = (c.count_before-count.ensures.bound, c.count_before-count.ensures.before (rows-rise c.args.rows.now stretches index)) in
    sym (met-none c.args.rows.now stretches index c.args.cpu c.args.began c.args.ended n counts (no-row c.args.rows.now n c.count_before-count.ensures.bound (sym c.in-None.ensures.value)))
