use Rattle.std.proofs.Common.{◌<◌, ◌≡◌, set, get_or, ap, ◌∙◌, length, arith}
use Rattle.std.proofs.lemmas.List.Edits.{map_over_more}
use Rattle.ft_fields.specs.Borrowed.{event_told}
use Rattle.ft_waits.specs.inner.Known.{with_event}
use Rattle.ft_waits.proofs.Leaving.{any-more, or-true, or-false, same-length}
use Rattle.ft_waits.proofs.left_out.count_left_out.Goals as goal
use Rattle.ft_waits.proofs.left_out.count_left_out.Goals.{then-branch, else-branch}

pub loop-number-preserved : goal.loop-number-preserved
loop-number-preserved c =
    let n = c.loop-number.number in
    let now = c.loop-number.all.items in
    let old = c.args.all.now.items in
    let e = event_told c.args.event.now in
    let x = c.index_mut.result.now in
    let within : n < length old = omega (arith, same-length e old now n c.loop-number.invariant.counts) in
    let at : x ≡ get_or now n x = c.index_mut.ensures.value in
    let more = any-more e old now n x c.loop-number.is_out c.in_ok-take.field-0 within c.loop-number.invariant.counts at c.loop-number.invariant.left_out c.in_ok-take.ensures.left_out in
    record {
      counts = ap (λ v. set now n v) c.in_ok-take.ensures.counts ∙ map_over_more (with_event e) old now n x within c.loop-number.invariant.counts at;
      left_out = elim c.if-branch.branch [
        | then-branch w ↦ or-true c.loop-number.is_out c.in_ok-take.field-0 c.if-branch.is_out w.if-branch.true w.is_out-is ∙ more
        | else-branch w ↦ or-false c.loop-number.is_out c.in_ok-take.field-0 c.if-branch.is_out w.if-branch.false w.is_out-is ∙ more
      ];
    }
