use Rattle.std.proofs.Common.{◌<◌, set, ap, ◌∙◌, length, arith}
use Rattle.std.proofs.lemmas.List.{get_or_default}
use Rattle.std.proofs.lemmas.List.Edits.{map_over_more}
use Rattle.ft_stream.specs.Doubting.{with_doubt}
use Rattle.ft_stream.proofs.doubting.doubt_all.Goals as goal

pub loop-number-preserved : goal.loop-number-preserved
loop-number-preserved c =
    let n = c.loop-number.number in
    let waits = c.loop-number.waits in
    let below : n < length waits = omega arith in
    ap (λ v. set waits n v) c.with_doubt.ensures
    ∙ map_over_more (with_doubt c.args.doubts.now) c.args.waits.now waits n _ (omega arith) c.loop-number.invariant (get_or_default waits n _ _ below)
