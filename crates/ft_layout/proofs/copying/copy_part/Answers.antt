use Rattle.std.proofs.Common.{◌++◌, take, drop, set, map, ap, ◌∙◌, arith}
use Rattle.ft_layout.proofs.NextCopied.{next_copied}
use Rattle.ft_layout.proofs.copying.copy_part.Goals as goal

pub loop-number-preserved : goal.loop-number-preserved
loop-number-preserved g c =
    let shown = g.W.Shows.shown c.args.way.now in
    let rest = c.rest_from-rest.result.now in
    let n = c.loop-number.number in
    ap (λ to. set to n c.show.result) c.loop-number.invariant
    ∙ ap (λ v. set (map shown (take n rest) ++ drop n c.args.to.now) n v) c.show.ensures
    ∙ next_copied shown rest c.args.to.now n c.index-rest-number.result (omega arith) (omega arith) c.index-rest-number.is
