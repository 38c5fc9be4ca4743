use Rattle.std.proofs.Common.{◌≡◌, ◌-◌, suc, sym, ap, ◌∙◌, take, arith, ◌<◌, length}
use Rattle.ft_blocks.specs.Sorted.{last_entry}
use Rattle.ft_blocks.proofs.Lasts.{before_cut, last_taken}
use Rattle.ft_blocks.proofs.block.before_in.Goals as goal

pub returns-then-place-eq0 : goal.returns-then-place-eq0
returns-then-place-eq0 g c =
    let es = c.args.block.now in
    sym (before_cut g.met.K.Ord.total es c.args.key.now c.cut_of-place.result c.requires c.cut_of-place.ensures ∙ ap (λ n. last_entry (take n es)) c.if-place-eq0.true)

pub returns : goal.returns
returns g c =
    let es = c.args.block.now in
    let n = c.cut_of-place.result in
    let e = c.index-block-place.result in
    let next : suc (n - 1) ≡ n = omega (arith, c.if-place-eq0.false) in
    let lt : n - 1 < length es = omega (arith, c.if-place-eq0.false, c.cut_of-place.ensures.within) in
    sym (before_cut g.met.K.Ord.total es c.args.key.now n c.requires c.cut_of-place.ensures ∙ ap (λ m. last_entry (take m es)) (sym next) ∙ last_taken es (n - 1) e lt (sym c.index-block-place.is))
