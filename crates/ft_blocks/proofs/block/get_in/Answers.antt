use Rattle.std.proofs.Common.{rules, ◌≡◌, sym, true, false, drop, get_or}
use Rattle.ft_blocks.specs.Sorted.{ties_first}
use Rattle.ft_blocks.proofs.Taken.{find_none, find_some}
use Rattle.ft_blocks.proofs.block.get_in.Goals as goal

pub returns-then-not-has_key : goal.returns-then-not-has_key
returns-then-not-has_key g c =
    let R = g.K.Ord.cmp in
    let es = c.args.block.now in
    let ties : ties_first R c.args.key.now (drop c.cut_of-place.result es) ≡ false = search rules in
    find_none g.met.K.Ord.total es c.args.key.now c.cut_of-place.result c.cut_of-place.ensures c.requires ties

pub returns : goal.returns
returns g c =
    let R = g.K.Ord.cmp in
    let es = c.args.block.now in
    let ties : ties_first R c.args.key.now (drop c.cut_of-place.result es) ≡ true = search rules in
    let e = c.index-block-place.result in
    let at : get_or es c.cut_of-place.result e ≡ e = sym c.index-block-place.is in
    rw at (find_some g.met.K.Ord.total es c.args.key.now c.cut_of-place.result e c.cut_of-place.ensures at ties)
