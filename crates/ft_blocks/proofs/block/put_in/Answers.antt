use Rattle.std.proofs.Common.{rules, ◌≡◌, sym, ◌∙◌, true, false, drop}
use Rattle.ft_blocks.specs.Sorted.{ties_first, IsCut}
use Rattle.ft_blocks.proofs.Puts.{put_gap, put_tie}
use Rattle.ft_blocks.proofs.block.put_in.Goals as goal

pub returns-then-has_key-clause-ok : goal.returns-then-has_key-clause-ok
returns-then-has_key-clause-ok g c =
    let R = g.K.Ord.cmp in
    let es = c.args.block.now.items in
    let ties : ties_first R c.args.key (drop c.cut_of-place.result es) ≡ true = search rules in
    let cut : IsCut R es c.args.key c.cut_of-place.result = search rules in
    put_tie g.met.K.Ord.total es c.args.key c.args.value c.cut_of-place.result c.index_mut.result.now cut (sym c.index_mut.ensures.value) ties

pub returns-clause-ok : goal.returns-clause-ok
returns-clause-ok g c =
    let R = g.K.Ord.cmp in
    let es = c.args.block.now.items in
    let ties : ties_first R c.args.key (drop c.cut_of-place.result es) ≡ false = search rules in
    let cut : IsCut R es c.args.key c.cut_of-place.result = search rules in
    c.in_ok-insert.ensures.items ∙ put_gap g.met.K.Ord.total es c.args.key c.args.value c.cut_of-place.result cut ties
