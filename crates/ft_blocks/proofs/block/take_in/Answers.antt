use Rattle.std.proofs.Common.{rules, ◌≡◌, sym, ◌∙◌, true, false, drop}
use Rattle.ft_blocks.specs.Sorted.{ties_first, IsCut}
use Rattle.ft_blocks.proofs.Taken.{take_none, take_some, find_none, find_some}
use Rattle.ft_blocks.proofs.block.take_in.Goals as goal

pub returns-then-not-has_key-clause-left : goal.returns-then-not-has_key-clause-left
returns-then-not-has_key-clause-left g c =
    let R = g.K.Ord.cmp in
    let es = c.args.block.now.items in
    let ties : ties_first R c.args.key.now (drop c.cut_of-place.result es) ≡ false = search rules in
    let cut : IsCut R es c.args.key.now c.cut_of-place.result = search rules in
    take_none g.met.K.Ord.total es c.args.key.now c.cut_of-place.result cut c.requires ties

pub returns-then-not-has_key-clause-value : goal.returns-then-not-has_key-clause-value
returns-then-not-has_key-clause-value g c =
    let R = g.K.Ord.cmp in
    let es = c.args.block.now.items in
    let ties : ties_first R c.args.key.now (drop c.cut_of-place.result es) ≡ false = search rules in
    let cut : IsCut R es c.args.key.now c.cut_of-place.result = search rules in
    find_none g.met.K.Ord.total es c.args.key.now c.cut_of-place.result cut c.requires ties

pub returns-clause-left : goal.returns-clause-left
returns-clause-left g c =
    let R = g.K.Ord.cmp in
    let es = c.args.block.now.items in
    let ties : ties_first R c.args.key.now (drop c.cut_of-place.result es) ≡ true = search rules in
    let cut : IsCut R es c.args.key.now c.cut_of-place.result = search rules in
    c.remove-value.ensures.items ∙ take_some g.met.K.Ord.total es c.args.key.now c.cut_of-place.result cut c.requires ties

pub returns-clause-value : goal.returns-clause-value
returns-clause-value g c =
    let R = g.K.Ord.cmp in
    let es = c.args.block.now.items in
    let ties : ties_first R c.args.key.now (drop c.cut_of-place.result es) ≡ true = search rules in
    let cut : IsCut R es c.args.key.now c.cut_of-place.result = search rules in
    find_some g.met.K.Ord.total es c.args.key.now c.cut_of-place.result c.remove-value.result cut (sym c.remove-value.ensures.value) ties
