use Rattle.std.proofs.Common.{sym, ap, ◌∙◌, arith, ◌++◌, List}
use Rattle.ft_blocks.proofs.Joined.{ascend_at}
use Rattle.ft_blocks.proofs.Split.{filled_others}
use Rattle.ft_blocks.proofs.Taken.{take_block, find_block}
use Rattle.ft_blocks.proofs.edits.take_at.Goals as goal

pub take_in-value-requires : goal.take_in-value-requires
take_in-value-requires g c =
    let bs = c.args.blocks.now in
    ascend_at g.K.Ord.cmp bs.items c.args.at c.index_mut.result.now c.requires.ascend (omega (arith, c.requires.inside, bs.ok.0)) (sym c.index_mut.ensures.value)

pub drop_empty-requires-clause-others : goal.drop_empty-requires-clause-others
drop_empty-requires-clause-others g c = filled_others c.args.blocks.now.items c.args.at c.take_in-value.new.block c.requires.filled

pub returns-clause-left : goal.returns-clause-left
returns-clause-left g c rest up =
    let bs = c.args.blocks.now in
    ap (λ (l : List _). l ++ rest) c.drop_empty.ensures.same
    ∙ take_block g.met.K.Ord.total bs.items c.args.key.now c.args.at c.index_mut.result.now c.take_in-value.new.block rest (omega (arith, c.requires.inside, bs.ok.0)) (sym c.index_mut.ensures.value) c.requires.place.below c.requires.place.reaches up c.take_in-value.ensures.left

pub returns-clause-value : goal.returns-clause-value
returns-clause-value g c rest up =
    let bs = c.args.blocks.now in
    c.take_in-value.ensures.value
    ∙ find_block g.met.K.Ord.total bs.items c.args.key.now c.args.at c.index_mut.result.now rest (omega (arith, c.requires.inside, bs.ok.0)) (sym c.index_mut.ensures.value) c.requires.place.below c.requires.place.reaches up
