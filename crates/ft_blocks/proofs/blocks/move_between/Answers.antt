use Rattle.std.proofs.Common.{◌++◌, ap, ◌∙◌}
use Rattle.ft_blocks.specs.Sorted.{without}
use Rattle.ft_blocks.specs.Blocks.{joined}
use Rattle.ft_blocks.proofs.Shifts.{put_without}
use Rattle.ft_blocks.proofs.blocks.move_between.Goals as goal

pub returns-in-Ok-clause-moved : goal.returns-in-Ok-clause-moved
returns-in-Ok-clause-moved g c =
    let R = g.K.Ord.cmp in
    let whole = joined c.args.blocks.now.items ++ c.args.last.now.items in
    c.take_between.ensures.left
    ∙ ap (without R c.args.from.now) c.in-Ok.ensures.ok
    ∙ put_without g.met.K.Ord.total c.args.from.now c.args.to.0 c.args.to.1 whole c.requires.later
