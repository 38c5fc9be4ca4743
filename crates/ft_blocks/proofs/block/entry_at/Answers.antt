use Rattle.std.proofs.Common.{sym}
use Rattle.ft_blocks.proofs.Nexts.{entry_is, no_entry}
use Rattle.ft_blocks.proofs.block.entry_at.Goals as goal

pub returns-then-place-block : goal.returns-then-place-block
returns-then-place-block g c = entry_is c.args.block.now c.args.place c.index-block-place.result c.if-place-block.true (sym c.index-block-place.is)

pub returns-else-place-block : goal.returns-else-place-block
returns-else-place-block g c = no_entry c.args.block.now c.args.place c.if-place-block.false
