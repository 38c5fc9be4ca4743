use Rattle.std.proofs.Common.{sym, ◌∙◌}
use Rattle.ft_blocks.proofs.Froms.{from_cut}
use Rattle.ft_blocks.proofs.block.from_in.Goals as goal

pub returns : goal.returns
returns g c = c.rest_of.ensures ∙ sym (from_cut g.met.K.Ord.total c.args.block.now c.args.key.now c.cut_of.result c.requires c.cut_of.ensures)
