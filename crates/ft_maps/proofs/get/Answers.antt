-- A look-up in the tree is one in the finite map.
use Rattle.std.proofs.Common.{sym, ◌∙◌}
use Rattle.ft_maps.specs.Seen.{get-seen}
use Rattle.ft_maps.proofs.get.Goals as goal

pub returns : goal.returns
returns g c = c.get.ensures.value ∙ sym (get-seen g.met.K.Ord.total c.args.map.now c.args.key.now)
