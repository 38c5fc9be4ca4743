-- A tree in order has the entries of the finite map that it is seen as.
use Rattle.std.proofs.Common.{sym, ap, ◌∙◌, length, arith}
use Rattle.ft_maps.specs.Seen.{entries-seen}
use Rattle.ft_maps.proofs.entries.Goals as goal

pub returns-clause-rest : goal.returns-clause-rest
returns-clause-rest g c = c.iter.ensures.rest ∙ sym (entries-seen g.met.K.Ord.total c.args.map.now c.iter.ensures.ordered)

pub returns-clause-fits : goal.returns-clause-fits
returns-clause-fits g c = omega (arith, c.iter.ensures.fits, ap length c.iter.ensures.rest)
