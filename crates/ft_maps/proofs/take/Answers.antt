-- What `remove` leaves is what the clause says, seen as a finite map.
use Rattle.ft_maps.specs.Seen.{seen-remove}
use Rattle.ft_maps.proofs.take.Goals as goal

pub returns : goal.returns
returns g c = seen-remove g.met.K.Ord.total c.requires c.args.map.now c.remove.new.self c.args.key.now c.remove.ensures.updates.0
