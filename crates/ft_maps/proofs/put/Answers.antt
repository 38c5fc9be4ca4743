-- What `insert` leaves is what the clause says, seen as a finite map.
use Rattle.ft_maps.specs.Seen.{seen-insert}
use Rattle.ft_maps.proofs.put.Goals as goal

pub returns-clause-ok : goal.returns-clause-ok
returns-clause-ok g c = seen-insert g.met.K.Ord.total c.requires c.args.map.now c.insert.new.self c.args.key c.args.value c.in_ok-insert.ensures.updates.0
