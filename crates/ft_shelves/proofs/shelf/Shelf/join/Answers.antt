-- On a saver's shelf no operation stands before the saves.
use Rattle.std.proofs.Common.{sym, ap, ◌∙◌}
use Rattle.ft_pairs.specs.ByKey.{ops_of}
use Rattle.ft_shelves.specs.Shelves.{Shelved}
use Rattle.ft_shelves.proofs.shelf.Shelf.join.Goals as goal

pub save_groups-requires-clause-free : goal.save_groups-requires-clause-free
save_groups-requires-clause-free c key at =
    let shelf = c.self.view_is in
    ap (λ (s : Shelved). ops_of s.ops key at) shelf ∙ c.requires.free (ap (λ (s : Shelved). s.role) (sym shelf) ∙ c.in-Saves.is) key at
