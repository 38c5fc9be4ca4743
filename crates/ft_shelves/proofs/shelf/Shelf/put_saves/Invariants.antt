use Rattle.std.proofs.Common.{◌≡◌, true, Some}
use Rattle.std.specs.Prelude.{is_some}
use Rattle.std.specs.FinMap as map
use Rattle.ft_fields.specs.Places.{pos_cmp}
use Rattle.ft_maps.specs.Seen.{seen}
use Rattle.ft_pairs.specs.ByKey.{ChangesKey}
use Rattle.ft_hits.specs.declared.hit.Hit.{Hit}
use Rattle.ft_shelves.specs.Counts.{TestsNone}
use Rattle.ft_shelves.proofs.Walking.{with_saves_till, hits_left}
use Rattle.ft_shelves.proofs.shelf.Shelf.put_saves.Given as goal

abbrev pub invariant-loop-next : goal.invariant-loop-next
invariant-loop-next l = record {
  role : l.self-inside.role ≡ l.fn.self.role;
  table : l.self-inside.table ≡ l.fn.self.table;
  readings : seen pos_cmp l.self-inside.readings ≡ l.fn.self.readings;
  there : (hit : Hit) → l.next ≡ Some hit → is_some (map.get l.self-inside.table.hits (record { spot = hit.spot; key = l.key })) ≡ true;
  saved : ChangesKey l.key (with_saves_till l.self-inside.table.hits l.id l.key l.next) l.fn.self.ops l.self-inside.pairs;
  work : TestsNone l.fn.work l.work;
}

abbrev pub decreases-loop-next : goal.decreases-loop-next
decreases-loop-next l = hits_left l.self-inside.table.hits l.key l.next
