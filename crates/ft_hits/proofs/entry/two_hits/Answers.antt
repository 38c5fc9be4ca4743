use Rattle.std.proofs.Common.{ap, ◌∙◌}
use Rattle.std.specs.FinMap as map
use Rattle.std.specs.FinMap.{get-empty}
use Rattle.ft_hits.specs.Spots.{spot_cmp}
use Rattle.ft_hits.specs.Hits.{EntryHits}
use Rattle.ft_hits.proofs.entry.two_hits.Goals as goal

pub insert-requires : goal.insert-requires
insert-requires c = ap (λ (l : EntryHits). map.get l c.args.first.0) c.new-series.ensures ∙ get-empty spot_cmp c.args.first.0
