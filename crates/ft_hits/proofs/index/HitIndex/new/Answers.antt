use Rattle.std.proofs.Common.{ap, ◌∙◌}
use Rattle.ft_fields.specs.Parts.{key_cmp}
use Rattle.ft_maps.specs.Seen.{seen-empty}
use Rattle.ft_hits.specs.ByKey.{flat}
use Rattle.ft_hits.proofs.Whole.{flat-empty}
use Rattle.ft_hits.proofs.index.HitIndex.new.Goals as goal

pub returns : goal.returns
returns c = ap flat (seen-empty key_cmp c.new.result c.new.ensures.empty) ∙ flat-empty
