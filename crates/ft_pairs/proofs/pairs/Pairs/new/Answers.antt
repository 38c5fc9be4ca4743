use Rattle.std.proofs.Common.{ap, ◌∙◌}
use Rattle.std.specs.FinMap as map
use Rattle.std.specs.FinMap.{get-empty}
use Rattle.ft_fields.specs.Parts.{key_cmp}
use Rattle.ft_maps.specs.Seen.{seen-empty}
use Rattle.ft_pairs.specs.ByKey.{OpsByKey}
use Rattle.ft_pairs.proofs.Found.{found_in}
use Rattle.ft_pairs.proofs.pairs.Pairs.new.Goals as goal

pub returns : goal.returns
returns c key at =
    ap (λ held. found_in held at)
    (ap (λ (m : OpsByKey). map.get m key) (seen-empty key_cmp c.new.result c.new.ensures.empty) ∙ get-empty key_cmp key)
