use Rattle.std.proofs.Common.{ap, ◌∙◌}
use Rattle.ft_fields.specs.Parts.{key_cmp}
use Rattle.ft_fields.specs.Ties.{key_same}
use Rattle.ft_maps.specs.Seen.{seen}
use Rattle.ft_pairs.specs.ByKey.{OpsByKey, ops_of}
use Rattle.ft_pairs.proofs.Found.{cleared}
use Rattle.ft_pairs.proofs.pairs.clear_out.Goals as goal

pub take-requires : goal.take-requires
take-requires c = key_same

pub returns-then-is_clear : goal.returns-then-is_clear
returns-then-is_clear c k at = ap (λ (m : OpsByKey). ops_of m k at) c.take.ensures ∙ cleared (seen key_cmp c.args.by_key.now) c.args.key.now (c.is_clear.ensures c.if-is_clear.true) k at
