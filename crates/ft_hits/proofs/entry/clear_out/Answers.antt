use Rattle.std.proofs.Common.{ap, ◌∙◌}
use Rattle.ft_fields.specs.Parts.{key_cmp}
use Rattle.ft_fields.specs.Ties.{key_same}
use Rattle.ft_maps.specs.Seen.{seen}
use Rattle.ft_hits.specs.ByKey.{flat}
use Rattle.ft_hits.proofs.Flat.{flat-clear}
use Rattle.ft_hits.proofs.entry.clear_out.Goals as goal

pub take-requires : goal.take-requires
take-requires c = key_same

pub returns-then-is_clear : goal.returns-then-is_clear
returns-then-is_clear c = ap flat c.take.ensures ∙ flat-clear (seen key_cmp c.args.by_key.now) c.args.key.now (c.is_clear.ensures c.if-is_clear.true)
