use Rattle.std.proofs.Common.{subst}
use Rattle.std.specs.FinMap as map
use Rattle.ft_pairs.specs.ByKey.{KeyOps}
use Rattle.ft_pairs.specs.Source.{IsSource}
use Rattle.ft_pairs.proofs.sequence.Sequence.source.Goals as goal

pub returns : goal.returns
returns c = subst (λ (ops : KeyOps). IsSource (map.get ops) c.args.at c.source_after.result) c.self.view_is (c.source_after.ensures c.self.inside.reads c.last_before.ensures)
