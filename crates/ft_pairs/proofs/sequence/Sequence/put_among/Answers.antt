-- What stands after the reads were put stands whatever comes of looking them up.
use Rattle.std.proofs.Common.{ap, ◌∙◌, inr}
use Rattle.std.specs.FinMap as map
use Rattle.ft_pairs.specs.ByKey.{KeyOps}
use Rattle.ft_pairs.proofs.Partly.{on_ok, on_err}
use Rattle.ft_pairs.proofs.Runs.{in_turn}
use Rattle.ft_pairs.proofs.sequence.Sequence.put_among.Goals as goal

pub returns-clause-ops : goal.returns-clause-ops
returns-clause-ops c = on_ok c.sources.result (λ at. ap (λ (ops : KeyOps). map.get ops at) c.in_ok-put_each.ensures.ok ∙ in_turn c.args.self.now c.args.reads.now at)

pub returns-clause-err : goal.returns-clause-err
returns-clause-err c = on_err c.sources.result (λ at. inr (ap (λ (ops : KeyOps). map.get ops at) c.in_ok-put_each.ensures.ok ∙ in_turn c.args.self.now c.args.reads.now at))
