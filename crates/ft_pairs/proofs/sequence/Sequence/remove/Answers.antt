use Rattle.std.proofs.Common.{ap, ◌∙◌}
use Rattle.std.specs.FinMap as map
use Rattle.ft_pairs.specs.ByKey.{KeyOps}
use Rattle.ft_pairs.specs.inner.Sides.{both}
use Rattle.ft_pairs.proofs.Sides.{both-without}
use Rattle.ft_pairs.proofs.sequence.Sequence.remove.Goals as goal

pub returns : goal.returns
returns c =
    let s = c.self.inside in
    (λ i. both (c.remove.ensures.left i) (c.remove-2.ensures.left i)) ∙ both-without s.saves s.reads c.args.at ∙ ap (λ (ops : KeyOps). map.remove ops c.args.at) c.self.view_is
