use Rattle.std.proofs.Common.{sym, ◌∙◌}
use Rattle.ft_layout.proofs.RefusedBack.{refused_back, refused_is}
use Rattle.ft_layout.proofs.refusals.refusal_in.Goals as goal

pub returns-clause-meaning : goal.returns-clause-meaning
returns-clause-meaning c why =
    let layout = c.args.layout.now in
    ((λ is. refused_is layout why (sym c.refused.ensures ∙ is)), (λ is. c.refused.ensures ∙ refused_back layout why is))
