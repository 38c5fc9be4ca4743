use Rattle.std.proofs.Common.{ap, ◌∙◌}
use Rattle.std.specs.Prelude.{is_some}
use Rattle.ft_session.proofs.Fronts.{some_copied}
use Rattle.ft_session.proofs.front.has.Goals as goal

pub returns : goal.returns
returns c = c.is_some.ensures ∙ some_copied c.get.result ∙ ap is_some c.get.ensures
