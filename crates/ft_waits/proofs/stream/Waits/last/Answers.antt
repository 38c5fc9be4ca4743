use Rattle.std.proofs.Common.{◌∙◌}
use Rattle.ft_waits.proofs.SoFar.{last-so-far}
use Rattle.ft_waits.proofs.stream.Waits.last.Goals as goal

pub returns-clause-meaning : goal.returns-clause-meaning
returns-clause-meaning c = λ well choice text told read. c.last_stamp.ensures ∙ last-so-far choice c.args.self.now text told well read
