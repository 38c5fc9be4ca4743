use Rattle.std.proofs.Common.{◌∙◌, sym}
use Rattle.ft_losses.proofs.Spanning.{doubt-sure}
use Rattle.ft_losses.proofs.index.Doubts.doubt.Goals as goal

pub returns-then-not-any : goal.returns-then-not-any
returns-then-not-any c = sym (doubt-sure c.args.self.now c.args.began c.args.ended (sym c.any.ensures ∙ c.if-not-any.true))
