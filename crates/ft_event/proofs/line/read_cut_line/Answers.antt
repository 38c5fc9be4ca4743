use Rattle.std.proofs.Common.{subst, sym}
use Rattle.ft_event.specs.LineIs.{LineIs}
use Rattle.ft_event.proofs.Lines.{line_found}
use Rattle.ft_event.proofs.line.read_cut_line.Goals as goal

pub returns-clause-meaning : goal.returns-clause-meaning
returns-clause-meaning c = subst (LineIs c.args.line.now) (sym c.put_cut.ensures) (line_found c.args.line.now)
