use Rattle.std.proofs.Common.{sym, subst}
use Rattle.std.specs.Prelude.{IfNone}
use Rattle.ft_stream.specs.Summing.{SumsThemUp}
use Rattle.ft_stream.specs.Telling.{no_whole_at}
use Rattle.ft_stream.specs.declared.phase.Phase.{Phase}
use Rattle.ft_stream.specs.declared.phase.Phase.TheVariants.{Running}
use Rattle.ft_stream.proofs.Sums.{summed-running}
use Rattle.ft_stream.proofs.summing.sum_up_phase.Goals as goal

pub returns-in-Ok-clause-sums : goal.returns-in-Ok-clause-sums
returns-in-Ok-clause-sums c =
    subst (λ (phase : Phase). IfNone (no_whole_at phase) (SumsThemUp phase (Running c.sum_up.new.self))) (sym c.in-Running.is)
    (summed-running c.in-Running.running c.sum_up.new.self c.in-Ok.ensures.adds c.sum_up.ensures.failed)
