use Rattle.std.proofs.Common.{ℕ, List, sym, subst}
use Rattle.ft_waits.specs.Reading.{events_of, history_so_far, CountsEvents}
use Rattle.ft_waits.proofs.SoFar.{counts-so-far}
use Rattle.ft_waits.proofs.stream.Waits.events.Goals as goal

pub returns-clause-meaning : goal.returns-clause-meaning
returns-clause-meaning c = λ well choice text told read.
    subst (λ (counts : List ℕ). CountsEvents counts (events_of (history_so_far text))) (sym c.deref.ensures.value) (counts-so-far choice c.args.self.now text told well read)
