use Rattle.ft_dispatch.proofs.Unsaid.{showings-moved, firsts-moved}
use Rattle.ft_dispatch.proofs.laws.showings_move.Goals as goal

pub returns-clause-showings : goal.returns-clause-showings
returns-clause-showings c = showings-moved

pub returns-clause-firsts : goal.returns-clause-firsts
returns-clause-firsts c = firsts-moved
