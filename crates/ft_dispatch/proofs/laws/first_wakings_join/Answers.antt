use Rattle.ft_dispatch.proofs.FirstWakings.{ready-joined}
use Rattle.ft_dispatch.proofs.Unsaid.{showings-joined, firsts-joined}
use Rattle.ft_dispatch.proofs.laws.first_wakings_join.Goals as goal

pub returns-clause-ready : goal.returns-clause-ready
returns-clause-ready c = ready-joined

pub returns-clause-showings : goal.returns-clause-showings
returns-clause-showings c = λ stamp part before after upto passes. showings-joined stamp passes before upto part after

pub returns-clause-firsts : goal.returns-clause-firsts
returns-clause-firsts c = firsts-joined
