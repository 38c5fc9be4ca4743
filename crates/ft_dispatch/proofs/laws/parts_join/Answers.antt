use Rattle.std.proofs.Common.{refl}
use Rattle.ft_dispatch.specs.Dispatches.{runnable_since}
use Rattle.ft_dispatch.proofs.Behind.{known-joined, dispatches-joined}
use Rattle.ft_dispatch.proofs.laws.parts_join.Goals as goal

pub returns-clause-known : goal.returns-clause-known
returns-clause-known c = known-joined

pub returns-clause-dispatches : goal.returns-clause-dispatches
returns-clause-dispatches c = λ part before. dispatches-joined (λ pid. runnable_since pid before) part before (λ pid waits. refl)
