use Rattle.ft_waits.specs.Reading.{history, events_of}
use Rattle.ft_same_waits.proofs.Loaded.{same_told}
use Rattle.ft_same_waits.proofs.Read.{same_loaded}
use Rattle.ft_same_waits.proofs.laws.same_dispatches.Goals as goal

pub returns-clause-events : goal.returns-clause-events
returns-clause-events c = same_told

pub returns-clause-lines : goal.returns-clause-lines
returns-clause-lines c = λ text. same_told (events_of (history text))

pub returns-clause-load : goal.returns-clause-load
returns-clause-load c = same_loaded
