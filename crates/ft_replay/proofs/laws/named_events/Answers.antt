use Rattle.ft_replay.proofs.Naming.{unnamed_step, replay-named}
use Rattle.ft_replay.proofs.laws.named_events.Goals as goal

pub returns-clause-step : goal.returns-clause-step
returns-clause-step c = λ triggers state pos event none. unnamed_step triggers state (pos, event) none

pub returns-clause-replay : goal.returns-clause-replay
returns-clause-replay c = replay-named
