-- A CPU above all that may be held has no lane.
use Rattle.std.proofs.Common.{arith}
use Rattle.ft_base.proofs.HeldLanes.{no_lane-beyond}
use Rattle.ft_base.proofs.content.held_lane.Goals as goal

pub returns-then-cpu-gt-CPU_LIMIT-clause-none : goal.returns-then-cpu-gt-CPU_LIMIT-clause-none
returns-then-cpu-gt-CPU_LIMIT-clause-none c = λ _. no_lane-beyond c.args.lanes.now c.args.cpu c.requires (omega arith)
