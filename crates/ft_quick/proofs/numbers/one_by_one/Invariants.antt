use Rattle.std.proofs.Common.{◌-◌, drop}
use Rattle.ft_quick.proofs.Runs.{IsRead}
use Rattle.ft_quick.proofs.numbers.one_by_one.Given as goal

abbrev pub invariant-loop-at : goal.invariant-loop-at
invariant-loop-at l = IsRead (drop l.from l.line) (l.at - l.from) l.number
