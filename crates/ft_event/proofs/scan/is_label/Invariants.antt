use Rattle.std.proofs.Common.{◌≡◌, drop, eqb}
use lib.Pointwise.{pointwise}
use Rattle.ft_event.proofs.scan.is_label.Given as goal

abbrev pub invariant-loop-at : goal.invariant-loop-at
invariant-loop-at g l = pointwise eqb (drop l.at l.text) (drop l.at l.label) ≡ pointwise eqb l.text l.label
