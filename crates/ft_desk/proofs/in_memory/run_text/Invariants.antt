use Rattle.std.proofs.Common.{map, length}
use Rattle.ft_desk.specs.Output.{outcome}
use Rattle.ft_desk.proofs.InMemory.{SoFar}
use Rattle.ft_desk.proofs.in_memory.run_text.Given as goal

abbrev pub invariant-loop-line : goal.invariant-loop-line
invariant-loop-line g l = SoFar (outcome (map (λ f. f.items) l.files)) l.script l.rest l.desk.base l.output.items l.refused

abbrev pub decreases-loop-line : goal.decreases-loop-line
decreases-loop-line g l = length l.rest
