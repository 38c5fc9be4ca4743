use Rattle.std.proofs.Common.{◌↔◌, length}
use Rattle.ft_text.specs.inner.Walk.{ReadsAsItems}
use Rattle.ft_text.proofs.globs.is_glob.Given as goal

abbrev pub invariant-loop-first : goal.invariant-loop-first
invariant-loop-first l = ReadsAsItems l.pattern ↔ ReadsAsItems l.rest

abbrev pub decreases-loop-first : goal.decreases-loop-first
decreases-loop-first l = length l.rest
