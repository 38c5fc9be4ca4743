use Rattle.std.proofs.Common.{◌↔◌, length}
use Rattle.ft_text.specs.inner.Walk.{ReadsAsMembers}
use Rattle.ft_text.proofs.globs.are_members.Given as goal

abbrev pub invariant-loop-member : goal.invariant-loop-member
invariant-loop-member l = ReadsAsMembers l.inside ↔ ReadsAsMembers l.rest

abbrev pub decreases-loop-member : goal.decreases-loop-member
decreases-loop-member l = length l.rest
