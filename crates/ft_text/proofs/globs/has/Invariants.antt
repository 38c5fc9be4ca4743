use Rattle.std.proofs.Common.{◌↔◌, List, length}
use Rattle.ft_text.specs.Glob.{Member, MembersAre, SomeHas}
use Rattle.ft_text.proofs.globs.has.Given as goal

abbrev pub invariant-loop-member : goal.invariant-loop-member
invariant-loop-member l =
    (members : List Member) → MembersAre l.inside members → (behind : List Member) × MembersAre l.rest behind × (SomeHas members l.byte ↔ SomeHas behind l.byte)

abbrev pub decreases-loop-member : goal.decreases-loop-member
decreases-loop-member l = length l.rest
