use Rattle.std.proofs.Common.{◌≢◌, ◌<◌, length, get_or, arith}
use Rattle.ft_text.proofs.GlobMembers.{bounds_of_range, bounds_of_single}
use Rattle.ft_text.proofs.globs.first_member.Goals as goal
use Rattle.ft_text.proofs.globs.first_member.Goals.{else-rest-gt1-via-then-rest-gt1+else-rest-eq45, else-rest-gt1-via-else-rest-gt1}

pub returns-then-rest-eq45-clause-found : goal.returns-then-rest-eq45-clause-found
returns-then-rest-eq45-clause-found c =
    bounds_of_range c.args.inside.now c.in_ok-low.rest.now c.in_ok-low.low.now c.in_ok-low.ensures.cases.0 c.if-rest-gt1.true c.if-rest-eq45.true

pub returns-clause-found : goal.returns-clause-found
returns-clause-found c =
    let none : 1 < length c.in_ok-low.rest.now → get_or c.in_ok-low.rest.now 0 0 ≢ 45 =
    elim c.else-rest-gt1.branch [
      | else-rest-gt1-via-then-rest-gt1+else-rest-eq45 w ↦ λ long. w.if-rest-eq45.false
      | else-rest-gt1-via-else-rest-gt1 w ↦ λ long. absurd (omega arith)
    ] in
    bounds_of_single c.args.inside.now c.in_ok-low.rest.now c.in_ok-low.low.now c.in_ok-low.ensures.cases.0 none
