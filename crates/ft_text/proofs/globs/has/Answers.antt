use Rattle.ft_text.proofs.GlobMembers.{none_has}
use Rattle.ft_text.proofs.globs.has.Goals as goal

pub returns : goal.returns
returns c = λ members h.
    let left = c.loop-member.invariant members h in
    (λ f. absurd cc, λ has. absurd (none_has c.loop-member.rest.now left.0 c.args.byte c.in_default.ensures.none left.1 (left.2.0 has)))
