use Rattle.std.proofs.Common.{◌++◌, ◌∷◌, [], sym, subst, IsPermutation}
use Rattle.ft_replay.proofs.Taking.{put_in}
use Rattle.ft_replay.proofs.ordered.put_at.Goals as goal

pub returns-in_ok-insert : goal.returns-in_ok-insert
returns-in_ok-insert c =
    subst (IsPermutation (c.args.events.now.items ++ c.args.event ∷ [])) (sym c.in_ok-insert.ensures.items) (put_in c.args.events.now.items c.args.index c.args.event)
