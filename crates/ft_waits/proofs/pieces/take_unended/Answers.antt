use Rattle.std.proofs.Common.{List, ℕ, sym, subst}
use Rattle.ft_waits.specs.inner.Streams.{IsLike}
use Rattle.ft_waits.proofs.pieces.take_unended.Goals as goal

pub returns-clause-ok : goal.returns-clause-ok
returns-clause-ok c = λ line before told like reads. c.in_ok-take_line.ensures.ok line before told (subst (λ (kept : List ℕ). IsLike kept line) (sym c.deref.ensures.value) like) reads
