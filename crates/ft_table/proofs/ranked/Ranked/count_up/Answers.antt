use Rattle.std.proofs.Common.{refl}
use Rattle.ft_hits.specs.Hits.{hitcount}
use Rattle.ft_table.specs.inner.Moves.{order_with, with_less}
use Rattle.ft_table.proofs.Counts.{split-up-in, split-up-out, less_here, less_else}
use Rattle.ft_table.proofs.Standings.{rank_with, inside_lt, outside_le}
use Rattle.ft_table.proofs.ranked.Ranked.count_up.Goals as goal

pub returns-then-inside-clause-cut : goal.returns-then-inside-clause-cut
returns-then-inside-clause-cut c =
    let hits = c.args.hits.now in let m = c.args.first in let size = c.args.self.now.order.size in
    let count = hitcount hits in
    let at = rank_with hits m size in
    split-up-in hits (with_less count m.key) count m (order_with hits m) refl at.0 at.1 (less_here count m.key c.requires.some) (less_else count m.key) (inside_lt hits m size c.args.inside c.requires.inside c.if-inside.true at.0 at.1) c.requires.cut c.requires.few

pub returns-else-inside-clause-cut : goal.returns-else-inside-clause-cut
returns-else-inside-clause-cut c =
    let hits = c.args.hits.now in let m = c.args.first in let size = c.args.self.now.order.size in
    let count = hitcount hits in
    let at = rank_with hits m size in
    split-up-out hits (with_less count m.key) count m (order_with hits m) refl at.0 at.1 (less_here count m.key c.requires.some) (less_else count m.key) (outside_le hits m size c.args.inside c.requires.inside c.if-inside.false at.0 at.1) c.requires.cut c.requires.few
