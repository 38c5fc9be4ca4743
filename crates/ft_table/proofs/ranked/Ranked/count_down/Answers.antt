use Rattle.std.proofs.Common.{refl}
use Rattle.ft_hits.specs.Hits.{hitcount}
use Rattle.ft_table.specs.inner.Moves.{order_with, with_more}
use Rattle.ft_table.proofs.Counts.{split-down-in, split-down-out, more_here, more_else}
use Rattle.ft_table.proofs.Standings.{rank_with, inside_lt, outside_le}
use Rattle.ft_table.proofs.ranked.Ranked.count_down.Goals as goal

pub overflow_sub-self : goal.overflow_sub-self
overflow_sub-self c =
    let hits = c.args.hits.now in let m = c.args.first in let size = c.args.self.now.order.size in
    let count = hitcount hits in
    let at = rank_with hits m size in
    (split-down-in hits count (with_more count m.key) m (order_with hits m) refl at.0 at.1 (more_here count m.key) (more_else count m.key) (inside_lt hits m size c.args.inside c.requires.inside c.if-inside.true at.0 at.1) c.requires.cut).0

pub overflow_sub-self-else-inside : goal.overflow_sub-self-else-inside
overflow_sub-self-else-inside c =
    let hits = c.args.hits.now in let m = c.args.first in let size = c.args.self.now.order.size in
    let count = hitcount hits in
    let at = rank_with hits m size in
    (split-down-out hits count (with_more count m.key) m (order_with hits m) refl at.0 at.1 (more_here count m.key) (more_else count m.key) (outside_le hits m size c.args.inside c.requires.inside c.if-inside.false at.0 at.1) c.requires.cut).0

pub returns-then-inside-clause-cut : goal.returns-then-inside-clause-cut
returns-then-inside-clause-cut c =
    let hits = c.args.hits.now in let m = c.args.first in let size = c.args.self.now.order.size in
    let count = hitcount hits in
    let at = rank_with hits m size in
    (split-down-in hits count (with_more count m.key) m (order_with hits m) refl at.0 at.1 (more_here count m.key) (more_else count m.key) (inside_lt hits m size c.args.inside c.requires.inside c.if-inside.true at.0 at.1) c.requires.cut).1

pub returns-else-inside-clause-cut : goal.returns-else-inside-clause-cut
returns-else-inside-clause-cut c =
    let hits = c.args.hits.now in let m = c.args.first in let size = c.args.self.now.order.size in
    let count = hitcount hits in
    let at = rank_with hits m size in
    (split-down-out hits count (with_more count m.key) m (order_with hits m) refl at.0 at.1 (more_here count m.key) (more_else count m.key) (outside_le hits m size c.args.inside c.requires.inside c.if-inside.false at.0 at.1) c.requires.cut).1
