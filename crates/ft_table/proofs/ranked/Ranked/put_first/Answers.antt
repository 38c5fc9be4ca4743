-- A mark that came and goes again leaves all as it was.
use Rattle.std.proofs.Common.{subst, sym}
use Rattle.ft_table.specs.inner.Ordered.{Lacks}
use Rattle.ft_table.proofs.Comings.{no_mark, came_there, came_back}
use Rattle.ft_table.proofs.ranked.Ranked.put_first.Goals as goal

pub insert-requires : goal.insert-requires
insert-requires c = subst (λ ms. Lacks ms c.args.mark) (sym c.requires.order) (no_mark c.args.hits.now c.args.mark c.requires.absent)

pub remove-requires : goal.remove-requires
remove-requires c = came_there c.args.hits.now c.args.mark c.args.self.now.order c.insert.new.self c.requires.order c.in_ok-insert.ensures.ok

pub returns-in-Err-clause-same_order : goal.returns-in-Err-clause-same_order
returns-in-Err-clause-same_order c = came_back c.args.hits.now c.args.mark c.args.self.now.order c.insert.new.self c.requires.order c.in_ok-insert.ensures.ok c.remove.new.self c.remove.ensures
