use Rattle.std.proofs.Common.{rules, refl}
use Rattle.ft_pids.proofs.Paged.{filled}
use Rattle.ft_pids.proofs.pages.fill.Goals as goal

pub returns-in_ok-resize-clause-same : goal.returns-in_ok-resize-clause-same
returns-in_ok-resize-clause-same c = λ index. filled c.args.numbers.now.items c.resize.new.self.items c.args.numbers.now.len index (search rules) (search rules) (search rules)
    (c.in_ok-resize.ensures.by_index.0 index 0) (c.in_ok-resize.ensures.by_index.1 index 0 refl)
