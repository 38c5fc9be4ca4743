use Rattle.ft_quick.proofs.Marked.{dash_found}
use Rattle.ft_quick.proofs.Places.{task_at, task_within}
use Rattle.ft_quick.proofs.columns.Columns.task_end.Goals as goal

pub returns-clause-task : goal.returns-clause-task
returns-clause-task c =
    task_at c.args.self.now.line.now c.args.from c.in_ok-end.end (dash_found c.args.self.now.line.now c.args.self.now.dashes c.args.self.now.digits c.args.from c.in_ok-end.end c.requires.marked.dashes c.requires.marked.digits c.in_ok-end.ensures)

pub returns-clause-within : goal.returns-clause-within
returns-clause-within c =
    task_within c.args.self.now.line.now c.args.from c.in_ok-end.end (dash_found c.args.self.now.line.now c.args.self.now.dashes c.args.self.now.digits c.args.from c.in_ok-end.end c.requires.marked.dashes c.requires.marked.digits c.in_ok-end.ensures)
