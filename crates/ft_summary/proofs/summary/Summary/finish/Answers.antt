use Rattle.std.proofs.Common.{◌∙◌}
use Rattle.ft_summary.proofs.Listing.{listed-cpus, listed-tasks}
use Rattle.ft_summary.proofs.summary.Summary.finish.Goals as goal

pub returns : goal.returns
returns c = λ acts tells. (
  c.in_ok-tasks.ensures ∙ listed-tasks c.args.self.now.tasks acts tells.tasks tells.tasks_ascend,
  c.in_ok-cpus.ensures ∙ listed-cpus c.args.self.now.cpus acts tells.cpus tells.cpus_ascend,
)
