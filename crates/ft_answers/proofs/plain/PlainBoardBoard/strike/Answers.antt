use Rattle.std.proofs.Common.{rules}
use Rattle.ft_answers.proofs.AnswerSteps.{edited_costs}
use Rattle.ft_answers.proofs.plain.PlainBoardBoard.strike.Goals as goal

pub returns-clause-repairs : goal.returns-clause-repairs
returns-clause-repairs c event _ = edited_costs c.self.inside.content c.strike.new.self event c.self.inside.work c.args.self.now c.self.view_is

pub returns-clause-reports : goal.returns-clause-reports
returns-clause-reports c = search rules
