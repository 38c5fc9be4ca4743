use Rattle.ft_answers.proofs.AnswerSteps.{unload_costs}
use Rattle.ft_answers.proofs.plain.PlainBoardBoard.unload.Goals as goal

pub returns-clause-repairs : goal.returns-clause-repairs
returns-clause-repairs c = unload_costs c.self.inside.content c.unload.new.self c.args.cpu c.self.inside.work c.args.self.now c.self.view_is
