use Rattle.std.proofs.Common.{rules}
use Rattle.ft_answers.proofs.plain.PlainBoardBoard.load.Goals as goal

pub returns-clause-gives : goal.returns-clause-gives
returns-clause-gives c = search rules
