use Rattle.std.proofs.Common.{rules}
use Rattle.ft_answers.proofs.plain.PlainBoardBoard.is_deferred.Goals as goal

pub returns : goal.returns
returns c = search rules
