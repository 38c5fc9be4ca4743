use Rattle.std.proofs.Common.{rules}
use Rattle.ft_text.proofs.pieces.Piece.behind.Goals as goal

pub returns-clause-place : goal.returns-clause-place
returns-clause-place c = search rules
