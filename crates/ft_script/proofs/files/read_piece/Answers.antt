use Rattle.std.proofs.Common.{rules}
use Rattle.ft_script.proofs.files.read_piece.Goals as goal

pub returns-clause-limit : goal.returns-clause-limit
returns-clause-limit g c = search rules

pub returns-clause-end : goal.returns-clause-end
returns-clause-end g c = search rules

pub returns-clause-count : goal.returns-clause-count
returns-clause-count g c = search rules
