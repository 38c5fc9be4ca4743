use Rattle.std.proofs.Common.{rules}
use Rattle.ft_script.proofs.files.read_file.Goals as goal

pub returns-clause-whole : goal.returns-clause-whole
returns-clause-whole g c = search rules
