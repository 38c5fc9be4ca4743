use Rattle.std.proofs.Common.{◌++◌}
use Rattle.ft_waits.proofs.Streaming.{read-failed, fails-whole}
use Rattle.ft_waits.proofs.stream.Waits.finish.Goals as goal

pub returns-in-Some-clause-fails : goal.returns-in-Some-clause-fails
returns-in-Some-clause-fails c = λ choice text told read. fails-whole choice.bad_lines text c.in-Some.fault (read-failed choice c.args.self text (told ++ c.args.out.now.items) c.in-Some.fault c.in-Some.is read)
