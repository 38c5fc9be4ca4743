use Rattle.std.proofs.Common.{◌∙◌}
use Rattle.ft_script.proofs.WordLemmas.{first_at}
use Rattle.ft_script.proofs.script.word_len.Goals as goal

pub returns : goal.returns
returns c = c.unwrap_or.ensures ∙ first_at 32 c.args.text.now c.memchr.result c.memchr.ensures
