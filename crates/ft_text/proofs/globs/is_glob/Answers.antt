use Rattle.std.proofs.Common.{rules, arith}
use Rattle.std.proofs.lemmas.Grind.{common_steps}
use Rattle.ft_text.proofs.Deciding.{is_glob_exact}
use Rattle.ft_text.proofs.globs.is_glob.Goals as goal

pub returns-then-starts_with-clause-exact : goal.returns-then-starts_with-clause-exact
returns-then-starts_with-clause-exact c = is_glob_exact c.args.pattern.now _ (search rules)

pub returns-in-None-clause-exact : goal.returns-in-None-clause-exact
returns-in-None-clause-exact c = is_glob_exact c.args.pattern.now _ (search rules)

pub returns-clause-exact : goal.returns-clause-exact
returns-clause-exact c = is_glob_exact c.args.pattern.now _ (grind (arith, common_steps))
