use Rattle.std.proofs.Common.{◌∙◌}
use Rattle.ft_script.proofs.WordLemmas.{strike_at, strike_none}
use Rattle.ft_script.proofs.script.strike.Goals as goal

pub returns-in-Some : goal.returns-in-Some
returns-in-Some c = c.strike_of.ensures ∙ rw c.number.ensures (rw c.number-in-Some.ensures (strike_at c.args.text.now c.in-Some.colon c.in-Some.ensures))

pub returns-in-None : goal.returns-in-None
returns-in-None c = strike_none c.args.text.now c.in-None.ensures
