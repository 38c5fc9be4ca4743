use Rattle.ft_hist.proofs.KindLemmas.{keys_match_is}
use Rattle.ft_hist.proofs.trigger.Trigger.keys_match.Goals as goal

pub returns-clause-meaning : goal.returns-clause-meaning
returns-clause-meaning c = rw (c.items_match.ensures, c.keys.ensures.value, c.keys-2.ensures.value) (keys_match_is _ _)
