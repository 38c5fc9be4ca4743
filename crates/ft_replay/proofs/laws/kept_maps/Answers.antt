use Rattle.ft_replay.proofs.Replaying.{tally-kept}
use Rattle.ft_replay.proofs.laws.kept_maps.Goals as goal

pub returns : goal.returns
returns c = tally-kept c.one_more_hit.ensures.rows c.one_more_hit.ensures.totals c.one_more_hit.ensures.members
