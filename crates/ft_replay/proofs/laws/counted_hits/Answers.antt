use Rattle.ft_replay.proofs.Growing.{get-tally}
use Rattle.ft_replay.proofs.KeptMaps.{pairs-found}
use Rattle.ft_replay.proofs.Listed.{get-replayed_hits}
use Rattle.ft_replay.proofs.OneByOne.{replayed_none}
use Rattle.ft_replay.proofs.Replaying.{tally-replayed, admitted-rank}
use Rattle.ft_replay.proofs.Shown.{rows-tally, totals-tally}
use Rattle.ft_replay.proofs.laws.counted_hits.Goals as goal

pub returns-clause-tally : goal.returns-clause-tally
returns-clause-tally c = tally-replayed c.one_more_hit.ensures.rows c.one_more_hit.ensures.totals c.one_more_hit.ensures.members

pub returns-clause-none : goal.returns-clause-none
returns-clause-none c = replayed_none

pub returns-clause-hits : goal.returns-clause-hits
returns-clause-hits c = get-replayed_hits

pub returns-clause-pairs : goal.returns-clause-pairs
returns-clause-pairs c = pairs-found

pub returns-clause-row : goal.returns-clause-row
returns-clause-row c = get-tally

pub returns-clause-rows : goal.returns-clause-rows
returns-clause-rows c = rows-tally c.one_row_order.ensures.permutation c.one_row_order.ensures.sorted c.one_row_order.ensures.alone

pub returns-clause-totals : goal.returns-clause-totals
returns-clause-totals c = totals-tally

pub returns-clause-rank : goal.returns-clause-rank
returns-clause-rank c =
    λ triggers events id hist key attached.
    admitted-rank c.one_more_hit.ensures.rows c.one_more_hit.ensures.totals c.one_more_hit.ensures.members triggers events id hist attached c.first_keys.ensures.rank key
