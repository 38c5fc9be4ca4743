use Rattle.ft_replay.proofs.Matched.{matched, saved_before}
use Rattle.ft_replay.proofs.laws.matched_readings.Goals as goal

pub returns : goal.returns
returns c = record { found = matched; saved_first = saved_before }
