-- What is kept of a CPU.
use Rattle.std.specs.Prelude.{ℕ, List, Option, Some, None, slice_index_or}
use Rattle.std.specs.Option.{option_or}
use Rattle.ft_losses.specs.Holes.{reported}
use Rattle.ft_losses.specs.declared.lanes.Lane.{Lane}

-- nothing is known of a CPU
abbrev pub no_lane : Lane
no_lane = record { first = None; last = None; lost = None; overwritten = None }

-- what is kept of a CPU
abbrev pub lane_in : List Lane → ℕ → Lane
lane_in lanes cpu = slice_index_or lanes cpu no_lane

-- a CPU after an event at a stamp
abbrev pub with_event : ℕ → Lane → Lane
with_event stamp lane = record { first = option_or lane.first (Some stamp); last = Some stamp; lost = None; overwritten = lane.overwritten }

-- a CPU after a line that reports a loss
abbrev pub with_loss : ℕ → Option ℕ → Lane → Lane
with_loss line count lane = record { first = lane.first; last = lane.last; lost = Some (reported line count lane.lost); overwritten = lane.overwritten }

-- a CPU after a line that reports how many events were overwritten
abbrev pub with_overwritten : ℕ → Lane → Lane
with_overwritten count lane = record { first = lane.first; last = lane.last; lost = lane.lost; overwritten = Some count }
