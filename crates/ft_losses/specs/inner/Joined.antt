-- What is kept of a CPU behind a part.
use Rattle.std.specs.Prelude.{ℕ, option_map}
use Rattle.std.specs.Option.{option_or}
use Rattle.ft_losses.specs.Joining.{loss_behind}
use Rattle.ft_losses.specs.declared.lanes.Lane.{Lane}

-- a CPU behind a part that was read apart, if it lost nothing since its last event before the part
abbrev pub lane_behind : ℕ → Lane → Lane → Lane
lane_behind lines before part = record { first = option_or before.first part.first; last = option_or part.last before.last; lost = option_map (loss_behind lines) part.lost; overwritten = option_or part.overwritten before.overwritten }
