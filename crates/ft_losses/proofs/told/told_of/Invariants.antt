use Rattle.std.proofs.Common.{◌≡◌, take, map as list_map}
use Rattle.std.specs.Option.{is_some}
use Rattle.std.specs.Prelude.{vec_len}
use Rattle.ft_losses.specs.declared.lanes.Lane.{Lane}
use Rattle.ft_losses.proofs.told.told_of.Given as goal

abbrev pub invariant-loop-lane : goal.invariant-loop-lane
invariant-loop-lane l = record {
  len : vec_len l.told ≡ l.lane-index;
  each : l.told.items ≡ list_map (λ (lane : Lane). is_some lane.overwritten) (take l.lane-index l.lanes);
}
