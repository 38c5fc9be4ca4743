-- The operations on a variable, in a whole replay (kernel: histogram.rst, inter-event hist triggers).
use Rattle.std.specs.Prelude.{ℕ, Bool, false, List, option_and_then}
use Rattle.std.specs.Option.{option_map_or}
use Rattle.std.specs.FinMap as map
use Rattle.ft_fields.specs.declared.key.Part.{Part}
use Rattle.ft_hist.specs.Hit.{hit}
use Rattle.ft_pairs.specs.Source.{Ops}
use Rattle.ft_pairs.specs.declared.role.Variable.{Variable}
use Rattle.ft_base.specs.Base.{Triggers}
use Rattle.ft_replay.specs.Merged.{Events}
use Rattle.ft_replay.specs.Replay.{State, replay}
use Rattle.ft_base.specs.Roles.{role_at}
use Rattle.ft_pairs.specs.Roles.{op_as}

-- the key is in the table of the trigger with the id (kernel: histogram.rst, `size`)
unfoldable pub is_admitted : State → ℕ → List Part → Bool
is_admitted state id key = option_map_or (λ tally. map.contains_key tally.table key) (map.get state.tallies id) false

-- the operations on a variable: at each place what the trigger does to it there, if the trigger is on the event's name and the event passes its filter (kernel: histogram.rst, inter-event hist triggers)
unfoldable pub ops_on : Triggers → Events → Variable → Ops
ops_on triggers events variable at =
    option_and_then (λ event. option_and_then (λ hist. option_and_then
    (op_as (is_admitted (replay triggers events)) (role_at triggers at.trigger) variable at.trigger)
    (hit hist event)) (map.get triggers at.trigger)) (map.get events at.pos)
