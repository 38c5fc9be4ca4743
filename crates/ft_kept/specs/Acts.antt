-- Acts: what each trigger has to count at each event, and how one more comes.
use Rattle.std.specs.Prelude.{◌≡◌, ℕ, List, Option, Some, option_map, option_and_then}
use Rattle.std.specs.FinMap as map
use Rattle.std.specs.FinMap.{FinMap}
use Rattle.ft_fields.specs.Places.{pos_cmp}
use Rattle.ft_fields.specs.Traced.{Traced}
use Rattle.ft_hist.specs.Hist.{Hist}
use Rattle.ft_hist.specs.Hit.{hit}
use Rattle.ft_hist.specs.Triggers.{Triggers}
use Rattle.ft_fields.specs.declared.key.Part.{Part}
use Rattle.ft_lanes.specs.Held.{Lanes}
use Rattle.ft_pairs.specs.Source.{Ops}
use Rattle.ft_pairs.specs.declared.at.At.{At}
use Rattle.ft_pairs.specs.declared.role.Role.{Role}
use Rattle.ft_pairs.specs.declared.role.Variable.{Variable}
use Rattle.ft_pairs.specs.Roles.{Admits, op_as}
use Rattle.ft_kept.specs.Repairs.{IsHeldAt}

-- the acts: at each place the key that the event there has at the trigger, and the event, if it has the trigger's name and passes its filter
abbrev pub Acts : Type 0
Acts = At → Option (List Part × Traced)

-- the act of a trigger at an event, if the event is a hit of it (kernel: histogram.rst, hist triggers)
abbrev pub act_under : Hist → Traced → Option (List Part × Traced)
act_under hist event = option_map (λ key. (key, event)) (hit hist event)

-- the act of an attached trigger at an event, if there is one (kernel: histogram.rst, hist triggers)
abbrev pub act_by_id : Triggers → ℕ → Option Traced → Option (List Part × Traced)
act_by_id triggers id event = option_and_then (λ event. option_and_then (λ hist. act_under hist event) (map.get triggers id)) event

-- the acts of attached triggers at events (kernel: histogram.rst, hist triggers)
unfoldable pub acts_of : Triggers → FinMap pos_cmp Traced → Acts
acts_of triggers events at = act_by_id triggers at.trigger (map.get events at.pos)

-- the operations on a variable that acts are, if triggers have these roles and savers' tables these keys (kernel: histogram.rst, inter-event hist triggers)
unfoldable pub op_of : (ℕ → Role) → Admits → Acts → Variable → Ops
op_of role admits acts variable at = option_and_then (λ act. op_as admits (role at.trigger) variable at.trigger act.0) (acts at)

-- an act is that of its trigger at an event that is held, with the stamp of its place
abbrev pub IsHeldAct : Triggers → Lanes → At → List Part × Traced → Type 0
IsHeldAct triggers lanes at act = IsHeldAt lanes at.pos act.1 × (act_by_id triggers at.trigger (Some act.1) ≡ Some act)

-- each act is so
abbrev pub AreHeld : Triggers → Lanes → Acts → Type 0
AreHeld triggers lanes acts = (at : At) (act : List Part × Traced) → acts at ≡ Some act → IsHeldAct triggers lanes at act
