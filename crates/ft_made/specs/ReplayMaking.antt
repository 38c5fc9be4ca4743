-- Replaying with events that readings make: each goes past the attached triggers at once.
use Rattle.std.specs.Prelude.{ℕ, fold}
use Rattle.std.specs.Option.{option_map_or}
use Rattle.std.specs.FinMap as map
use Rattle.ft_fields.specs.Traced.{Traced}
use Rattle.ft_fields.specs.declared.pos.Pos.{Pos}
use Rattle.ft_hist.specs.Hist.{Hist}
use Rattle.ft_hist.specs.Triggers.{Triggers}
use Rattle.ft_replay.specs.Merged.{Events}
use Rattle.ft_replay.specs.Replay.{Tallies, State, act_at, started}
use Rattle.ft_made.specs.Making.{made_now, goes_past}

-- what replaying has come to: the state after the held events, and what each trigger has counted of the made ones
pub record StateMaking : Type 0 where
  pub first : State
  pub made : Tallies

-- one event at one attached trigger: the event that its reading makes goes past first, even if the trigger's own hit is dropped; then the trigger acts (kernel: histogram.rst, `onmatch`; what comes first is our own choice)
unfoldable pub act_making : Triggers → Pos × Traced → StateMaking → ℕ × Hist → StateMaking
act_making triggers entry state attached = record {
  first = act_at triggers entry state.first attached;
  made = option_map_or (goes_past triggers state.made) (made_now triggers (map.get state.first.variables) entry attached) state.made;
}

-- one event: the attached triggers act in order of id
unfoldable pub step_making : Triggers → StateMaking → Pos × Traced → StateMaking
step_making triggers state entry = fold (act_making triggers entry) state (map.entries triggers)

-- what replaying events in merged order gives, with the events that readings make (kernel: histogram.rst, `onmatch`; replaying held events is our own choice)
unfoldable pub replay_making : Triggers → Events → StateMaking
replay_making triggers events =
    fold (step_making triggers) (record { first = record { tallies = started triggers; variables = map.empty }; made = started triggers }) (map.entries events)
