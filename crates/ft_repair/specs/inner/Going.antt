-- What is kept while the events of a lane go.
use Rattle.std.specs.Prelude.{◌≡◌, ◌+◌, ◌≤◌, ℕ, List, [], Option, Some, Ok, Result, OnOk, IsPermutation}
use Rattle.std.specs.Option.{option_map_or}
use Rattle.std.specs.declared.alloc.AllocError.{AllocError}
use Rattle.std.specs.FinMap as map
use Rattle.ft_changes.specs.declared.changed.ReadingChange.{ReadingChange}
use Rattle.ft_fields.specs.Traced.{Traced}
use Rattle.ft_fields.specs.declared.pos.Pos.{Pos}
use Rattle.ft_hist.specs.Steps.{Steps, StepsGrow}
use Rattle.ft_kept.specs.Changes.{ReadingsTold}
use Rattle.ft_kept.specs.Shelves.{FormsStay, Shelves}
use Rattle.ft_lanes.specs.Held.{Lane, Lanes}
use Rattle.ft_base.specs.Base.{Base}
use Rattle.ft_base.specs.PlainHits.{IsPlainLane}
use Rattle.ft_replay.specs.Costs.{count_on_lane}
use Rattle.ft_replay.specs.Merged.{placed}
use Rattle.ft_repair.specs.ButOneLane.{AreKeptWithoutLane}

-- the events of a CPU's lane, each at its place, by line; none if there is no lane
abbrev pub lane_events : Lanes → ℕ → List (Pos × Traced)
lane_events lanes cpu = option_map_or (λ lane. placed (cpu, lane)) (map.get lanes cpu) []

-- a list has the events of a CPU's lane, each once, in any order
abbrev pub HasItsLane : Lanes → ℕ → List (Pos × Traced) → Type 0
HasItsLane lanes cpu events = IsPermutation (lane_events lanes cpu) events

-- the events of a CPU's lane went from the shelves, and the readings that changed were told, unless memory ran out; plain hits take none, and change no reading
pub record LaneGoes (base : Base) (cpu : ℕ) (result : Result (Unit {0}) AllocError) (old new : Shelves) (before after : Option (List ReadingChange)) (work done : Steps) : Type 0 where
  pub kept : OnOk result (AreKeptWithoutLane base cpu new)
  pub forms : OnOk result (FormsStay old new)
  pub reread : OnOk result (ReadingsTold before after old new)
  pub quiet : IsPlainLane base.triggers base.lanes cpu → after ≡ before
  pub now : IsPlainLane base.triggers base.lanes cpu → result ≡ Ok tt
  pub evals : (lane : Lane) → map.get base.lanes cpu ≡ Some lane → done.evals ≤ work.evals + count_on_lane base.triggers lane
  pub grow : StepsGrow work done
