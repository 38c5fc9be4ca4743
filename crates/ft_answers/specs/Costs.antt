-- What edits and answers cost, in steps.
use Rattle.std.specs.Prelude.{◌≡◌, ℕ, ◌+◌, ◌≤◌, true, false, List, length, nat_lt, Some, Result, Ok, Err}
use Rattle.std.specs.FinMap as map
use Rattle.ft_fields.specs.Traced.{Traced}
use Rattle.ft_hist.specs.Steps.{StepsGrow}
use Rattle.ft_lanes.specs.Held.{Lane, held_in, is_small}
use Rattle.ft_base.specs.declared.refused.Refused.{Refused}
use Rattle.ft_base.specs.OneTrigger.{ReadsNothing}
pub use Rattle.ft_replay.specs.Costs.{SaversStay, CostsOf, count_on_lane, count_on_all, named_in, family_tests}
use Rattle.ft_replay.specs.Merged.{merged}
use Rattle.ft_answers.specs.Counting.{MakesNothing}
use Rattle.ft_answers.specs.Shown.{Shown}

-- a board keeps tables after an edit if and only if it did before, and no count falls; a refused edit takes no step
abbrev pub EditCounts : {S : Type 0} → Shown → Shown → Result S Refused → Type 0
EditCounts old new (Ok done) = (new.keeps ≡ old.keeps) × StepsGrow old.steps new.steps
EditCounts old new (Err refused) = (new.keeps ≡ old.keeps) × (new.steps ≡ old.steps)

-- a board keeps tables, and no edit is missing in them
pub record IsUpToDate (board : Shown) : Type 0 where
  pub keeps : board.keeps ≡ true
  pub now : board.deferred ≡ false

-- what an edit of one event costs a board if no made event is counted, whether its tables lack an edit or not
abbrev pub RepairCosts : Traced → Shown → Shown → Type 0
RepairCosts event old new = MakesNothing old.base.triggers → CostsOf old.base.triggers event (merged old.base.lanes) (merged new.base.lanes) old.steps new.steps

-- what another filter costs a trigger that reads nothing: one test at most for each held event on its name and, for each trigger that reads what it saves, for each held event on that trigger's name; whatever else is attached, as long as no made event is counted
abbrev pub FilterCosts : ℕ → Shown → Shown → Type 0
FilterCosts id old new = MakesNothing old.base.triggers → ReadsNothing old.base.triggers id → new.steps.evals ≤ old.steps.evals + family_tests new.base.triggers new.base.lanes id

-- what it costs a board to unload a CPU's lane that has fewer events than all other lanes together, if no made event is counted: one test at most for each of its events and each trigger on the event's name
abbrev pub UnloadCosts : ℕ → Shown → Shown → Type 0
UnloadCosts cpu old new =
    MakesNothing old.base.triggers → (lane : Lane) → map.get old.base.lanes cpu ≡ Some lane → is_small old.base.lanes cpu ≡ true
    → new.steps.evals ≤ old.steps.evals + count_on_lane old.base.triggers lane

-- what it costs a board to load fewer events than it holds, if no made event is counted: one test at most for each of them and each trigger on the event's name
abbrev pub LoadCosts : List Traced → Shown → Shown → Type 0
LoadCosts events old new =
    MakesNothing old.base.triggers → nat_lt (length events) (held_in old.base.lanes) ≡ true
    → new.steps.evals ≤ old.steps.evals + count_on_all old.base.triggers events

-- what an answer costs: nothing if the board is up to date; no count falls, and a board keeps tables if and only if it did before
pub record AnswerCosts (old new : Shown) : Type 0 where
  pub keeps : new.keeps ≡ old.keeps
  pub grow : StepsGrow old.steps new.steps
  pub none : IsUpToDate old → new.steps ≡ old.steps
