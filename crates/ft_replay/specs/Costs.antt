-- What it costs, in steps, to bring tables up to date: bounds by how many triggers are on the names of events.
use Rattle.std.specs.Prelude.{◌≡◌, ℕ, ◌+◌, ◌*◌, ◌≤◌, List, if◌then◌else◌}
use Rattle.std.specs.List.{sum_by}
use Rattle.std.specs.FinMap as map
use Rattle.ft_fields.specs.Traced.{Traced}
use Rattle.ft_fields.specs.declared.key.Part.{Part}
use Rattle.ft_hist.specs.Hist.{Hist}
use Rattle.ft_hist.specs.Hit.{same_name}
use Rattle.ft_hist.specs.Steps.{Steps}
use Rattle.ft_hist.specs.Tests.{count_on}
use Rattle.ft_pairs.specs.declared.role.Role.TheVariants.{Saves}
use Rattle.ft_lanes.specs.Held.{Lane, Lanes}
use Rattle.ft_base.specs.Base.{Triggers}
use Rattle.ft_base.specs.OneTrigger.{is_in_family}
use Rattle.ft_base.specs.Roles.{role_at}
use Rattle.ft_replay.specs.Merged.{Events, merged}
use Rattle.ft_replay.specs.Named.{events_on}
use Rattle.ft_replay.specs.Operations.{is_admitted}
use Rattle.ft_replay.specs.Replay.{replay}

-- each saver's table has the same keys over some events as over others (kernel: histogram.rst, `size`)
abbrev pub SaversStay : Triggers → Events → Events → Type 0
SaversStay triggers old new = (id : ℕ) → role_at triggers id ≡ Saves → (key : List Part) → is_admitted (replay triggers new) id key ≡ is_admitted (replay triggers old) id key

-- for each trigger on its name, an event costs one test at most and, if no saver's keys change, three puts at most: a hit, an operation, and a reading made right
pub record CostsOf (triggers : Triggers) (event : Traced) (before after : Events) (old new : Steps) : Type 0 where
  pub evals : new.evals ≤ old.evals + count_on triggers event
  pub puts : SaversStay triggers before after → new.puts ≤ old.puts + 3 * count_on triggers event

-- how many triggers are on the name of each event of a lane, taken together
abbrev pub count_on_lane : Triggers → Lane → ℕ
count_on_lane triggers lane = sum_by (λ entry. count_on triggers entry.1) (map.entries lane.events)

-- how many triggers are on the name of each of some events, taken together
abbrev pub count_on_all : Triggers → List Traced → ℕ
count_on_all triggers events = sum_by (λ event. count_on triggers event) events

-- how many held events are on a trigger's name (kernel: histogram.rst, hist triggers)
abbrev pub named_in : Lanes → Hist → ℕ
named_in lanes hist = map.len (events_on (same_name hist.event) (merged lanes))

-- how many tests it takes to give a trigger, and those that read what it saves, the held events on their names
abbrev pub family_tests : Triggers → Lanes → ℕ → ℕ
family_tests triggers lanes id = sum_by (λ attached. if is_in_family triggers id attached.0 then named_in lanes attached.1 else 0) (map.entries triggers)
