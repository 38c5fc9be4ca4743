-- Events that are hits only of triggers without a variable.
use Rattle.std.specs.Prelude.{◌≡◌, ℕ, List, Some, None}
use Rattle.std.specs.FinMap as map
use Rattle.ft_fields.specs.Traced.{Traced}
use Rattle.ft_fields.specs.declared.key.Part.{Part}
use Rattle.ft_hist.specs.Hist.{Hist}
use Rattle.ft_hist.specs.Hit.{hit}
use Rattle.ft_lanes.specs.Held.{Lanes, event_at}
use Rattle.ft_base.specs.Base.{Triggers}

-- each attached trigger that the event is a hit of has no variable (kernel: histogram.rst, inter-event hist triggers)
abbrev pub IsPlainHit : Triggers → Traced → Type 0
IsPlainHit triggers event = (id : ℕ) (hist : Hist) → map.get triggers id ≡ Some hist → (key : List Part) → hit hist event ≡ Some key → hist.variable ≡ None

-- each event of a CPU's lane is a hit only of triggers without a variable (kernel: histogram.rst, inter-event hist triggers)
abbrev pub IsPlainLane : Triggers → Lanes → ℕ → Type 0
IsPlainLane triggers lanes cpu = (line : ℕ) (event : Traced) → event_at lanes cpu line ≡ Some event → IsPlainHit triggers event
