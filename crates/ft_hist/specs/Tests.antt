-- How often events are tested against triggers.
use Rattle.std.specs.Prelude.{ℕ, length, if◌then◌else◌}
use Rattle.std.specs.List.{filter}
use Rattle.std.specs.FinMap as map
use Rattle.ft_fields.specs.Traced.{Traced, name_of}
use Rattle.ft_hist.specs.Hist.{Hist}
use Rattle.ft_hist.specs.Hit.{same_name}
use Rattle.ft_hist.specs.Triggers.{Triggers}

-- how many attached triggers are on an event's name (kernel: histogram.rst, hist triggers)
abbrev pub count_on : Triggers → Traced → ℕ
count_on triggers event = length (filter (λ attached. same_name attached.1.event (name_of event.body)) (map.entries triggers))

-- how many tests an event takes at a trigger: one, if the trigger is on its name (kernel: histogram.rst, hist triggers)
abbrev pub tests_taken : Hist → Traced → ℕ
tests_taken hist event = if same_name hist.event (name_of event.body) then 1 else 0
