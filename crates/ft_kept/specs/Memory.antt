-- Which repairs take no memory.
use Rattle.std.specs.Prelude.{◌≡◌, ℕ, List, Some}
use Rattle.std.specs.FinMap as map
use Rattle.ft_fields.specs.Traced.{Traced}
use Rattle.ft_hist.specs.Hist.{Hist}
use Rattle.ft_hist.specs.Triggers.{Triggers}
use Rattle.ft_hist.specs.Hit.{hit}
use Rattle.ft_fields.specs.declared.key.Part.{Part}
use Rattle.ft_pairs.specs.declared.role.Role.TheVariants.{Plain}
use Rattle.ft_shelves.specs.Shelves.{Shelves, role_on}

-- if the event is a hit of a trigger, the trigger with this id has no variable (kernel: histogram.rst, inter-event hist triggers)
abbrev pub ActsPlainly : Shelves → ℕ → Hist → Traced → Type 0
ActsPlainly shelves id hist event = (key : List Part) → hit hist event ≡ Some key → role_on shelves id ≡ Plain

-- each trigger that the event is a hit of has no variable (kernel: histogram.rst, inter-event hist triggers)
abbrev pub AllActPlainly : Triggers → Shelves → Traced → Type 0
AllActPlainly triggers shelves event = (id : ℕ) (hist : Hist) → map.get triggers id ≡ Some hist → ActsPlainly shelves id hist event
