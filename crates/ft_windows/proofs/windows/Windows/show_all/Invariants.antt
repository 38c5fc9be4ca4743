use Rattle.std.proofs.Common.{◌++◌, List, take}
use Rattle.ft_dispatch.specs.declared.showing.Showing.{Showing}
use Rattle.ft_fields.specs.Traced.{Traced}
use Rattle.ft_windows.specs.Telling.{Keeps}
use Rattle.ft_windows.proofs.windows.Windows.show_all.Given as goal

abbrev pub invariant-loop-showing : goal.invariant-loop-showing
invariant-loop-showing l = (events : List Traced) (showings : List Showing) → Keeps l.fn.self events showings → Keeps l.self events (showings ++ take l.showing-index l.more)
