use Rattle.std.proofs.Common.{◌≡◌, ◌++◌, take}
use Rattle.std.specs.List.{flat_map}
use Rattle.ft_dispatch.specs.Showings.{shown_by, first_by}
use Rattle.ft_dispatch.specs.Telling.{known}
use Rattle.ft_dispatch.proofs.showing.show_all.Given as goal

abbrev pub invariant-loop-first : goal.invariant-loop-first
invariant-loop-first l = (l.shown.showings.items ≡ l.fn.shown.showings.items ++ flat_map (shown_by (known l.fn.tasks)) (take l.first-index l.firsts))
    × (l.shown.firsts.items ≡ l.fn.shown.firsts.items ++ flat_map (first_by (known l.fn.tasks)) (take l.first-index l.firsts))
