-- What contracts see of a trigger.
use Rattle.std.specs.Prelude.{◌≡◌}
use Rattle.std.specs.Option.{ForSome}
use Rattle.ft_hist.specs.declared.trigger.Trigger.TheInside.{Inside}
use Rattle.ft_hist.specs.Hist.{Hist, IsWithin, hist_with, hist_with_onmatch}
use Rattle.ft_hist.specs.Sound.{IsSound}

-- a trigger's parts, wherever they are in memory
abbrev pub hist_of : Inside → Hist
hist_of t = hist_with_onmatch (hist_with t.event t.keys.items t.values.items t.sort.items t.variable t.size t.filter) t.onmatch

-- a trigger is within its limits, its items are its event's and its own, and its filter is for its event
pub record IsWhole (t : Inside) : Type 0 where
  pub within : IsWithin (hist_of t)
  pub sound : IsSound (hist_of t)
  pub filter : ForSome t.filter (λ f. f.event ≡ t.event)
