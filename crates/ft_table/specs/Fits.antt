-- Tables whose keys fit a trigger's key items, as hits come and go.
use Rattle.std.specs.Prelude.{ℕ, ℤ, List}
use Rattle.std.specs.FinMap as map
use Rattle.ft_hist.specs.Fitting.{KeyFits}
use Rattle.ft_hist.specs.Hist.{Hist}
use Rattle.ft_hits.specs.declared.mark.Mark.{Mark}
use Rattle.ft_table.specs.Growth.{with_hit}
use Rattle.ft_table.specs.OneKey.{without_hit}
use Rattle.ft_table.specs.Rows.{AllFit}
use Rattle.ft_table.specs.Tabled.{Tabled}

-- without hits all keys fit
abbrev pub NoneFits : Type 0
NoneFits = (size : ℕ) (hist : Hist) → AllFit (record { hits = map.empty; size = size }) hist

-- if all keys fit, they still do when a hit comes whose key fits
abbrev pub OneMoreFits : Type 0
OneMoreFits = (table : Tabled) (hist : Hist) (m : Mark) (v : List ℤ) → AllFit table hist → KeyFits hist.keys m.key → AllFit (with_hit table m v) hist

-- if all keys fit, they still do when a hit goes
abbrev pub OneLessFits : Type 0
OneLessFits = (table : Tabled) (hist : Hist) (m : Mark) → AllFit table hist → AllFit (without_hit table m) hist
