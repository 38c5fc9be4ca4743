-- Which attached triggers count the events that readings make (kernel: histogram.rst, synthetic events).
use Rattle.std.specs.Prelude.{◌≡◌, ◌⊎◌, ℕ, true, false, Some, None}
use Rattle.std.specs.FinMap as map
use Rattle.ft_hist.specs.Hist.{Hist}
pub use Rattle.ft_hist.specs.Made.{counts_made}
use Rattle.ft_hist.specs.Triggers.{Triggers}
use Rattle.ft_base.specs.Roles.{is_reader}

-- no attached trigger counts made events
abbrev pub CountNone : Triggers → Type 0
CountNone triggers = (id : ℕ) (hist : Hist) → map.get triggers id ≡ Some hist → counts_made hist ≡ false

-- no attached trigger that reads makes events; one that reads nothing has nothing to make them of
abbrev pub ReadersMakeNone : Triggers → Type 0
ReadersMakeNone triggers = (id : ℕ) (hist : Hist) → map.get triggers id ≡ Some hist → is_reader hist.variable ≡ true → hist.onmatch ≡ None

-- no made event is counted: no attached trigger that reads makes any, or none is on their name
abbrev pub MakesNothing : Triggers → Type 0
MakesNothing triggers = ReadersMakeNone triggers ⊎ CountNone triggers
