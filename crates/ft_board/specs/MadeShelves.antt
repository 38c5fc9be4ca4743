-- Tables of made events that are kept beside shelves, so that no answer replays.
use Rattle.std.specs.Prelude.{◌≡◌, ℕ, true, unwrap_or, Some}
use Rattle.std.specs.Ordering.{nat_cmp}
use Rattle.std.specs.FinMap as map
use Rattle.std.specs.FinMap.{FinMap}
use Rattle.ft_hist.specs.Hist.{Hist}
use Rattle.ft_table.specs.Tabled.{Tabled}
use Rattle.ft_base.specs.Base.{Base, Triggers}
use Rattle.ft_replay.specs.Found.{saving_found}
use Rattle.ft_replay.specs.Merged.{Events, merged}
use Rattle.ft_changes.specs.Findings.{Findings}
use Rattle.ft_made.specs.MadeTables.{IsMadeTable}
use Rattle.ft_hist.specs.Made.{counts_made}

-- tables of made events, by the trigger's id
abbrev pub MadeTables : Type 0
MadeTables = FinMap nat_cmp Tabled

-- a trigger's table of made events; if none is kept, one without hits
abbrev pub made_on : MadeTables → ℕ → Hist → Tabled
made_on made id hist = unwrap_or (map.get made id) (record { hits = map.empty; size = hist.size })

-- what holds of each attached trigger that counts made events
abbrev pub OfEachCounted : Triggers → (ℕ → Hist → Type 0) → Type 0
OfEachCounted triggers Holds = (id : ℕ) (hist : Hist) → map.get triggers id ≡ Some hist → counts_made hist ≡ true → Holds id hist

-- each of them has the table of the events that these readings make (kernel: histogram.rst, synthetic events)
abbrev pub AreMadeBy : Triggers → Events → Findings → MadeTables → Type 0
AreMadeBy triggers events found made = OfEachCounted triggers (λ id hist. IsMadeTable triggers events found hist (made_on made id hist))

-- the tables are those of all events that a base's readings make
abbrev pub AreMade : Base → MadeTables → Type 0
AreMade base made = AreMadeBy base.triggers (merged base.lanes) (saving_found base.triggers (merged base.lanes)) made
