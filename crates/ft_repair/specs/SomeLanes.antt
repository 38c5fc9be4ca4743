-- What is kept while the events of new lanes come.
use Rattle.std.specs.Prelude.{ℕ, List}
use Rattle.std.specs.List.{sum_by}
use Rattle.std.specs.FinMap as map
use Rattle.ft_hist.specs.Tests.{count_on}
use Rattle.ft_kept.specs.Shelves.{Shelves}
use Rattle.ft_base.specs.Base.{Base}
use Rattle.ft_replay.specs.Chosen.{lanes_of, lanes_but}
use Rattle.ft_replay.specs.Merged.{merged}
use Rattle.ft_replay.specs.Named.{named}
use Rattle.ft_repair.specs.KeptShelves.{AreKept}

-- the shelves are kept of a base's triggers and of the events of some CPUs
abbrev pub AreKeptOfLanes : List ℕ → Base → Shelves → Type 0
AreKeptOfLanes cpus base shelves = AreKept base.triggers (merged (lanes_of cpus base.lanes)) shelves

-- how many triggers are on the name of each event of the other CPUs, taken together
abbrev pub count_coming : List ℕ → Base → ℕ
count_coming cpus base = sum_by (λ entry. count_on base.triggers entry.1) (map.entries (named base.triggers (merged (lanes_but cpus base.lanes))))
