-- A trigger's hits one by one, as the replay counts them.
use Rattle.std.specs.Prelude.{ℕ, ℤ, List, fold, unwrap_or, Option}
use Rattle.ft_fields.specs.declared.key.Part.{Part}
use Rattle.ft_table.specs.Counted.{Counted}
use Rattle.ft_table.specs.Growth.{grown, empty_row}
use Rattle.ft_replay.specs.Hits.{TriggerHit}
use Rattle.ft_replay.specs.Tally.{Tally, empty_tally, count, with_pair}

-- a key's row with one more hit of these values
abbrev pub grow : List ℤ → List Part → Option Counted → Counted
grow values key row = grown values (unwrap_or row (empty_row key))

-- one hit: its pair stands, and it is counted or dropped
abbrev pub counted : ℕ → Tally → TriggerHit → Tally
counted size tally found = count size found.key (grow found.values found.key) (with_pair found.spot.pos found.saved tally)

-- all hits, in order
abbrev pub counted_all : ℕ → List TriggerHit → Tally
counted_all size hits = fold (counted size) empty_tally hits
