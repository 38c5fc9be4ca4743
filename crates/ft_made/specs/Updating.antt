-- Tables of made events, changed as readings change, and the keys that this bears on.
use Rattle.std.specs.Prelude.{◌≡◌, ◌⊎◌, ◌++◌, true, List, [], Option, Some, option_and_then}
use Rattle.std.specs.List.{cons_option, flat_map}
use Rattle.ft_fields.specs.Traced.{Traced}
use Rattle.ft_changes.specs.Findings.{Findings, Lead}
use Rattle.ft_changes.specs.Rivals.{is_of}
use Rattle.ft_changes.specs.declared.changed.ReadingChange.{ReadingChange}
use Rattle.ft_fields.specs.declared.pos.Pos.{Pos}
use Rattle.ft_hist.specs.Hist.{Hist}
use Rattle.ft_hist.specs.Hit.{hit}
use Rattle.ft_hits.specs.declared.spot.Spot.{Spot}
use Rattle.ft_fields.specs.declared.key.Part.{Part}
use Rattle.ft_table.specs.Tabled.{Tabled}
use Rattle.ft_hist.specs.Triggers.{Triggers}
use Rattle.ft_replay.specs.Merged.{Events}
use Rattle.ft_made.specs.MadeEvents.{made_by}
use Rattle.ft_made.specs.MadeTables.{IsMadeTable}

-- ---- tables

-- a table is made of what readings found, from which these changes lead on
pub record CanUpdate (triggers : Triggers) (events : Events) (changes : List ReadingChange) (hist : Hist) (table : Tabled) : Type 0 where
  pub found : Findings
  pub now : Findings
  pub lead : Lead changes found now
  pub made : IsMadeTable triggers events found hist table

-- whatever readings found, a table that was made of it is made of what the changes lead to afterwards
abbrev pub IsUpdated : Triggers → Events → List ReadingChange → Hist → Tabled → Tabled → Type 0
IsUpdated triggers events changes hist old new =
    (found now : Findings) → Lead changes found now → IsMadeTable triggers events found hist old → IsMadeTable triggers events now hist new

-- ---- keys

-- the spot of what a changed reading makes
abbrev pub change_spot : ReadingChange → Spot
change_spot change = record { pos = change.pos; maker = change.id }

-- the event that is made there if the reading finds this saving, or none (kernel: histogram.rst, `onmatch`)
abbrev pub made_as : Triggers → Events → ReadingChange → Option Pos → Option Traced
made_as triggers events change found = made_by triggers events (λ id pos. found) (change_spot change)

-- the key under which a trigger counts an event, if one is made and is a hit (kernel: histogram.rst, synthetic events)
abbrev pub keys_of_made : Hist → Option Traced → List (List Part)
keys_of_made hist made = cons_option (option_and_then (hit hist) made) []

-- the keys under which it counts what a reading made before it changed, and what it makes now
abbrev pub keys_at : Triggers → Events → Hist → ReadingChange → List (List Part)
keys_at triggers events hist change = keys_of_made hist (made_as triggers events change change.before) ++ keys_of_made hist (made_as triggers events change change.after)

-- the same of all changes
unfoldable pub changed_keys : Triggers → Events → Hist → List ReadingChange → List (List Part)
changed_keys triggers events hist changes = flat_map (keys_at triggers events hist) changes

-- the key under which a trigger counts an event, if one is made and is a hit, is one of some
abbrev pub HaveKey : Hist → Option Traced → List (List Part) → Type 0
HaveKey hist made keys = (key : List Part) → option_and_then (hit hist) made ≡ Some key → is_of keys key ≡ true

-- the keys include those under which a trigger counts what readings make by what they found, and by what they find later, wherever these make different events
abbrev pub HaveChangedKeys : Triggers → Events → Findings → Findings → Hist → List (List Part) → Type 0
HaveChangedKeys triggers events found later hist keys =
    (spot : Spot) → (made_by triggers events later spot ≡ made_by triggers events found spot) ⊎ (HaveKey hist (made_by triggers events found spot) keys × HaveKey hist (made_by triggers events later spot) keys)
