-- What the laws of made events say.
use Rattle.std.specs.Prelude.{◌≡◌, ℕ, List, [], Option, Some, None, fold}
use Rattle.std.specs.List.Sorted.{IsStrictlySortedBy}
use Rattle.std.specs.Map.{keys_of}
use Rattle.std.specs.FinMap as map
use Rattle.std.specs.FinMap.{FinMap}
use Rattle.ft_fields.specs.Places.{pos_cmp}
use Rattle.ft_fields.specs.declared.pos.Pos.{Pos}
use Rattle.ft_fields.specs.Traced.{Traced}
use Rattle.ft_fields.specs.declared.key.Part.{Part}
use Rattle.ft_hist.specs.Hist.{Hist}
use Rattle.ft_changes.specs.Rivals.{AreTablesButFor}
use Rattle.ft_table.specs.Hits.{Hits}
use Rattle.ft_table.specs.Rows.{AllFit}
use Rattle.ft_table.specs.Tabled.{Tabled}
use Rattle.ft_hits.specs.declared.mark.Mark.{Mark}
use Rattle.ft_hits.specs.declared.spot.Spot.{Spot}
use Rattle.ft_table.specs.Spots.{spot_cmp}
use Rattle.ft_pairs.specs.declared.at.At.{At}
use Rattle.ft_hist.specs.Triggers.{Triggers}
use Rattle.ft_replay.specs.Merged.{Events}
use Rattle.ft_replay.specs.declared.pair.Pair.{Pair}
use Rattle.ft_replay.specs.Named.{named}
use Rattle.ft_replay.specs.Elsewhere.{IsSameAct, FindsTheSame}
use Rattle.ft_replay.specs.Found.{saving_found}
use Rattle.ft_replay.specs.Hits.{table_for}
use Rattle.ft_replay.specs.Replay.{started, replay}
use Rattle.ft_replay.specs.Tally.{empty_tally, tally_of}
pub use Rattle.ft_made.specs.Making.{MakeNone}
use Rattle.ft_made.specs.Making.{count_made}
use Rattle.ft_made.specs.ReplayMaking.{replay_making}
use Rattle.ft_made.specs.MadeEvents.{made_by, made_at, made_list, made_events}
use Rattle.ft_made.specs.MadeHits.{made_hits_of, values_made, values_of_made}
use Rattle.ft_changes.specs.Findings.{Findings, Lead}
use Rattle.ft_changes.specs.declared.changed.ReadingChange.{ReadingChange}
use Rattle.ft_made.specs.MadeTables.{IsMadeTable, AreInOrder, ArePairsOf, AreReplayed, found_in, ChangesMade, HoldsMade, IsFreeAt, with_made, without_made}
use Rattle.ft_made.specs.Updating.{HaveChangedKeys, changed_keys}

-- ---- two replays, one after the other

-- held events are counted, and variables set, as if no event were made
abbrev pub HeldAreCounted : Type 0
HeldAreCounted = (triggers : Triggers) (events : Events) → (replay_making triggers events).first ≡ replay triggers events

-- an attached trigger counts the made events in order of their spots (kernel: histogram.rst, synthetic events)
abbrev pub MadeAreCounted : Type 0
MadeAreCounted = (triggers : Triggers) (events : Events) (id : ℕ) (hist : Hist) → map.get triggers id ≡ Some hist
    → map.get (replay_making triggers events).made id ≡ Some (fold (count_made hist) empty_tally (map.entries (made_events triggers events)))

-- what it counts is the tally of its hits among them (kernel: histogram.rst, synthetic events)
abbrev pub MadeAreTallied : Type 0
MadeAreTallied = (triggers : Triggers) (events : Events) (id : ℕ) (hist : Hist) → map.get triggers id ≡ Some hist
    → map.get (replay_making triggers events).made id ≡ Some (tally_of (table_for hist (made_hits_of triggers events hist)) [])

-- no other id has a tally of made events
abbrev pub OthersCountNone : Type 0
OthersCountNone = (triggers : Triggers) (events : Events) (id : ℕ) → map.get triggers id ≡ None → map.get (replay_making triggers events).made id ≡ None

-- if no attached trigger makes an event, only held events are counted
abbrev pub NoneIsMade : Type 0
NoneIsMade = (triggers : Triggers) (events : Events) → MakeNone triggers → (replay_making triggers events).made ≡ started triggers

-- an event whose name no trigger is on makes no event, and changes nothing
abbrev pub NamedMakeAll : Type 0
NamedMakeAll = (triggers : Triggers) (events : Events) → replay_making triggers (named triggers events) ≡ replay_making triggers events

-- ---- which events are made

-- the made event at each spot is the one that the reading there makes, and there is no other (kernel: histogram.rst, `onmatch`)
abbrev pub MadeBySpot : Type 0
MadeBySpot = (triggers : Triggers) (events : Events) (spot : Spot) → map.get (made_events triggers events) spot ≡ made_at triggers events spot

-- they stand in order of their spots
abbrev pub MadeInOrder : Type 0
MadeInOrder = (triggers : Triggers) (events : Events) → map.entries (made_events triggers events) ≡ made_list triggers events

-- no two stand at one spot
abbrev pub SpotsAreDistinct : Type 0
SpotsAreDistinct = (triggers : Triggers) (events : Events) → IsStrictlySortedBy spot_cmp (keys_of (made_list triggers events))

-- ---- readings that find the same

-- the spot of the event that is made where a trigger acts
abbrev pub spot_of : At → Spot
spot_of at = record { pos = at.pos; maker = at.trigger }

-- a place that keeps its event, trigger and role, and whose reading finds what it found, makes what it made
abbrev pub SameIsMade : Type 0
SameIsMade = (triggers others : Triggers) (events more : Events) (at : At)
    → IsSameAct triggers others events more at → FindsTheSame triggers others events more at
    → made_at others more (spot_of at) ≡ made_at triggers events (spot_of at)

-- these savings are, by trigger and place, what the attached triggers' readings find
abbrev pub AreFound : Triggers → Events → Findings → Type 0
AreFound triggers events found = (id : ℕ) (hist : Hist) → map.get triggers id ≡ Some hist → (pos : Pos) → found id pos ≡ saving_found triggers events id pos

-- such savings make the same events
abbrev pub FoundMakeAll : Type 0
FoundMakeAll = (triggers : Triggers) (events : Events) (found : Findings) → AreFound triggers events found
    → (spot : Spot) → made_by triggers events found spot ≡ made_at triggers events spot

-- ---- maps that are kept beside the events

-- the map of a trigger's hits holds at each spot and key what its hit there adds (kernel: histogram.rst, `values`)
abbrev pub MadeHitsAre : Type 0
MadeHitsAre = (triggers : Triggers) (events : Events) (hist : Hist) (mark : Mark)
    → map.get (made_hits_of triggers events hist) mark ≡ values_made triggers events hist mark

-- a map that holds what these hits add, by spot and key, gives the tally that replaying gives
abbrev pub KeptAreTallied : Type 0
KeptAreTallied = (triggers : Triggers) (events : Events) (id : ℕ) (hist : Hist) → map.get triggers id ≡ Some hist
    → (values : Hits) → ((mark : Mark) → map.get values mark ≡ values_made triggers events hist mark)
    → map.get (replay_making triggers events).made id ≡ Some (tally_of (table_for hist values) [])

-- if savings are what the attached triggers' readings find, a map that holds what the events made of them add gives it too
abbrev pub ReadingsAreTallied : Type 0
ReadingsAreTallied = (triggers : Triggers) (events : Events) (found : Findings) → AreFound triggers events found
    → (id : ℕ) (hist : Hist) → map.get triggers id ≡ Some hist
    → (values : Hits) → ((mark : Mark) → map.get values mark ≡ values_of_made hist mark (made_by triggers events found mark.spot))
    → map.get (replay_making triggers events).made id ≡ Some (tally_of (table_for hist values) [])

-- and so does a table that holds just what these events add
abbrev pub TablesAreTallied : Type 0
TablesAreTallied = (triggers : Triggers) (events : Events) (found : Findings) → AreFound triggers events found
    → (id : ℕ) (hist : Hist) → map.get triggers id ≡ Some hist
    → (table : Tabled) → IsMadeTable triggers events found hist table
    → map.get (replay_making triggers events).made id ≡ Some (tally_of table [])

-- the pairs that replaying gives are those of readings, in merged order
abbrev pub ReplayedAreInOrder : Type 0
ReplayedAreInOrder = (triggers : Triggers) (events : Events) (pairs : ℕ → List Pair) → AreReplayed triggers events pairs → AreInOrder triggers pairs

-- and a table that is made of them has the tally that replaying with made events gives
abbrev pub ReplayedAreTallied : Type 0
ReplayedAreTallied = (triggers : Triggers) (events : Events) (pairs : ℕ → List Pair) → AreReplayed triggers events pairs
    → (id : ℕ) (hist : Hist) → map.get triggers id ≡ Some hist
    → (table : Tabled) → ((found : ℕ → FinMap pos_cmp Pos) → ArePairsOf triggers pairs found → IsMadeTable triggers events (found_in found) hist table)
    → map.get (replay_making triggers events).made id ≡ Some (tally_of table [])

-- the keys of such a table fit its trigger's key items
abbrev pub MadeTablesFit : Type 0
MadeTablesFit = (triggers : Triggers) (events : Events) (found : Findings) (hist : Hist) (table : Tabled) → IsMadeTable triggers events found hist table → AllFit table hist

-- a table of made events stays one when what is made at one spot changes, if what it holds there is changed too
abbrev pub MadeTablesChange : Type 0
MadeTablesChange = (triggers others : Triggers) (events more : Events) (found later : Findings) (hist : Hist) (spot : Spot) (before after : Tabled)
    → IsMadeTable triggers events found hist before → ChangesMade hist spot (made_by others more later spot) before after
    → ((other : Spot) → (other ≡ spot → ⊥) → made_by others more later other ≡ made_by triggers events found other)
    → IsMadeTable others more later hist after

-- a made event's hit that is put in where none stands changes the table only at its spot
abbrev pub PutMadeChanges : Type 0
PutMadeChanges = (hist : Hist) (spot : Spot) (made : Option Traced) (table : Tabled) → IsFreeAt spot table → ChangesMade hist spot made table (with_made hist spot made table)

-- and so does one that is taken out, if the table held at the spot just what the event adds; afterwards no hit stands there
abbrev pub TakeMadeChanges : Type 0
TakeMadeChanges = (hist : Hist) (spot : Spot) (made : Option Traced) (table : Tabled) → HoldsMade hist spot made table → ChangesMade hist spot None table (without_made hist spot made table)

-- ---- keys of tables that are updated

-- the tables of what readings make by what they found, and by what they find later, differ only by hits of such keys
abbrev pub UpdatedButForKeys : Type 0
UpdatedButForKeys = (triggers : Triggers) (events : Events) (found later : Findings) (hist : Hist) (keys : List (List Part)) (before after : Tabled)
    → IsMadeTable triggers events found hist before → IsMadeTable triggers events later hist after → HaveChangedKeys triggers events found later hist keys
    → AreTablesButFor keys before after

-- if changes lead from what readings found to what they find, the keys of the changes are such keys
abbrev pub KeysAreUpdated : Type 0
KeysAreUpdated = (triggers : Triggers) (events : Events) (hist : Hist) (changes : List ReadingChange) (found now : Findings) → Lead changes found now
    → HaveChangedKeys triggers events found now hist (changed_keys triggers events hist changes)
