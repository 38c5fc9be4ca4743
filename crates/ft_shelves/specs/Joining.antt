-- A trigger that joins others: what the groups of its events make of its shelf.
use Rattle.std.specs.Prelude.{◌≡◌, ◌&&◌, ℕ, ℤ, List, Option, Some, None, is_some, option_and_then, option_map, if◌then◌else◌}
use Rattle.std.specs.Ordering.{nat_cmp, eq_by_cmp}
use Rattle.std.specs.FinMap as map
use Rattle.std.specs.FinMap.{FinMap, find}
use Rattle.ft_fields.specs.Places.{pos_cmp}
use Rattle.ft_fields.specs.Traced.{Traced}
use Rattle.ft_fields.specs.declared.pos.Pos.{Pos}
use Rattle.ft_groups.specs.Grouped.{Grouped, AreGrouped, run_of}
use Rattle.ft_hist.specs.Hist.{Hist}
use Rattle.ft_hist.specs.Hit.{hit}
use Rattle.ft_fields.specs.declared.key.Part.{Part}
use Rattle.ft_pairs.specs.ByKey.{OpsByKey, ops_of}
use Rattle.ft_pairs.specs.Source.{IsSource}
use Rattle.ft_pairs.specs.declared.at.At.{At}
use Rattle.ft_pairs.specs.declared.at.Op.{Op}
use Rattle.ft_pairs.specs.declared.at.Op.TheVariants.{Save, Read}
use Rattle.ft_pairs.specs.declared.role.Role.{Role}
use Rattle.ft_pairs.specs.declared.role.Role.TheVariants.{Plain, Saves, Reads}
use Rattle.ft_table.specs.Tabled.{Tabled, is_in}
use Rattle.ft_table.specs.Values.{values_at}
use Rattle.ft_hits.specs.declared.mark.Mark.{Mark}
use Rattle.ft_hits.specs.declared.spot.Spot.{Spot}
use Rattle.ft_shelves.specs.Shelves.{Shelved}

-- groups of events that a trigger counts, each of which has the stamp of its place
pub record AreGroupsOf (hist : Hist) (groups : Grouped) : Type 0 where
  pub events : FinMap pos_cmp Traced
  pub stamped : (pos : Pos) (event : Traced) → map.get events pos ≡ Some event → event.stamp ≡ pos.stamp
  pub grouped : AreGrouped hist (map.entries events) groups

-- the acts of one trigger at events (kernel: histogram.rst, hist triggers)
abbrev pub acts_with : Hist → FinMap pos_cmp Traced → Pos → Option (List Part × Traced)
acts_with hist events pos = option_and_then (λ event. option_map (λ key. (key, event)) (hit hist event)) (map.get events pos)

-- the event of a key at a place
abbrev pub event_in : Grouped → List Part → Pos → Option Traced
event_in groups key pos = find pos_cmp pos (run_of groups key)

-- ---- hits

-- what the hit of a key's event at a place read, if it is a hit
abbrev pub ReadBy : Type 0
ReadBy = List Part → Pos → Option (Option Pos)

-- each event of a trigger that reads nothing is a hit (kernel: histogram.rst, hist triggers)
abbrev pub unread : ReadBy
unread key pos = Some None

-- an event of a reader is a hit, if its reading finds something (kernel: histogram.rst, inter-event hist triggers)
abbrev pub read_from : (List Part → Pos → Option At) → ReadBy
read_from sources key pos = option_map (λ saved. Some saved.pos) (sources key pos)

-- the hit of a key's event on a spot: what it adds (kernel: histogram.rst, `values`)
abbrev pub hit_in : Hist → Grouped → ReadBy → List Part → Spot → Option (List ℤ)
hit_in hist groups read key spot =
    if eq_by_cmp nat_cmp spot.maker 0 then option_and_then (λ event. option_map (values_at hist spot.pos event) (read key spot.pos)) (event_in groups key spot.pos) else None

-- a table has the hits of all groups, and no others (kernel: histogram.rst, hist triggers)
pub record HasGroups (hist : Hist) (groups : Grouped) (read : ReadBy) (old new : Tabled) : Type 0 where
  pub size : new.size ≡ old.size
  pub hits : (m : Mark) → map.get new.hits m ≡ hit_in hist groups read m.key m.spot

-- ---- operations

-- the save of a key's event at a place, if the key is in the table (kernel: histogram.rst, inter-event hist triggers, `size`)
abbrev pub save_in : ℕ → Grouped → Tabled → List Part → At → Option Op
save_in id groups table key at = if is_in table key && eq_by_cmp nat_cmp at.trigger id then option_and_then (λ event. Some Save) (event_in groups key at.pos) else None

-- operations are the saves of all groups whose keys are in a table, and no others
abbrev pub HasSaves : ℕ → Grouped → Tabled → OpsByKey → Type 0
HasSaves id groups table ops = (key : List Part) (at : At) → ops_of ops key at ≡ save_in id groups table key at

-- the operations on a shelf of this role are the saves of all groups whose keys are in the table, if it is a saver's; else they stay
abbrev pub OpsJoin : Role → ℕ → Grouped → Tabled → OpsByKey → OpsByKey → Type 0
OpsJoin Saves id groups table old new = HasSaves id groups table new
OpsJoin Plain id groups table old new = new ≡ old
OpsJoin (Reads saver) id groups table old new = new ≡ old

-- a read stands at each event of the groups, and other operations stay (kernel: histogram.rst, inter-event hist triggers)
abbrev pub HasReads : ℕ → Grouped → OpsByKey → OpsByKey → Type 0
HasReads id groups old new =
    (key : List Part) (at : At) → ops_of new key at ≡ (if is_some (event_in groups key at.pos) && eq_by_cmp nat_cmp at.trigger id then Some Read else ops_of old key at)

-- ---- shelves

-- a shelf has the hits of all groups and no others, and a saver's has their saves for the keys in its table and no other operations; all else on it stays
pub record HasJoined (id : ℕ) (hist : Hist) (groups : Grouped) (old new : Shelved) : Type 0 where
  pub role : new.role ≡ old.role
  pub table : HasGroups hist groups unread old.table new.table
  pub ops : OpsJoin old.role id groups new.table old.ops new.ops
  pub readings : new.readings ≡ old.readings

-- what each reading finds among operations, by its key and place
abbrev pub AreSources : ℕ → OpsByKey → (List Part → Pos → Option At) → Type 0
AreSources id ops sources = (key : List Part) (pos : Pos) → IsSource (ops_of ops key) (record { pos = pos; trigger = id }) (sources key pos)

-- what the reading at a hit found, if it is a reading's and found something
abbrev pub what_read : Option (Option Pos) → Option Pos
what_read read = option_and_then (λ saved. saved) read

-- what the reading of the act at a place found
abbrev pub reading_in : ReadBy → (Pos → Option (List Part × Traced)) → Pos → Option Pos
reading_in read acts pos = option_and_then (λ act. what_read (read act.0 pos)) (acts pos)

-- a reader's reads stand among the operations of its saver, and what its readings find is on its shelf, with their hits; all else on it stays
pub record HasRead (id : ℕ) (hist : Hist) (groups : Grouped) (was is : OpsByKey) (old new : Shelved) : Type 0 where
  pub sources : List Part → Pos → Option At
  pub finds : AreSources id is sources
  pub reads : HasReads id groups was is
  pub role : new.role ≡ old.role
  pub ops : new.ops ≡ old.ops
  pub table : HasGroups hist groups (read_from sources) old.table new.table
  pub readings : (of : AreGroupsOf hist groups) (pos : Pos) → map.get new.readings pos ≡ reading_in (read_from sources) (acts_with hist of.events) pos
