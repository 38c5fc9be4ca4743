-- What is made of the events of one key, and of those of all keys of a reader, and what hits add to sums.
use Rattle.std.specs.Prelude.{◌≡◌, ◌<◌, ℤ, ℕ, Bool, true, false, List, length, Option, Some, None, option_map, slice_index_or, map as list_map}
use Rattle.std.specs.List.{filter_map}
use Rattle.std.specs.Map.{update_all}
use Rattle.std.specs.Ordering.{eq_by_cmp}
use Rattle.ft_fields.specs.Places.{pos_cmp}
use Rattle.ft_fields.specs.Traced.{Traced}
use Rattle.ft_fields.specs.declared.pos.Pos.{Pos}
use Rattle.ft_fields.specs.declared.key.Part.{Part}
use Rattle.ft_groups.specs.Grouped.{Grouped}
use Rattle.ft_hist.specs.Hist.{Hist}
use Rattle.ft_hist.specs.declared.item.Item.{Item}
use Rattle.ft_hist.specs.declared.item.Item.TheVariants as items
use Rattle.ft_pairs.specs.ByKey.{OpsByKey}
use Rattle.ft_pairs.specs.declared.at.At.{At}
use Rattle.ft_pairs.specs.declared.at.Op.{Op}
use Rattle.ft_pairs.specs.declared.at.Op.TheVariants.{Save}
use Rattle.ft_table.specs.Spots.{traced}
use Rattle.ft_table.specs.Tabled.{Tabled}
use Rattle.ft_table.specs.Values.{values_at}
use Rattle.ft_hits.specs.declared.spot.Spot.{Spot}
use Rattle.ft_shelves.specs.Joining.{AreGroupsOf, AreSources, HasGroups, HasReads, acts_with, read_from, reading_in, what_read}

-- entries that a list gives: for each of its own one or none, under a key that stands for its own
abbrev pub chosen : {K X L Y : Type 0} → (K → L) → (K → X → Option Y) → List (K × X) → List (L × Y)
chosen into worth es = filter_map (λ e. option_map (λ y. (into e.0, y)) (worth e.0 e.1)) es

-- the hits of a run: by spot, what each event adds that is a hit (kernel: histogram.rst, `values`)
abbrev pub hits_of_run : Hist → (Pos → Option (Option Pos)) → List (Pos × Traced) → List (Spot × List ℤ)
hits_of_run hist read run = chosen traced (λ pos event. option_map (values_at hist pos event) (read pos)) run

-- where a trigger acts at an event's place
abbrev pub act_at : ℕ → Pos × Traced → At
act_at id e = record { pos = e.0; trigger = id }

-- the saves of a run: one at each event (kernel: histogram.rst, inter-event hist triggers)
abbrev pub saves_of_run : ℕ → List (Pos × Traced) → List (At × Op)
saves_of_run id run = list_map (λ e. (act_at id e, Save)) run

-- the reads of a run: one at each event (kernel: histogram.rst, inter-event hist triggers)
abbrev pub reads_of_run : ℕ → List (Pos × Traced) → List At
reads_of_run id run = list_map (act_at id) run

-- ---- what was found

-- what the event at an index of a run read, if it is a hit: nothing if nothing reads, else what its reading found
abbrev pub read_at : Option (List (Option At)) → ℕ → Option (Option Pos)
read_at None i = Some None
read_at (Some found) i = option_map (λ saved. Some saved.pos) (slice_index_or found i None)

-- each event of a run read, by its place, what it read by its index
abbrev pub AreReadAt : Option (List (Option At)) → (Pos → Option (Option Pos)) → List (Pos × Traced) → Type 0
AreReadAt found read run = (i : ℕ) (d : Pos × Traced) → i < length run → read (slice_index_or run i d).0 ≡ read_at found i

-- what the readings of a run found, as the place of the saving by that of the reading
abbrev pub readings_of_run : (Pos → Option (Option Pos)) → List (Pos × Traced) → List (Pos × Pos)
readings_of_run read run = chosen (λ pos. pos) (λ pos event. what_read (read pos)) run

-- what the reading at a place found, by a list; if several of the list name the place, the last one tells (our own choice)
abbrev pub found_last : List (Pos × Pos) → Pos → Option Pos
found_last readings = update_all (eq_by_cmp pos_cmp) (λ _. None) readings

-- a reader's reads stand among operations, and its hits in a table, and a list has what its readings found
pub record ReadingsJoin (id : ℕ) (hist : Hist) (groups : Grouped) (was is : OpsByKey) (old new : Tabled) (readings : List (Pos × Pos)) : Type 0 where
  pub sources : List Part → Pos → Option At
  pub finds : AreSources id is sources
  pub reads : HasReads id groups was is
  pub table : HasGroups hist groups (read_from sources) old new
  pub listed : (of : AreGroupsOf hist groups) (pos : Pos) → found_last readings pos ≡ reading_in (read_from sources) (acts_with hist of.events) pos

-- ---- sums

-- the value item is a field
abbrev pub is_field : Item → Bool
is_field (items.Num field) = true
is_field items.Own = false
