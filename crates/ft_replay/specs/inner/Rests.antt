-- What is left of lanes while their events are listed.
use Rattle.std.specs.Prelude.{◌≡◌, ℕ, List, [], ◌∷◌, ◌++◌, Option, None, Some, map as list_map, filter}
use Rattle.std.specs.List.{flat_map}
use Rattle.ft_fields.specs.Traced.{Traced, name_of}
use Rattle.ft_fields.specs.declared.pos.Pos.{Pos}
use Rattle.ft_maps.specs.Mapped.{entries_by}
use Rattle.ft_store.specs.Stored.{held}
use Rattle.ft_store.specs.declared.stored.Stored.{Stored}
use Rattle.ft_lanes.specs.Walks.{itself}
use Rattle.ft_replay.specs.Merged.{place_of}
use Rattle.ft_replay.specs.Named.{has_name}
use Rattle.ft_replay.specs.declared.names.Names.{Names}

-- lines of a CPU with their events, each at its place
abbrev pub placed_lines : ℕ → List (ℕ × Traced) → List (Pos × Traced)
placed_lines cpu lines = list_map (λ entry. (place_of cpu entry, entry.1)) lines

-- a first line and those after it; without a first there are none
abbrev pub lines_from : Option (ℕ × Traced) → List (ℕ × Traced) → List (ℕ × Traced)
lines_from None behind = []
lines_from (Some first) behind = first ∷ behind

-- a place, and the event that a reference into a store points to
abbrev pub traced_entry : Pos × Stored → Pos × Traced
traced_entry entry = (entry.0, held entry.1)

-- those of some names
abbrev pub with_names : Names → List (Pos × Traced) → List (Pos × Traced)
with_names names entries = filter (λ entry. has_name names (name_of entry.1.body)) entries

-- what is listed, and those of some names that are left
abbrev pub listed_and_left : Names → List (Pos × Stored) → List (Pos × Traced) → List (Pos × Traced)
listed_and_left names events left = entries_by held events ++ with_names names left

-- all that is left, lane by lane
abbrev pub entries_left : List (List (Pos × Traced)) → List (Pos × Traced)
entries_left rests = flat_map itself rests

-- one entry is taken out of a list
pub record IsTaken (old : List (Pos × Traced)) (entry : Pos × Traced) (new : List (Pos × Traced)) : Type 0 where
  pub before : List (Pos × Traced)
  pub behind : List (Pos × Traced)
  pub was : old ≡ before ++ entry ∷ behind
  pub is : new ≡ before ++ behind
