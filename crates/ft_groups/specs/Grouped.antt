-- The events that a trigger counts, by the key under which it counts them.
use Rattle.std.specs.Prelude.{◌≡◌, ◌<◌, ℕ, Bool, false, List, [], length, nat_lt, slice_index_or, unwrap_or, map as list_map}
use Rattle.std.specs.Borrow.{Bor}
use Rattle.std.specs.List.{filter, list_any}
use Rattle.std.specs.Option.{option_map_or}
use Rattle.std.specs.FinMap as map
use Rattle.std.specs.FinMap.{FinMap}
use Rattle.ft_fields.specs.declared.pos.Pos.{Pos}
use Rattle.ft_fields.specs.Traced.{Traced}
use Rattle.ft_fields.specs.declared.key.Part.{Part}
use Rattle.ft_fields.specs.Parts.{key_cmp, same_key}
use Rattle.ft_hist.specs.Hist.{Hist}
use Rattle.ft_hist.specs.Hit.{hit}
use Rattle.ft_store.specs.Stored.{held}
use Rattle.ft_store.specs.declared.stored.Stored.{Stored}

-- the events that references point to, with their places
abbrev pub referenced_events : List (Bor (Pos × Stored)) → List (Pos × Traced)
referenced_events references = list_map (λ e. (e.now.0, held e.now.1)) references

-- whether a trigger counts an event under a key (kernel: histogram.rst, `keys`)
abbrev pub is_under : Hist → List Part → Traced → Bool
is_under hist key event = option_map_or (same_key key) (hit hist event) false

-- the events of a list that a trigger counts under a key, with their places, in the list's order (kernel: histogram.rst, `keys`)
abbrev pub run_under : Hist → List (Pos × Traced) → List Part → List (Pos × Traced)
run_under hist events key = filter (λ e. is_under hist key e.1) events

-- keys, and events with their places by key
pub record Grouped : Type 0 where
  pub keys : List (List Part)
  pub runs : FinMap key_cmp (List (Pos × Traced))

-- the events of a key
abbrev pub run_of : Grouped → List Part → List (Pos × Traced)
run_of groups key = unwrap_or (map.get groups.runs key) []

-- the events of a list that a trigger counts are grouped by their keys, none of which is named twice
pub record AreGrouped (hist : Hist) (events : List (Pos × Traced)) (groups : Grouped) : Type 0 where
  pub runs : (key : List Part) → run_of groups key ≡ run_under hist events key
  pub once : (i j : ℕ) (d : List Part) → i < j → j < length groups.keys → slice_index_or groups.keys i d ≡ slice_index_or groups.keys j d → ⊥
  pub all : (key : List Part) → list_any (same_key key) groups.keys ≡ nat_lt 0 (length (run_under hist events key))
