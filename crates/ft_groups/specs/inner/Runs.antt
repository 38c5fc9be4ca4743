-- What stands in keys and runs side by side.
use Rattle.std.specs.Prelude.{◌≡◌, ℕ, List, [], Vec, length, Some, slice_get}
use Rattle.std.specs.Borrow.{Bor}
use Rattle.std.specs.Option.{option_map_or}
use Rattle.std.specs.declared.alloc.Global.{Global}
use Rattle.std.specs.FinMap as map
use Rattle.std.specs.FinMap.{FinMap}
use Rattle.ft_fields.specs.Traced.{Traced}
use Rattle.ft_fields.specs.declared.key.Part.{Part}
use Rattle.ft_fields.specs.declared.pos.Pos.{Pos}
use Rattle.ft_fields.specs.Parts.{key_cmp}
use Rattle.ft_maps.specs.Mapped.{map_by}
use Rattle.ft_maps.specs.Seen.{seen}
use Rattle.ft_store.specs.declared.stored.Stored.{Stored}
use Rattle.ft_groups.specs.Grouped.{Grouped, referenced_events}
use Rattle.ft_groups.specs.declared.runs.Runs.{Runs}

-- the events of the run at an index, with their places; none after the last run
abbrev pub nth_run : List (Vec (Bor (Pos × Stored)) Global) → ℕ → List (Pos × Traced)
nth_run runs index = option_map_or (λ run. referenced_events run.items) (slice_get runs index) []

-- the groups that stand there
abbrev pub groups_of : Runs → Grouped
groups_of runs = record { keys = runs.keys.items; runs = map_by (nth_run runs.runs.items) (seen key_cmp runs.indices) }

-- each key's index is where it stands
pub record AreIndexed (keys : List (List Part)) (indices : FinMap key_cmp ℕ) : Type 0 where
  pub stands : (key : List Part) (index : ℕ) → map.get indices key ≡ Some index → slice_get keys index ≡ Some key
  pub found : (key : List Part) (index : ℕ) → slice_get keys index ≡ Some key → map.get indices key ≡ Some index

-- a key stands where it stood, whatever came
abbrev pub Stay : List (List Part) → List (List Part) → Type 0
Stay old new = (index : ℕ) (key : List Part) → slice_get old index ≡ Some key → slice_get new index ≡ Some key

-- each key stands where its index says, and a run stands there too
pub record AreByKey (runs : Runs) : Type 0 where
  pub indexed : AreIndexed runs.keys.items (seen key_cmp runs.indices)
  pub many : length runs.runs.items ≡ length runs.keys.items
