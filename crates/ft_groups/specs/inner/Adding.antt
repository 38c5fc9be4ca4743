-- What a key and an event that come make of groups, by look-ups.
use Rattle.std.specs.Prelude.{◌≡◌, ◌++◌, ◌||◌, false, List, [], ◌∷◌, Option, if◌then◌else◌}
use Rattle.std.specs.List.{list_any}
use Rattle.std.specs.Option.{option_map_or}
use Rattle.ft_fields.specs.declared.pos.Pos.{Pos}
use Rattle.ft_fields.specs.Traced.{Traced}
use Rattle.ft_fields.specs.declared.key.Part.{Part}
use Rattle.ft_fields.specs.Parts.{same_key}
use Rattle.ft_groups.specs.Grouped.{Grouped, run_of}

-- a key is noted, which may have been noted before
pub record Notes (key : List Part) (old new : Grouped) : Type 0 where
  pub keys : (q : List Part) → list_any (same_key q) new.keys ≡ (list_any (same_key q) old.keys || same_key q key)
  pub runs : (q : List Part) → run_of new q ≡ run_of old q

-- if an event has a key, the key is noted, and the event comes after those of its key
pub record Adds (key : Option (List Part)) (event : Pos × Traced) (old new : Grouped) : Type 0 where
  pub keys : (q : List Part) → list_any (same_key q) new.keys ≡ (list_any (same_key q) old.keys || option_map_or (same_key q) key false)
  pub runs : (q : List Part) → run_of new q ≡ run_of old q ++ (if option_map_or (same_key q) key false then event ∷ [] else [])
