-- The keys of each trigger that one event may bear on, by the keys under which its hits may have changed.
use Rattle.std.specs.Prelude.{◌++◌, ℕ, List, [], ◌∷◌, if◌then◌else◌}
use Rattle.std.specs.List.{fold}
use Rattle.std.specs.Option.{option_map_or}
use Rattle.std.specs.FinMap as map
use Rattle.ft_fields.specs.declared.key.Part.{Part}
use Rattle.ft_changes.specs.Rivals.{is_of, rivals}
use Rattle.ft_table.specs.Tabled.{Tabled}
use Rattle.ft_kept.specs.Changes.{keys_of, whose_of}
use Rattle.ft_shelves.specs.Shelves.{Shelves}
use Rattle.ft_kept.specs.declared.changes.KeyChange.{KeyChange}

-- some keys, with one more if it is none of them
abbrev pub with_new_key : List (List Part) → List Part → List (List Part)
with_new_key found key = if is_of found key then found else found ++ key ∷ []

-- some keys, each once: the first of equal ones stays
unfoldable pub each_once : List (List Part) → List (List Part)
each_once keys = fold with_new_key [] keys

-- these, and their rivals in a table
abbrev pub with_rivals : Tabled → List (List Part) → List (List Part)
with_rivals table keys = each_once keys ++ rivals table (each_once keys)

-- the keys of a trigger whose rows may differ: those under which its hits may have changed, and their rivals in its table
abbrev pub named_keys : Shelves → List KeyChange → ℕ → List (List Part)
named_keys shelves changes id = option_map_or (λ shelf. with_rivals shelf.table (keys_of (whose_of shelf.role id) changes)) (map.get shelves id) []
