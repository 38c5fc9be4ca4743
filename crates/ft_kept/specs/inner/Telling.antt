-- The keys that are recorded as one act comes or goes.
use Rattle.std.specs.Prelude.{◌++◌, ℕ, List, [], ◌∷◌, Option, Some, None}
use Rattle.ft_fields.specs.declared.key.Part.{Part}
use Rattle.ft_pairs.specs.declared.role.Variable.{Variable}
use Rattle.ft_shelves.specs.declared.saver.Moved.{Moved}
use Rattle.ft_kept.specs.declared.changes.KeyChange.{KeyChange}
use Rattle.ft_kept.specs.declared.changes.Whose.TheVariants.{Trigger, ReadersOf}

-- the key of a hit of a trigger that reads nothing
abbrev pub own_key : ℕ → List Part → List KeyChange
own_key id key = record { whose = Trigger id; key = key } ∷ []

-- the key of a variable
abbrev pub variable_key : Variable → List KeyChange
variable_key variable = record { whose = ReadersOf variable.saver; key = variable.key } ∷ []

-- the other key that moved, if one did
abbrev pub other_key : ℕ → Option (List Part) → List KeyChange
other_key saver None = []
other_key saver (Some key) = variable_key (record { saver = saver; key = key })

-- the keys of a saver's readers, if a hit of the saver changed: the other key that moved, if one did, and the hit's own
abbrev pub moved_keys : ℕ → List Part → Moved → List KeyChange
moved_keys saver key moves = other_key saver moves.other ++ variable_key (record { saver = saver; key = key })
