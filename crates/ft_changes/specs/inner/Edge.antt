-- Both sides of a place in an order of marks.
use Rattle.std.specs.Prelude.{ℕ, not, List, take, map as list_map}
use Rattle.std.specs.List.{filter}
use Rattle.ft_fields.specs.declared.key.Part.{Part}
use Rattle.ft_hits.specs.declared.mark.Mark.{Mark}
use Rattle.ft_changes.specs.Rivals.{is_of}

-- the keys of so many first marks
abbrev pub inside : List Mark → ℕ → List (List Part)
inside order place = list_map (λ m. m.key) (take place order)

-- the marks whose keys are none of some
abbrev pub others_of : List (List Part) → List Mark → List Mark
others_of keys = filter (λ m. not (is_of keys m.key))
