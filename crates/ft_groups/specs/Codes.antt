-- How the logic stores what contracts see.
use Rattle.std.specs.Prelude.{List, refl}
use Rattle.std.specs.Coded.{Coded, code_by, coded×, coded_list}
use Rattle.std.specs.FinMap as map
use Rattle.std.specs.FinMap.{FinMap}
use Rattle.ft_fields.specs.declared.pos.Pos.{Pos}
use Rattle.ft_fields.specs.contracts.pos.Pos as pos
use Rattle.ft_fields.specs.Traced.{Traced}
use Rattle.ft_fields.specs.Codes.{traced_code}
use Rattle.ft_fields.specs.declared.key.Part.{Part}
use Rattle.ft_fields.specs.contracts.key.Part as part
use Rattle.ft_fields.specs.Parts.{key_cmp}
use Rattle.ft_groups.specs.Grouped.{Grouped}

-- events with their places, stored as a list of pairs
abbrev pub run_code : Coded (List (Pos × Traced))
run_code = coded_list (coded× pos.the_row.coded traced_code)

-- a key, stored as its parts
abbrev pub key_code : Coded (List Part)
key_code = coded_list part.the_row.coded

-- groups, stored as their keys and their runs
abbrev pub grouped_code : Coded Grouped
grouped_code = code_by
    (List (List Part) × FinMap key_cmp (List (Pos × Traced))) (coded× (coded_list key_code) (map.code key_code run_code))
    (λ groups. (groups.keys, groups.runs)) (λ p. record { keys = p.0; runs = p.1 }) (λ _. refl)
