-- Reports: which rows of triggers may differ.
use Rattle.std.specs.Prelude.{◌&&◌, ℕ, Bool, List, length, nat_eq}
use Rattle.std.specs.List.{filter, list_any}
use Rattle.ft_fields.specs.declared.key.Part.{Part}
use Rattle.ft_fields.specs.Parts.{same_key}
use Rattle.ft_changes.specs.declared.changed.Changed.{Changed}

-- two rows are of one trigger and one key
abbrev pub same_row : Changed → Changed → Bool
same_row a b = nat_eq a.id b.id && same_key a.key b.key

-- whether a report has a trigger's row of a key
abbrev pub is_reported : List Changed → ℕ → List Part → Bool
is_reported report id key = list_any (same_row (record { id = id; key = key })) report

-- how many rows of a trigger a report has
abbrev pub reported_of : List Changed → ℕ → ℕ
reported_of report id = length (filter (λ row. nat_eq id row.id) report)
