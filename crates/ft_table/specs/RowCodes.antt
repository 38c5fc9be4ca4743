-- How the logic stores rows.
use Rattle.std.specs.Prelude.{ℕ, List, refl}
use Rattle.std.specs.Coded.{Coded, code_by, coded×, coded_list, coded_ℕ}
use Rattle.ft_fields.specs.declared.key.Part.{Part}
use Rattle.ft_fields.specs.contracts.key.Part as part
use Rattle.ft_table.specs.Counted.{Counted}
use Rattle.ft_table.specs.Keyed.{KeyedText}

-- a row, stored as its key, its hitcount and its sums
abbrev pub counted_code : Coded Counted
counted_code = code_by
    (List Part × (ℕ × List ℕ)) (coded× (coded_list part.the_row.coded) (coded× coded_ℕ (coded_list coded_ℕ)))
    (λ row. (row.key, (row.hitcount, row.sums))) (λ p. record { key = p.0; hitcount = p.1.0; sums = p.1.1 }) (λ _. refl)

-- a row as its key and its text, stored as both
abbrev pub keyed_code : Coded KeyedText
keyed_code =
    code_by (List Part × List ℕ) (coded× (coded_list part.the_row.coded) (coded_list coded_ℕ)) (λ row. (row.key, row.text)) (λ p. record { key = p.0; text = p.1 }) (λ _. refl)
