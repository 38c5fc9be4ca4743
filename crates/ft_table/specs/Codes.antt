-- How the logic stores tables.
use Rattle.std.specs.Prelude.{ℕ, refl}
use Rattle.std.specs.Coded.{Coded, code_by, coded×, coded_list, coded_ℤ, coded_ℕ}
use Rattle.std.specs.FinMap as map
use Rattle.ft_hits.specs.contracts.mark.Mark as mark
use Rattle.ft_hits.specs.Hits.{Hits}
use Rattle.ft_table.specs.Tabled.{Tabled}

-- a table, stored as its hits and its size
abbrev pub tabled_code : Coded Tabled
tabled_code = code_by (Hits × ℕ) (coded× (map.code mark.the_row.coded (coded_list coded_ℤ)) coded_ℕ) (λ t. (t.hits, t.size)) (λ p. record { hits = p.0; size = p.1 }) (λ _. refl)
