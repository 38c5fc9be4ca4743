-- What a hit adds to its trigger's sums (kernel: histogram.rst, `values`).
use Rattle.std.specs.Prelude.{ℕ, ◌-◌, ℤ, pos as whole, List, [], Option, Some, None}
use Rattle.std.specs.Option.{option_map_or}
use Rattle.std.specs.Ordering.{nat_cmp}
use Rattle.std.specs.FinMap as map
use Rattle.std.specs.FinMap.{FinMap}
use Rattle.ft_fields.specs.Traced.{Traced}
use Rattle.ft_fields.specs.declared.pos.Pos.{Pos}
use Rattle.ft_hist.specs.Hist.{Hist}
use Rattle.ft_hist.specs.Values.{values_of}

-- the value of a trigger's own variable at a stamp, in microseconds: the stamp, which it saves, or the time since the stamp that it read (kernel: histogram.rst, `common_timestamp.usecs`)
abbrev pub own_value : ℕ → Option Pos → ℤ
own_value stamp None = whole stamp
own_value stamp (Some saved) = whole (stamp - saved.stamp)

-- what a trigger's hit adds to its sums (kernel: histogram.rst, `values`)
abbrev pub values_at : Hist → Pos → Traced → Option Pos → List ℤ
values_at hist at event saved = values_of hist event (own_value at.stamp saved)

-- what hits add to sums, by the trigger's id
abbrev pub ValuesBy : Type 0
ValuesBy = ℕ → Pos → Traced → Option Pos → List ℤ

-- what a hit of the trigger with an id adds to its sums (kernel: histogram.rst, `values`)
unfoldable pub values_by : FinMap nat_cmp Hist → ValuesBy
values_by triggers id at event saved = option_map_or (λ hist. values_at hist at event saved) (map.get triggers id) []
