-- A shelf on which the operations of one key change.
use Rattle.std.proofs.Common.{◌≡◌, List, refl, subst}
use Rattle.ft_fields.specs.declared.key.Part.{Part}
use Rattle.ft_pairs.specs.ByKey.{OpsByKey, ChangesKey}
use Rattle.ft_pairs.specs.Source.{Ops}
use Rattle.ft_table.specs.Tabled.{Tabled}
use Rattle.ft_shelves.specs.Shelves.{Readings, Shelved}
use Rattle.ft_shelves.specs.Edits.{OpsChange}
use Rattle.ft_pairs.specs.declared.role.Role.{Role}

-- one key's operations change, and nothing else
pub ops_change : (key : List Part) (edit : Ops → Ops) (role : Role) (table : Tabled) (readings : Readings) (ops after : OpsByKey) (old : Shelved)
    → record { role = role; table = table; ops = ops; readings = readings } ≡ old → ChangesKey key edit ops after
    → OpsChange key edit old (record { role = role; table = table; ops = after; readings = readings })
ops_change key edit role table readings ops after old is h =
    subst (λ s. OpsChange key edit s (record { role = role; table = table; ops = after; readings = readings })) is
    (record { role = refl; table = refl; readings = refl; ops = h })
