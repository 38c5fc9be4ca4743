-- A trigger that joins, as private functions say it.
use Rattle.std.specs.Prelude.{◌≡◌, ◌⊎◌}
use Rattle.ft_pairs.specs.ByKey.{OpsByKey}
use Rattle.ft_pairs.specs.declared.role.Role.{Role}
use Rattle.ft_pairs.specs.declared.role.Role.TheVariants.{Plain, Saves}
use Rattle.ft_shelves.specs.Shelves.{Shelved}

-- a trigger with this role reads nothing
abbrev pub IsNoReader : Role → Type 0
IsNoReader role = (role ≡ Plain) ⊎ (role ≡ Saves)

-- a shelf has these operations, and all else on it stays
abbrev pub HasOps : OpsByKey → Shelved → Shelved → Type 0
HasOps ops old new = new ≡ record old { ops = ops }
