-- How a repair changes shelves.
use Rattle.std.specs.Prelude.{Option, IfSome}
use Rattle.ft_kept.specs.Shelves.{Shelves}

-- how shelves change, if there are some before and afterwards
abbrev pub IfBoth : (Shelves → Shelves → Type 0) → Option Shelves → Option Shelves → Type 0
IfBoth Change old new = IfSome new (λ after. IfSome old (λ before. Change before after))
