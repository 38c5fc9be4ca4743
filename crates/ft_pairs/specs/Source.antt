-- What a reading of a variable finds (kernel: histogram.rst, inter-event hist triggers).
use Rattle.std.specs.Prelude.{◌≡◌, ◌⊎◌, Bool, true, false, Option, Some, None}
use Rattle.std.specs.declared.cmp.Ordering.TheVariants.{Less}
use Rattle.ft_pairs.specs.declared.at.At.{At}
use Rattle.ft_pairs.specs.declared.at.Op.{Op}
use Rattle.ft_pairs.specs.declared.at.Op.TheVariants.{Save, Read}
use Rattle.ft_pairs.specs.Order.{at_cmp}

-- the operations on a variable, by where they stand
abbrev pub Ops : Type 0
Ops = At → Option Op

-- an operation is a read
abbrev pub is_read : Op → Bool
is_read Save = false
is_read Read = true

-- no operation stands before a place
abbrev pub HasNoneBefore : Ops → At → Type 0
HasNoneBefore ops at = (q : At) → at_cmp q at ≡ Less → ops q ≡ None

-- this operation is the last one before a place
pub record IsLastBefore (ops : Ops) (at last : At) (op : Op) : Type 0 where
  pub there : ops last ≡ Some op
  pub before : at_cmp last at ≡ Less
  pub none : (q : At) → at_cmp last q ≡ Less → at_cmp q at ≡ Less → ops q ≡ None

-- what a reading at a place finds: the last operation before it, if that is a save; nothing, if that is a reading or there is none (kernel: histogram.rst, inter-event hist triggers; that a reading unsets its variable is our own choice)
abbrev pub IsSource : Ops → At → Option At → Type 0
IsSource ops at (Some saved) = IsLastBefore ops at saved Save
IsSource ops at None = HasNoneBefore ops at ⊎ ((last : At) × IsLastBefore ops at last Read)
