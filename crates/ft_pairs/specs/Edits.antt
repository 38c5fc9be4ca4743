-- What an edit makes of the operations on a variable.
use Rattle.std.specs.Prelude.{Bool, Option, Some, None, if◌then◌else◌}
use Rattle.std.specs.Ordering.{eq_by_cmp}
use Rattle.ft_pairs.specs.declared.at.At.{At}
use Rattle.ft_pairs.specs.declared.at.Op.{Op}
use Rattle.ft_pairs.specs.declared.at.Op.TheVariants.{Save, Read}
use Rattle.ft_pairs.specs.Order.{at_cmp}
use Rattle.ft_pairs.specs.Source.{Ops, IsSource}

-- whether two places are the same
abbrev pub same_at : At → At → Bool
same_at = eq_by_cmp at_cmp

-- the operations with this one at a place
abbrev pub with_op : At → Op → Ops → Ops
with_op at op ops q = if same_at q at then Some op else ops q

-- the operations with none at a place
abbrev pub without_op : At → Ops → Ops
without_op at ops q = if same_at q at then None else ops q

-- an operation, if it is a read
abbrev pub if_read : Option Op → Option Op
if_read (Some Read) = Some Read
if_read (Some Save) = None
if_read None = None

-- the reads among the operations
abbrev pub reads_alone : Ops → Ops
reads_alone ops q = if_read (ops q)

-- what a reading at a place finds stays, as operations change
abbrev pub KeepsSource : Ops → Ops → At → Type 0
KeepsSource old new at = (found : Option At) → IsSource old at found → IsSource new at found
