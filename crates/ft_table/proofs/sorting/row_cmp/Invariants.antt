use Rattle.std.proofs.Common.{◌≡◌, drop}
use Rattle.ft_table.specs.Sorting.{row_cmp}
use Rattle.ft_table.proofs.sorting.row_cmp.Given as goal

-- the sort items so far have told nothing
abbrev pub invariant-loop-item : goal.invariant-loop-item
invariant-loop-item l = row_cmp (drop l.item-index l.sort) l.a l.b ≡ row_cmp l.sort l.a l.b
