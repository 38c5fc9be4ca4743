use Rattle.std.proofs.Common.{◌≡◌, ◌<◌, ◌≤◌, ◌+◌, length}
use Rattle.ft_head.specs.Draft.{items_of, items_from, with_sort}
use Rattle.ft_head.proofs.lists.sort_of.Given as goal

-- the items that are left make of the words so far what all items make of none
abbrev pub invariant-loop-item : goal.invariant-loop-item
invariant-loop-item l = record {
  same : items_from (with_sort) l.words.items l.items ≡ items_of (with_sort) l.list.place l.list.bytes;
  some : 0 < length l.words.items + length l.items;
  few : length l.words.items ≤ 2;
}

abbrev pub decreases-loop-item : goal.decreases-loop-item
decreases-loop-item l = length l.items
