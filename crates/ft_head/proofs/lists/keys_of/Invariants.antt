use Rattle.std.proofs.Common.{◌≡◌, ◌<◌, ◌≤◌, ◌+◌, length}
use Rattle.ft_head.specs.Draft.{items_of, items_from, with_key}
use Rattle.ft_head.proofs.lists.keys_of.Given as goal

-- the items that are left make of the keys so far what all items make of none
abbrev pub invariant-loop-item : goal.invariant-loop-item
invariant-loop-item l = record {
  same : items_from (with_key l.event) l.keys.items l.items ≡ items_of (with_key l.event) l.list.place l.list.bytes;
  some : 0 < length l.keys.items + length l.items;
  few : length l.keys.items ≤ 3;
}

abbrev pub decreases-loop-item : goal.decreases-loop-item
decreases-loop-item l = length l.items
