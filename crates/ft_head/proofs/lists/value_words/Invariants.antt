use Rattle.std.proofs.Common.{◌≡◌, ◌≤◌, length}
use Rattle.ft_head.specs.Draft.{items_of, items_from, with_value, besides_hitcount}
use Rattle.ft_head.proofs.lists.value_words.Given as goal

-- the items that are left make of the words so far what all items make of none
abbrev pub invariant-loop-item : goal.invariant-loop-item
invariant-loop-item l = record {
  same : items_from (with_value l.event) l.words.items l.items ≡ items_of (with_value l.event) l.list.place l.list.bytes;
  few : length (besides_hitcount l.words.items) ≤ 3;
}

abbrev pub decreases-loop-item : goal.decreases-loop-item
decreases-loop-item l = length l.items
