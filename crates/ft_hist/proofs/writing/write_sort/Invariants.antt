use Rattle.std.proofs.Common.{◌≡◌, ◌++◌, drop, map}
use Rattle.ft_text.specs.Fronts.{IsFront}
use Rattle.ft_hist.specs.Canonical.{listed, more_items, sort_text}
use Rattle.ft_hist.proofs.writing.write_sort.Given as goal

abbrev pub invariant-loop-at : goal.invariant-loop-at
invariant-loop-at l = record {
  added : l.text.items ++ more_items (map (sort_text l.trigger) (drop l.at l.items)) ≡ l.fn.text.items ++ listed (map (sort_text l.trigger) l.items);
  front : IsFront l.fn.text.items l.text.items;
}
