use Rattle.std.proofs.Common.{◌≡◌, ◌++◌, drop, map}
use Rattle.ft_text.specs.Fronts.{IsFront}
use Rattle.ft_hist.specs.Canonical.{listed, more_items, key_item_text}
use Rattle.ft_hist.proofs.writing.write_keys.Given as goal

abbrev pub invariant-loop-at : goal.invariant-loop-at
invariant-loop-at l = record {
  added : l.text.items ++ more_items (map key_item_text (drop l.at l.keys)) ≡ l.fn.text.items ++ listed (map key_item_text l.keys);
  front : IsFront l.fn.text.items l.text.items;
}
