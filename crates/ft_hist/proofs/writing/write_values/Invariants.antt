use Rattle.std.proofs.Common.{◌≡◌, ◌++◌, drop, map}
use Rattle.ft_text.specs.Fronts.{IsFront}
use Rattle.ft_hist.specs.Canonical.{more_items, value_text}
use Rattle.ft_hist.proofs.writing.write_values.Given as goal

abbrev pub invariant-loop-at : goal.invariant-loop-at
invariant-loop-at l = record {
  added : l.text.items ++ more_items (map (value_text l.trigger.variable) (drop l.at l.values)) ≡ l.fn.text.items ++ more_items (map (value_text l.trigger.variable) l.values);
  front : IsFront l.fn.text.items l.text.items;
}
