use Rattle.std.proofs.Common.{◌≡◌, ◌++◌, drop}
use Rattle.ft_text.specs.Fronts.{IsFront}
use Rattle.ft_table.specs.Text.{listed_parts, more_parts}
use Rattle.ft_table.proofs.text.write_parts.Given as goal

-- with the parts to come the text is that of all parts
abbrev pub invariant-loop-at : goal.invariant-loop-at
invariant-loop-at l = record {
  added : l.text.items ++ more_parts (drop l.at l.items) (drop l.at l.key) ≡ l.fn.text.items ++ listed_parts l.items l.key;
  front : IsFront l.fn.text.items l.text.items;
}
