use Rattle.std.proofs.Common.{◌≡◌, ◌++◌, drop}
use Rattle.ft_text.specs.Fronts.{IsFront}
use Rattle.ft_table.specs.Text.{sums_text}
use Rattle.ft_table.proofs.text.write_sums.Given as goal

-- with the sums to come the text is that of all sums
abbrev pub invariant-loop-at : goal.invariant-loop-at
invariant-loop-at l = record {
  added : l.text.items ++ sums_text l.trigger.variable (drop l.at l.values) (drop l.at l.sums) ≡ l.fn.text.items ++ sums_text l.trigger.variable l.values l.sums;
  front : IsFront l.fn.text.items l.text.items;
}
