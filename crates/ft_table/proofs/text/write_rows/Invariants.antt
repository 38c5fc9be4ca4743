use Rattle.std.proofs.Common.{◌≡◌, ◌++◌, take}
use Rattle.std.specs.List.{flat_map}
use Rattle.ft_text.specs.Fronts.{IsFront}
use Rattle.ft_table.specs.Text.{row_line}
use Rattle.ft_table.proofs.text.write_rows.Given as goal

-- the lines so far are added
abbrev pub invariant-loop-row : goal.invariant-loop-row
invariant-loop-row l = record {
  added : l.text.items ≡ l.fn.text.items ++ flat_map (row_line l.trigger) (take l.row-index l.rows);
  front : IsFront l.fn.text.items l.text.items;
}
