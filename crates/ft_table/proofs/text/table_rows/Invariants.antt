use Rattle.std.proofs.Common.{◌≡◌, take, map as list_map}
use Rattle.ft_table.specs.Text.{keyed_text}
use Rattle.ft_table.proofs.text.table_rows.Given as goal

-- the rows so far have their texts
abbrev pub invariant-loop-row : goal.invariant-loop-row
invariant-loop-row l = l.keyed.items ≡ list_map (keyed_text l.trigger) (take l.row-index l.rows)
