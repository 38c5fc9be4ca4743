use Rattle.std.proofs.Common.{sym, ◌∙◌, rules}
use Rattle.ft_table.proofs.KeyedRows.{row_fits}
use Rattle.ft_table.proofs.table.Table.text_of_row.Goals as goal

pub row_text-requires : goal.row_text-requires
row_text-requires c = row_fits c.args.self.now c.args.trigger.now c.args.key.now c.in-Some.row c.requires (sym c.row.ensures ∙ c.in-Some.is)

pub returns-in-None : goal.returns-in-None
returns-in-None c = search rules
