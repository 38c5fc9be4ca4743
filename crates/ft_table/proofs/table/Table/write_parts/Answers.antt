-- The rows are those of hits, whose keys fit.
use Rattle.std.proofs.Common.{List, sym, subst, ◌∙◌}
use Rattle.std.specs.List.{All}
use Rattle.ft_hist.specs.Fitting.{KeyFits}
use Rattle.ft_table.specs.Counted.{Counted}
use Rattle.ft_table.proofs.Distinct.{rows_fit}
use Rattle.ft_table.proofs.table.Table.write_parts.Goals as goal

pub write_rows-requires : goal.write_rows-requires
write_rows-requires c =
    subst (λ (rows : List Counted). All (λ (row : Counted). KeyFits c.args.trigger.now.keys row.key) rows) (sym (c.deref.ensures.value ∙ c.in_ok-rows.ensures))
    (rows_fit c.one_row_order.ensures.permutation c.args.self.now c.args.trigger.now c.sort.result.now c.requires)
