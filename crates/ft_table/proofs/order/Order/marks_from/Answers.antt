use Rattle.std.proofs.Common.{ap, ◌∙◌}
use Rattle.std.specs.Map.{keys_of}
use Rattle.ft_hits.specs.Marks.{mark_cmp}
use Rattle.ft_table.specs.Tabled.{marks_from}
use Rattle.ft_table.specs.inner.Ordered.{Ordered}
use Rattle.ft_table.proofs.Orders.{keys_from}
use Rattle.ft_table.proofs.order.Order.marks_from.Goals as goal

pub returns : goal.returns
returns c =
    ap (λ es. keys_of es) c.entries_from.ensures ∙ keys_from mark_cmp c.args.mark.now c.self.inside.marks
    ∙ ap (λ (o : Ordered). marks_from c.args.mark.now o.marks) c.self.view_is
