use Rattle.std.proofs.Common.{ℕ, List, ◌++◌, ap, ◌∙◌}
use Rattle.ft_table.specs.Rows.{table_text}
use Rattle.ft_table.specs.Text.{heading}
use Rattle.ft_table.proofs.table.Table.text.Goals as goal

pub returns : goal.returns
returns c =
    c.in_ok-write.ensures.ok
    ∙ ap (λ (above : List ℕ). above ++ table_text c.args.self.now c.args.trigger.now)
    (c.in_ok-write_heading.ensures ∙ ap (λ (old : List ℕ). old ++ heading c.args.trigger.now) c.new-text.ensures.items)
