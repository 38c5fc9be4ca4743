use Rattle.std.proofs.Common.{sym, ap, ◌∙◌, ◌++◌}
use Rattle.ft_watch.specs.ChangedRows.{signed_line}
use Rattle.std.specs.Option.{option_copied}
use Rattle.ft_watch.specs.inner.Told.{with_row}
use Rattle.ft_watch.proofs.Rows.{row_added}
use Rattle.ft_watch.proofs.signed_lines.SignedLines.with_row.Goals as goal

pub returns : goal.returns
returns c =
    row_added c.args.id (option_copied c.args.before) (option_copied c.args.now) (record { lines = c.self.inside.lines.items; count = c.self.inside.count }) c.add_signed-2.new.lines.items
    (sym c.is_same_row.ensures ∙ c.if-is_same_row.false)
    (c.in_ok-add_signed-2.ensures ∙ ap (λ l. l ++ signed_line 43 c.args.id (option_copied c.args.now)) c.in_ok-add_signed.ensures)
    ∙ ap (with_row c.args.id (option_copied c.args.before) (option_copied c.args.now)) c.self.view_is
