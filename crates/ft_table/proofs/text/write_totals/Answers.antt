use Rattle.std.proofs.Common.{codes, decimal, refl}
use Rattle.std.proofs.lemmas.Result.{on_ok_weaker}
use Rattle.ft_table.specs.Text.{totals_text}
use Rattle.ft_text.proofs.Appends.{added_once}
use Rattle.ft_table.proofs.Added.{added_pairs}
use Rattle.ft_table.proofs.text.write_totals.Goals as goal

pub returns-clause-ok : goal.returns-clause-ok
unfolding totals_text
returns-clause-ok c =
    let totals = c.args.totals in
    on_ok_weaker c.extend_from_slice.result
    (added_pairs c.args.text.now.items c.write_total.new.text.items c.write_total-2.new.text.items c.write_total-3.new.text.items c.extend_from_slice.new.self.items
    (codes "\nTotals:\n    Hits: ") (decimal totals.hits) (codes "\n    Entries: ") (decimal totals.entries) (codes "\n    Dropped: ") (decimal totals.dropped) (codes "\n")
    c.in_ok-write_total.ensures.ok c.in_ok-write_total-2.ensures.ok c.in_ok-write_total-3.ensures.ok)
    (added_once c.extend_from_slice.result c.write_total-3.new.text.items c.extend_from_slice.new.self.items _ _ refl c.extend_from_slice.ensures.items)
