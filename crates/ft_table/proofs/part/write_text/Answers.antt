use Rattle.std.proofs.lemmas.Result.{on_ok_weaker}
use Rattle.ft_table.specs.Text.{left_aligned}
use Rattle.ft_text.proofs.Appends.{added_two}
use Rattle.ft_table.proofs.part.write_text.Goals as goal

pub returns-clause-ok : goal.returns-clause-ok
unfolding left_aligned
returns-clause-ok c =
    let bytes = rw c.bytes.ensures.value at c.in_ok-extend_from_slice.ensures.items in
    let spaces = rw c.bytes-2.ensures.value at c.write_fill.ensures.ok in
    on_ok_weaker c.write_fill.result (added_two c.args.text.now.items c.extend_from_slice.new.self.items c.write_fill.new.text.items _ _ bytes) spaces
