use Rattle.ft_table.proofs.Added.{still_front}
use Rattle.ft_table.proofs.text.write_line.Goals as goal

pub returns-clause-err : goal.returns-clause-err
returns-clause-err c =
    still_front c.extend_from_slice.result c.args.text.now.items c.write_row.new.text.items c.extend_from_slice.new.self.items _ _ c.in_ok-write_row.ensures.ok c.extend_from_slice.ensures.items
