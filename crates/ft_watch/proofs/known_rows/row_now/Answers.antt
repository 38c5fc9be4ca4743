use Rattle.std.proofs.Common.{⊎_elim}
use Rattle.ft_watch.proofs.Shown.{answered_row, refused_row}
use Rattle.ft_watch.proofs.known_rows.row_now.Goals as goal

pub returns-in-Ok-clause-row : goal.returns-in-Ok-clause-row
returns-in-Ok-clause-row g c = answered_row c.rows_make_the_text.ensures.row c.args.desk.now.base c.args.id c.args.key.now _ c.in-Ok.ensures.gives.1

pub returns-else-is_memory-clause-row : goal.returns-else-is_memory-clause-row
returns-else-is_memory-clause-row g c =
    ⊎_elim (λ memory. absurd (c.is_memory.ensures c.if-is_memory.false memory)) (λ is. refused_row c.rows_make_the_text.ensures.row c.args.desk.now.base c.args.id c.args.key.now c.in-Err.reason is) c.in-Err.ensures.gives.1
