use Rattle.ft_stream.proofs.TellingOn.{by_cleared, tells_end}
use Rattle.ft_stream.proofs.phase.take_end.Goals as goal

pub returns-in-Ok-clause-reads : goal.returns-in-Ok-clause-reads
returns-in-Ok-clause-reads c choice text before had =
    tells_end choice _ text before _ _ _ c.keep_waits.ensures had (c.in-Ok.ensures.reads choice text had.dispatches (by_cleared choice _ text had.dispatches _ c.clear.ensures.items had.has_read)) c.in-Ok.ensures.doubts

pub returns-in-Err-clause-fails : goal.returns-in-Err-clause-fails
returns-in-Err-clause-fails c choice text before had =
    c.in-Err.ensures.fails choice text had.dispatches (by_cleared choice _ text had.dispatches _ c.clear.ensures.items had.has_read)
