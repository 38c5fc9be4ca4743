use Rattle.ft_stream.proofs.TellingOn.{by_cleared, tells_on}
use Rattle.ft_stream.proofs.phase.take_piece.Goals as goal

pub returns-in-Ok-clause-reads : goal.returns-in-Ok-clause-reads
returns-in-Ok-clause-reads c choice text before had =
    tells_on choice _ _ text _ before _ _ c.keep_waits.ensures had (c.in-Ok.ensures.reads choice text had.dispatches (by_cleared choice _ text had.dispatches _ c.clear.ensures.items had.has_read)) c.in-Ok.ensures.well

pub returns-in-Err-clause-fails : goal.returns-in-Err-clause-fails
returns-in-Err-clause-fails c choice text before had =
    c.in-Err.ensures.fails choice text had.dispatches (by_cleared choice _ text had.dispatches _ c.clear.ensures.items had.has_read)
