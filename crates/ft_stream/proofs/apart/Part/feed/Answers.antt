use Rattle.ft_stream.proofs.TellingOn.{holds_on}
use Rattle.ft_stream.proofs.apart.Part.feed.Goals as goal

pub returns-in-Ok-clause-reads : goal.returns-in-Ok-clause-reads
returns-in-Ok-clause-reads c choice text before had =
    holds_on choice _ _ text _ before _ _ c.keep_waits.ensures had (c.in-Ok.ensures.takes choice text had.dispatches had.has_read had.held)

pub returns-in-Err-clause-fails : goal.returns-in-Err-clause-fails
returns-in-Err-clause-fails c choice text before had = c.in-Err.ensures.fails choice text had.dispatches had.has_read
