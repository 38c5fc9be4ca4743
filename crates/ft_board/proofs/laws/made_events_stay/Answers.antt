use Rattle.ft_board.proofs.MadeStays.{filter_stay, left_stay, made_still}
use Rattle.ft_board.proofs.laws.made_events_stay.Goals as goal

pub returns-clause-events : goal.returns-clause-events
returns-clause-events c = λ triggers others events old new kept will same spot. made_still c.kept_shelves.ensures.readings c.readers_stay.ensures.shelves triggers others events old new kept will same spot

pub returns-clause-without : goal.returns-clause-without
returns-clause-without c = λ triggers id unread leaves. left_stay triggers id unread leaves

pub returns-clause-filter : goal.returns-clause-filter
returns-clause-filter c = λ id old new gets alike leaves. filter_stay id old new gets alike leaves
