use Rattle.ft_made.proofs.Order.{get-made, entries-made, list-sorted}
use Rattle.ft_made.proofs.laws.made_by_spot.Goals as goal

pub returns : goal.returns
returns c = record { events = get-made; order = entries-made; distinct = list-sorted }
