use Rattle.std.proofs.Common.{arith}
use Rattle.std.proofs.lemmas.Grind.{common_steps}
use Rattle.ft_lanes.specs.Listing.{stamp_text}
use Rattle.ft_lanes.proofs.listing.add_stamp.Goals as goal

pub returns : goal.returns
unfolding stamp_text
returns c = grind (arith, common_steps)
