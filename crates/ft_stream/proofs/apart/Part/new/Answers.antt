use Rattle.ft_stream.proofs.TellingOn.{none_held}
use Rattle.ft_stream.proofs.apart.Part.new.Goals as goal

pub returns : goal.returns
returns c = none_held _ _ c.in_ok-new.ensures.reads c.in_ok-new.ensures.well c.new-2.ensures
