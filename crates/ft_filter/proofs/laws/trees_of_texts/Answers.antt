use Rattle.ft_filter.proofs.Shapes.{trees_are}
use Rattle.ft_filter.proofs.laws.trees_of_texts.Goals as goal

pub returns : goal.returns
returns c = trees_are
