use Rattle.ft_pairs.specs.ByKey.{ops_of}
use Rattle.ft_pairs.proofs.Nexts.{same_next}
use Rattle.ft_pairs.proofs.Touched.{own_source}
use Rattle.ft_pairs.proofs.laws.own_operations.Goals as goal

pub returns : goal.returns
returns c = record { sources = own_source; nexts = λ old new key same. same_next (ops_of old key) (ops_of new key) same }
