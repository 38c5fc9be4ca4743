use Rattle.ft_pairs.proofs.Touched.{but_reads, unset}
use Rattle.ft_pairs.proofs.laws.reads_of_one_key.Goals as goal

pub returns : goal.returns
returns c = record { others = but_reads; unset = unset }
