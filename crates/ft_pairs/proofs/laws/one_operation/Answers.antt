use Rattle.ft_pairs.specs.Edits.{with_op, without_op}
use Rattle.ft_pairs.proofs.Touched.{but_next, but_next_of_key, with_at, without_at}
use Rattle.ft_pairs.proofs.laws.one_operation.Goals as goal

pub returns : goal.returns
returns c = record {
  place = λ old new at next elsewhere is. but_next old new at elsewhere next is;
  inserted = λ old new key at put next is first. but_next_of_key old new key (with_op at put) is at (with_at at put) next first;
  removed = λ old new key at next is first. but_next_of_key old new key (without_op at) is at (without_at at) next first;
}
