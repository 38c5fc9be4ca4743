use Rattle.std.proofs.Common.{◌∙◌}
use Rattle.ft_replay.specs.Operations.{ops_on}
use Rattle.ft_replay.proofs.Elsewhere.{same_op, same_hit, same_found}
use Rattle.ft_replay.proofs.laws.same_elsewhere.Goals as goal

pub returns : goal.returns
returns c = record {
  hits = same_hit;
  ops = same_op;
  front = λ triggers others events more variable at same.
      same_found c.one_source.ensures triggers others events more variable at (c.local_sources.ensures.front (ops_on triggers events variable) (ops_on others more variable) at same);
  behind = λ triggers others events more variable at mid op was same_mid before same.
      same_found c.one_source.ensures triggers others events more variable at
      (c.local_sources.ensures.behind (ops_on triggers events variable) (ops_on others more variable) at mid op was (same_mid ∙ was) before same);
}
