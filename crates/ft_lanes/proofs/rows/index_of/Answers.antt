-- Where the answers are `Equal` the line is, and between `Less` and `Greater` it is not.
use Rattle.std.proofs.Common.{rules}
use Rattle.std.specs.FinMap.{nat_cmp-IsAntisymmetric}
use Rattle.std.proofs.lemmas.List.Sorted.{answers_always}
use Rattle.ft_lanes.proofs.RowLines.{searched-none}
use Rattle.ft_lanes.proofs.rows.index_of.Goals as goal

pub returns-in-Ok-clause-found : goal.returns-in-Ok-clause-found
returns-in-Ok-clause-found c d = nat_cmp-IsAntisymmetric _ _ (c.in-Ok.ensures.position (λ row. row.0) (answers_always _ _ _ (λ f a r q k. search rules)) d)

pub returns-in-Err-clause-none : goal.returns-in-Err-clause-none
returns-in-Err-clause-none c _ = searched-none c.args.rows.now c.requires c.args.line c.in-Err.field-0 c.in-Err.ensures.bound (c.in-Err.ensures.position (λ row. row.0) (answers_always _ _ _ (λ f a r q k. search rules)))
