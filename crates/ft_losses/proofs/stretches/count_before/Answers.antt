use Rattle.std.proofs.Common.{rules}
use Rattle.std.proofs.lemmas.List.Sorted.{IsPartitionPoint-from_clause}
use Rattle.ft_losses.specs.inner.Stretches.{is_before}
use Rattle.ft_losses.specs.declared.stretches.Stretch.{Stretch}
use Rattle.ft_losses.proofs.Asking.{rows-part}
use Rattle.ft_losses.proofs.stretches.count_before.Goals as goal

pub returns-clause-before : goal.returns-clause-before
returns-clause-before c = λ up.
    IsPartitionPoint-from_clause (λ (row : Stretch). is_before c.args.limit row) _ _ c.partition_point.ensures.partitioned (rows-part c.args.rows.now c.args.limit up) (λ a r q k. search rules)
