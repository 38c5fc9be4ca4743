use Rattle.std.proofs.Common.{◌≡◌, ◌++◌, drop, None}
use Rattle.std.specs.Map.{keys_of}
use Rattle.ft_pairs.specs.declared.at.Op.TheVariants.{Save}
use Rattle.ft_pairs.specs.inner.Sides.{as_ops}
use Rattle.ft_pairs.proofs.Sides.{rises}
use Rattle.ft_pairs.proofs.sequence.saves_in_order.Given as goal

-- the saves so far and the operations that are left are all, and these rise from the last place as all do
abbrev pub invariant-loop-operation : goal.invariant-loop-operation
invariant-loop-operation l = record {
  same : as_ops Save l.places.items ++ drop l.operation-index l.run ≡ l.run;
  rise : rises l.before (keys_of (drop l.operation-index l.run)) ≡ rises None (keys_of l.run);
}
