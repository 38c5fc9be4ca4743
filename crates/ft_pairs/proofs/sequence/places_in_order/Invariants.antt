use Rattle.std.proofs.Common.{◌≡◌, ◌++◌, drop, None}
use Rattle.std.specs.Map.{keys_of}
use Rattle.ft_pairs.proofs.Sides.{rises}
use Rattle.ft_pairs.proofs.sequence.places_in_order.Given as goal

-- the places so far and those that are left are all, and these rise from the last place as all do
abbrev pub invariant-loop-at : goal.invariant-loop-at
invariant-loop-at l = record {
  same : keys_of l.places.items ++ drop l.at-index l.reads ≡ l.reads;
  rise : rises l.before (drop l.at-index l.reads) ≡ rises None l.reads;
}
