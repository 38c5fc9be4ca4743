use Rattle.std.proofs.Common.{◌≡◌, drop}
use Rattle.std.specs.Option.{option_copied}
use Rattle.ft_trigger.specs.TriggerIs.{index_where, names_value}
use Rattle.ft_trigger.proofs.resolving.value_named.Given as goal

-- the first of those that are left is the first of all
abbrev pub invariant-loop-value : goal.invariant-loop-value
invariant-loop-value l = record {
  same : index_where (names_value (option_copied l.own) l.word) l.number (drop l.value-index l.values) ≡ index_where (names_value (option_copied l.own) l.word) 0 l.values;
  count : l.number ≡ l.value-index;
}
