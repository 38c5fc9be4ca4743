use Rattle.std.proofs.Common.{◌≡◌, List, drop}
use Rattle.std.specs.Prelude.{◌||◌}
use Rattle.ft_fields.specs.declared.key.Part.{Part}
use Rattle.ft_changes.specs.Rivals.{is_of}
use Rattle.ft_changes.proofs.sorted_keys.SortedKeys.of.Given as goal

-- with the keys that are left there are all
abbrev pub invariant-loop-key : goal.invariant-loop-key
invariant-loop-key l = (q : List Part) → (is_of l.sorted q || is_of (drop l.key-index l.keys) q) ≡ is_of l.keys q
