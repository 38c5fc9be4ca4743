use Rattle.std.proofs.Common.{◌≡◌, List, [], drop}
use Rattle.std.specs.List.{fold}
use Rattle.ft_fields.specs.declared.key.Part.{Part}
use Rattle.ft_changes.specs.Rivals.{is_of}
use Rattle.ft_kept.specs.Touched.{with_new_key}
use Rattle.ft_kept.proofs.report.each_once.Given as goal

-- the keys that are left lead where all lead; those that were met are those that were found
abbrev pub invariant-loop-key : goal.invariant-loop-key
invariant-loop-key l = record {
  once : fold with_new_key l.found.items (drop l.key-index l.keys) ≡ fold with_new_key [] l.keys;
  same : (q : List Part) → is_of l.met q ≡ is_of l.found.items q;
}
