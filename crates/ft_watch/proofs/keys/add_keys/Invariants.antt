use Rattle.std.proofs.Common.{◌≡◌, List}
use Rattle.std.specs.Prelude.{is_some, ◌||◌}
use Rattle.std.specs.FinMap as map
use Rattle.std.specs.FinMap.{find}
use Rattle.ft_fields.specs.declared.key.Part.{Part}
use Rattle.ft_fields.specs.Parts.{key_cmp}
use Rattle.ft_maps.specs.Seen.{seen}
use Rattle.ft_watch.proofs.keys.add_keys.Given as goal

-- with the keys that are left there are all
abbrev pub invariant-loop-key : goal.invariant-loop-key
invariant-loop-key g l = (q : List Part) → (is_some (map.get (seen key_cmp l.keys) q) || is_some (find key_cmp q l.key-iterator)) ≡ (is_some (map.get (seen key_cmp l.initial.keys) q) || is_some (map.get (seen key_cmp l.rows) q))
