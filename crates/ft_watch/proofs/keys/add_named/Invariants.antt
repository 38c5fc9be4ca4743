use Rattle.std.proofs.Common.{◌≡◌, List, drop}
use Rattle.std.specs.Prelude.{is_some, ◌||◌}
use Rattle.std.specs.FinMap as map
use Rattle.ft_fields.specs.declared.key.Part.{Part}
use Rattle.ft_fields.specs.Parts.{key_cmp}
use Rattle.ft_maps.specs.Seen.{seen}
use Rattle.ft_changes.specs.Reports.{is_reported}
use Rattle.ft_watch.proofs.keys.add_named.Given as goal

-- with the rows that are left there are all
abbrev pub invariant-loop-row : goal.invariant-loop-row
invariant-loop-row l = (q : List Part) → (is_some (map.get (seen key_cmp l.keys) q) || is_reported (drop l.row-index l.rows) l.id q) ≡ (is_some (map.get (seen key_cmp l.initial.keys) q) || is_reported l.rows l.id q)
