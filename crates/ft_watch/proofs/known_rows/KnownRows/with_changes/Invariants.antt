use Rattle.std.proofs.Common.{◌≡◌, map}
use Rattle.std.specs.FinMap as finite
use Rattle.ft_fields.specs.Parts.{key_cmp}
use Rattle.ft_maps.specs.Seen.{seen}
use Rattle.ft_watch.proofs.Rows.{told_rows}
use Rattle.ft_watch.proofs.known_rows.KnownRows.with_changes.Given as goal

abbrev pub invariant-loop-key : goal.invariant-loop-key
invariant-loop-key l = told_rows l.id l.self l.now (map (λ e. e.0) l.key-iterator) l.told ≡ told_rows l.id l.self l.now (finite.keys (seen key_cmp l.keys)) l.fn.changes
