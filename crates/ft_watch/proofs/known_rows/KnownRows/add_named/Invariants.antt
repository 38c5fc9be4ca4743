use Rattle.std.proofs.Common.{◌≡◌}
use Rattle.ft_fields.specs.Parts.{key_cmp}
use Rattle.ft_maps.specs.Seen.{seen}
use Rattle.ft_watch.specs.ChangedRows.{texts_at}
use Rattle.ft_watch.proofs.Rows.{Telling}
use Rattle.ft_watch.proofs.known_rows.KnownRows.add_named.Given as goal

abbrev pub invariant-loop-key : goal.invariant-loop-key
invariant-loop-key g l = record {
  base : l.desk.base ≡ l.initial.desk.base;
  telling : Telling l.id l.initial.self (texts_at l.initial.desk.base l.id) (seen key_cmp l.keys) l.key-iterator l.self l.told l.fn.changes;
}
