use Rattle.std.proofs.Common.{sym, ap, ◌∙◌}
use Rattle.std.specs.Map.{lookup}
use Rattle.std.specs.BTreeMap.{is_at}
use Rattle.std.specs.Ordering.{nat_cmp}
use Rattle.std.specs.FinMap as map
use Rattle.ft_lanes.specs.inner.Slots.{SlotsOf}
use Rattle.ft_lanes.specs.inner.Rows.{held_rows}
use Rattle.ft_lanes.proofs.RowLines.{get-places}
use Rattle.ft_lanes.proofs.slots.Slots.take.Goals as goal

pub returns-clause-value : goal.returns-clause-value
returns-clause-value c =
    c.strike-place.ensures.value
    ∙ ap (λ rows. lookup (is_at (nat_cmp c.args.line)) (held_rows rows)) c.deref_mut.ensures.value
    ∙ sym (get-places c.self.inside.rows.items c.args.line)
    ∙ ap (λ (s : SlotsOf). map.get s.places c.args.line) c.self.view_is
