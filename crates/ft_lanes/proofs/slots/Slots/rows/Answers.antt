-- The entries of the finite map are the rows that are not struck.
use Rattle.std.proofs.Common.{length, sym, ap, ◌∙◌, arith}
use Rattle.std.specs.FinMap as map
use Rattle.ft_lanes.specs.inner.Slots.{SlotsOf}
use Rattle.ft_lanes.specs.inner.Rows.{held_rows}
use Rattle.ft_lanes.proofs.RowLines.{entries-places}
use Rattle.ft_lanes.proofs.slots.Slots.rows.Goals as goal

pub returns-clause-value : goal.returns-clause-value
returns-clause-value c =
    ap held_rows c.deref.ensures.value
    ∙ sym (entries-places c.self.inside.rows.items c.self.invariant.rise)
    ∙ ap (λ (s : SlotsOf). map.entries s.places) c.self.view_is

pub returns-clause-fits : goal.returns-clause-fits
returns-clause-fits c = omega (arith, c.deref.type_inv.1, ap length c.deref.ensures.value, ap (λ rows. length (held_rows rows)) c.deref.ensures.value, c.self.invariant.counted)
