-- The next number is above all lines, so its slot is a new one.
use Rattle.std.proofs.Common.{sym, ap, ◌∙◌, ◌+◌, subst}
use Rattle.std.specs.FinMap as map
use Rattle.ft_lanes.specs.inner.Slots.{SlotsOf, slots_of, slots_with}
use Rattle.ft_lanes.specs.inner.Rows.{held_rows, AreRows}
use Rattle.ft_lanes.proofs.RowLines.{places_of, slots-push, rows-push, len-push}
use Rattle.ft_lanes.proofs.slots.Slots.push.Goals as goal

pub invariant_of-self-2 : goal.invariant_of-self-2
invariant_of-self-2 c =
    subst (AreRows c.self.inside.struck (c.self.inside.next + 1)) (sym c.in_ok-push.ensures.items)
    (rows-push c.self.inside.struck c.self.inside.next c.self.inside.rows.items c.self.invariant c.args.place c.requires.placed)

pub returns-clause-ok : goal.returns-clause-ok
returns-clause-ok c =
    ap (λ rows. slots_of (held_rows rows) (c.self.inside.next + 1)) c.in_ok-push.ensures.items
    ∙ slots-push c.self.inside.struck c.self.inside.next c.self.inside.rows.items c.self.invariant c.args.place c.requires.placed
    ∙ ap (λ (s : SlotsOf). slots_with s c.args.place) c.self.view_is

pub returns-clause-grows : goal.returns-clause-grows
returns-clause-grows c =
    ap (λ rows. map.len (places_of rows)) c.in_ok-push.ensures.items
    ∙ len-push c.self.inside.struck c.self.inside.next c.self.inside.rows.items c.self.invariant c.args.place c.requires.placed
    ∙ ap (λ (s : SlotsOf). map.len s.places + 1) c.self.view_is
