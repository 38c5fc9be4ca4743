-- A slot is taken out, and so its event is.
use Rattle.std.proofs.Common.{◌≡◌, ℕ, sym, ap, refl, ◌∙◌, ◌+◌, length, Option, Some, None, option_map, is_some}
use Rattle.std.specs.Option.{option_len}
use Rattle.std.specs.Ordering.{nat_cmp}
use Rattle.ft_fields.specs.Traced.{Traced}
use Rattle.ft_maps.specs.Seen.{seen}
use Rattle.ft_lanes.specs.Held.{Lanes, event_at}
use Rattle.ft_lanes.specs.Edits.{lanes_without}
use Rattle.ft_store.specs.Stored.{stored_at}
use Rattle.ft_lanes.specs.inner.Slots.{lanes_by, slots_in}
use Rattle.ft_lanes.proofs.Counts.{stored-without}
use Rattle.ft_lanes.proofs.Views.{lanes-without, event_at-place}
use Rattle.ft_lanes.proofs.lanes.Lanes.take.Goals as goal
use mir.Val.{bool_byte}

one : (f : ℕ → Traced) (o : Option ℕ) → option_len o ≡ bool_byte (is_some (option_map f o))
one f None = refl
one f (Some place) = refl

pub invariant_of-self : goal.invariant_of-self
invariant_of-self c =
    let all = seen nat_cmp c.self.inside.lanes in
    let new = seen nat_cmp c.take_in-place.new.lanes in
    stored-without (length c.self.inside.store) c.self.inside.held all new c.args.cpu c.args.line c.from.result c.self.invariant c.take_in-place.ensures.rest
    (c.take_in-place.ensures.count ∙ ap (λ n. slots_in new + n) (one (stored_at c.self.inside.store) c.take_in-place.result ∙ ap (λ o. bool_byte (is_some o)) (sym c.event_of-event.ensures) ∙ ap bool_byte (sym c.is_some.ensures) ∙ sym c.from.ensures))

pub returns-clause-value : goal.returns-clause-value
returns-clause-value c =
    let at = stored_at c.self.inside.store in
    c.event_of-event.ensures
    ∙ ap (option_map (stored_at c.self.inside.store)) c.take_in-place.ensures.value
    ∙ sym (event_at-place at (seen nat_cmp c.self.inside.lanes) c.args.cpu c.args.line)
    ∙ ap (λ (lanes : Lanes). event_at lanes c.args.cpu c.args.line) c.self.view_is

pub returns-clause-rest : goal.returns-clause-rest
returns-clause-rest c =
    let at = stored_at c.self.inside.store in
    c.forget_dead.ensures
    ∙ ap (lanes_by at) c.take_in-place.ensures.rest
    ∙ lanes-without at (seen nat_cmp c.self.inside.lanes) c.args.cpu c.args.line
    ∙ ap (λ (lanes : Lanes). lanes_without lanes c.args.cpu c.args.line) c.self.view_is
