-- An event without its names adds the same, and so does any event if no field is summed.
use Rattle.std.proofs.Common.{◌≤◌, ℕ, rules, sym, ap, subst, ◌∙◌, w64}
use Rattle.std.specs.List.{list_any}
use Rattle.std.proofs.lemmas.Int.{to_z-of_z}
use Rattle.ft_fields.specs.Traced.{Traced, last_stamp}
use Rattle.ft_groups.proofs.Bare.{bare_values}
use Rattle.ft_hist.specs.Values.{values_of}
use Rattle.ft_store.specs.Stored.{held}
use Rattle.ft_table.specs.Values.{own_value}
use Rattle.ft_shelves.specs.inner.Joining.{is_field}
use Rattle.ft_shelves.proofs.Unasked.{unasked}
use Rattle.ft_shelves.proofs.joining.sums_at.Goals as goal

pub own_value-own-requires : goal.own_value-own-requires
own_value-own-requires c = subst (λ (stamp : ℕ). stamp ≤ last_stamp) c.requires c.stamp_fits.ensures

pub returns-then-sums_field : goal.returns-then-sums_field
returns-then-sums_field c =
    let hist = c.args.trigger.now in
    let event = held c.args.event.now.1 in
    let own = own_value c.args.event.now.0.stamp c.args.read in
    c.values_of.ensures
    ∙ ap (values_of hist c.bare.result) (to_z-of_z w64 c.own_value-own.result (search rules) ∙ c.own_value-own.ensures)
    ∙ ap (λ (x : Traced). values_of hist x own) c.bare.ensures
    ∙ bare_values hist event own

pub returns : goal.returns
returns c =
    let hist = c.args.trigger.now in
    let event = held c.args.event.now.1 in
    let own = own_value c.args.event.now.0.stamp c.args.read in
    c.values_of-2.ensures
    ∙ ap (values_of hist c.blank.result) (to_z-of_z w64 c.own_value-own.result (search rules) ∙ c.own_value-own.ensures)
    ∙ unasked hist c.blank.result event own
    (ap (list_any is_field) (sym c.values-2.ensures.value) ∙ sym c.sums_field.ensures ∙ c.if-sums_field.false)
