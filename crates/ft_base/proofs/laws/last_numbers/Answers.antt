use Rattle.std.proofs.Common.{◌≡◌, ◌≤◌, ◌<◌, ◌+◌, ℕ, Option, Some, None, Result, Ok, Err, unwrap_or, ap, ◌∙◌, arith}
use Rattle.std.specs.FinMap as map
use Rattle.ft_fields.specs.Traced.{Traced}
use Rattle.ft_hist.specs.Hist.{Hist}
use Rattle.ft_lanes.specs.Held.{Lane, number_limit, event_limit, held_in}
use Rattle.ft_lanes.specs.Edits.{new_lane, lane_or_new, lanes_with}
use Rattle.ft_base.specs.declared.refused.Place.{Place}
use Rattle.ft_base.specs.declared.refused.Refused.{Refused}
use Rattle.ft_base.specs.declared.refused.Refused.TheVariants.{Full, TooManyTriggers}
use Rattle.ft_base.specs.Base.{Base, id_limit, trigger_limit}
use Rattle.ft_base.specs.After.{after_insert, after_attach, variable_refusal}
use Rattle.ft_base.proofs.Cases.{insert-high, insert-ok}
use Rattle.ft_base.proofs.After.{attach-high, attach-ok}
use Rattle.ft_base.proofs.laws.last_numbers.Goals as goal

-- the next number of a lane that is held
next-held : (base : Base) (event : Traced) (lane : Lane) (n : ℕ) → map.get base.lanes event.cpu ≡ Some lane → lane.next ≡ n → (lane_or_new base.lanes event.cpu).next ≡ n
next-held base event lane n held next = ap (λ (one : Option Lane). (unwrap_or one new_lane).next) held ∙ next

last-line : (base : Base) (event : Traced) (lane : Lane) → map.get base.lanes event.cpu ≡ Some lane → lane.next ≡ number_limit → held_in base.lanes < event_limit
    → after_insert base event ≡ Ok (record base { lanes = lanes_with base.lanes event }, record { cpu = event.cpu; line = number_limit })
last-line base event lane held next few =
    let e = next-held base event lane number_limit held next in
    let low : (lane_or_new base.lanes event.cpu).next ≤ number_limit = omega arith in
    let given : ℕ → Result (Base × Place) Refused = λ line. Ok (record base { lanes = lanes_with base.lanes event }, record { cpu = event.cpu; line = line }) in
    insert-ok base event few low ∙ ap given e

no-line : (base : Base) (event : Traced) (lane : Lane) → map.get base.lanes event.cpu ≡ Some lane → lane.next ≡ number_limit + 1 → after_insert base event ≡ Err Full
no-line base event lane held next =
    let e = next-held base event lane (number_limit + 1) held next in
    let high : number_limit < (lane_or_new base.lanes event.cpu).next = omega arith in
    insert-high base event high

last-id : (base : Base) (hist : Hist) → base.next_id ≡ id_limit → map.len base.triggers < trigger_limit → variable_refusal base.triggers hist hist.variable ≡ None
    → after_attach base hist ≡ Ok (record base { triggers = map.insert base.triggers id_limit hist; next_id = id_limit + 1 }, id_limit)
last-id base hist next few free =
    let low : base.next_id ≤ id_limit = omega arith in
    let given : ℕ → Result (Base × ℕ) Refused = λ id. Ok (record base { triggers = map.insert base.triggers id hist; next_id = id + 1 }, id) in
    attach-ok base hist few low free ∙ ap given next

no-id : (base : Base) (hist : Hist) → base.next_id ≡ id_limit + 1 → after_attach base hist ≡ Err TooManyTriggers
no-id base hist next =
    let high : id_limit < base.next_id = omega arith in
    attach-high base hist high

pub returns : goal.returns
returns c = record {
  last_line = last-line;
  no_line = no-line;
  last_id = last-id;
  no_id = no-id;
}
