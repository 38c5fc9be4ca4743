use Rattle.std.proofs.Common.{◌≡◌, refl, ap, ◌∙◌, ◌&&◌, ◌||◌, rules, ℤ, nat_lt}
use Rattle.std.specs.Prelude.{List, Some, if◌then◌else◌, ◌==◌}
use Rattle.std.specs.Ordering.{int_eq}
use Rattle.std.specs.Option.{option_or, unwrap_or}
use Rattle.ft_fields.specs.Borrowed.{event_told}
use Rattle.ft_windows.specs.Naming.{says, next_by}
use Rattle.ft_windows.specs.Telling.{lane_in, named_in, begins_before, ends_after}
use Rattle.ft_windows.specs.declared.lanes.Edge.{Edge}
use Rattle.ft_windows.specs.declared.lanes.Lane.{Lane}
use Rattle.ft_windows.proofs.Keeping.{or-some, taken}
use Rattle.ft_windows.proofs.windows.Windows.take.Goals as goal

pub returns : goal.returns
returns c = λ events showings keeps.
    let old = c.args.self.now in
    let event = event_told c.args.event.now in
    let edge : Edge = record { stamp = event.stamp; pid = event.pid } in
    let is : c.lane_of-lane.result ≡ lane_in old.lanes.items event.cpu = c.lane_of-lane.ensures ∙ ap (λ (ls : List Lane). lane_in ls event.cpu) c.deref.ensures.value in
    taken old _ event events showings (record { first = Some c.unwrap_or.result; last = Some (record { stamp = event.stamp; pid = c.next_by.result }) }) (λ other fits. c.put_lane.ensures.at other fits
    ∙ ap (λ (p : ℤ). if event.cpu == other then record { first = Some c.unwrap_or.result; last = Some (record { stamp = event.stamp; pid = p }) } else lane_in old.lanes.items other) (search rules))
    (ap (λ (e : Edge). Some e) c.unwrap_or.ensures ∙ ap (λ (p : ℤ). Some (unwrap_or c.lane_of-lane.result.first (record { stamp = event.stamp; pid = p }))) (search rules) ∙ or-some c.lane_of-lane.result.first edge ∙ ap (λ (l : Lane). option_or l.first (Some edge)) is)
    (ap (λ (p : ℤ). Some (record { stamp = event.stamp; pid = p })) (c.next_by.ensures ∙ ap (λ (p : ℤ). next_by p event.body) (search rules)))
    (λ q stamp. c.in_ok-note_body.ensures.before q stamp
    ∙ ap (λ b. (says q event.body && nat_lt event.stamp stamp) || b) (c.in_ok-note.ensures.before q stamp ∙ ap (λ (p : ℤ). (int_eq p q && nat_lt event.stamp stamp) || begins_before (named_in old.tasks q) stamp) (search rules)))
    (λ q stamp. c.in_ok-note_body.ensures.after q stamp
    ∙ ap (λ b. (says q event.body && nat_lt stamp event.stamp) || b) (c.in_ok-note.ensures.after q stamp ∙ ap (λ (p : ℤ). (int_eq p q && nat_lt stamp event.stamp) || ends_after (named_in old.tasks q) stamp) (search rules)))
    refl refl refl keeps
