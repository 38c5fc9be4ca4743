use Rattle.std.proofs.Common.{◌≡◌, refl, ap, ◌∙◌, if◌then◌else◌, ◌==◌, ◌++◌}
use Rattle.std.specs.Prelude.{ℕ, Option, Some, None}
use Rattle.ft_fields.specs.Borrowed.{event_told}
use Rattle.ft_losses.specs.declared.lanes.Lane.{Lane}
use Rattle.ft_losses.specs.inner.Lanes.{lane_in, with_event}
use Rattle.ft_losses.specs.Holes.{hole_of}
use Rattle.ft_losses.proofs.Noting.{or-some, passed-more}
use Rattle.ft_losses.proofs.losses.Losses.pass.Goals as goal

pub returns : goal.returns
returns c = λ notes keeps.
    let old = c.args.self.now in
    let event = c.args.event.now in
    let is : c.lane_of-lane.result ≡ lane_in old.lanes.items event.cpu = c.lane_of-lane.ensures ∙ ap (λ ls. lane_in ls event.cpu) c.deref.ensures.value in
    passed-more old.lanes.items c.put_lane.new.lanes.items old.ended.items c.add_hole.new.holes.items old.begins old.begins (event_told event) notes event.cpu_within refl
    (λ other fits. c.put_lane.ensures.at other fits
    ∙ ap (λ (first : Option ℕ). if event.cpu == other then record { first = first; last = Some event.stamp; lost = None; overwritten = c.lane_of-lane.result.overwritten } else lane_in old.lanes.items other)
    (ap (λ s. Some s) c.unwrap_or.ensures ∙ or-some c.lane_of-lane.result.first event.stamp)
    ∙ ap (λ (l : Lane). if event.cpu == other then with_event event.stamp l else lane_in old.lanes.items other) is)
    (c.in_ok-add_hole.ensures ∙ ap (λ (l : Lane). old.ended.items ++ hole_of event.cpu l.last (Some event.stamp) l.lost) is)
    keeps
