-- The event goes after the store, and its place to its lane.
use Rattle.std.proofs.Common.{◌≡◌, ◌≤◌, ◌+◌, sym, ap, ◌∙◌, subst, length, unwrap_or}
use Rattle.std.specs.Ordering.{nat_cmp}
use Rattle.std.specs.FinMap as map
use Rattle.std.proofs.lemmas.List.{length_push}
use Rattle.std.proofs.lemmas.Result.{on_ok_weaker, IfOk-weaker}
use Rattle.ft_maps.specs.Seen.{seen}
use Rattle.ft_lanes.specs.Held.{number_limit}
use Rattle.ft_lanes.specs.Edits.{new_lane, lane_with}
use Rattle.ft_store.specs.Stored.{stored_at}
use Rattle.ft_lanes.specs.inner.Slots.{no_slots, lanes_by, AreStored}
use Rattle.ft_lanes.proofs.Counts.{stored-with}
use Rattle.ft_lanes.proofs.Views.{lanes-with, lanes-appended, lane-or_new, stored-last, at_ok}
use Rattle.ft_lanes.proofs.lanes.Lanes.push_behind.Goals as goal

pub push_in-pushed-requires-clause-numbered : goal.push_in-pushed-requires-clause-numbered
push_in-pushed-requires-clause-numbered c =
    let at = stored_at c.self.inside.store in
    let all = seen nat_cmp c.self.inside.lanes in
    let same : (unwrap_or (map.get c.args.self.now c.args.event.cpu) new_lane).next ≡ (unwrap_or (map.get all c.event.inside.cpu) no_slots).next =
    (λ i. (unwrap_or (map.get (sym c.self.view_is i) (sym c.event.view_is i).cpu) new_lane).next)
    ∙ ap (λ l. l.next) (sym (lane-or_new at all c.event.inside.cpu)) in
    subst (λ n. n ≤ number_limit) same c.requires

pub invariant_of-self-2 : goal.invariant_of-self-2
invariant_of-self-2 c =
    let all = seen nat_cmp c.self.inside.lanes in
    let new = seen nat_cmp c.push_in-pushed.new.lanes in
    let n = length c.self.inside.store in
    let ok = c.if-is_err.ensures.value in
    subst (λ k. AreStored k (c.self.inside.held + 1) new) (sym (ap length c.in_ok-push.ensures.ok ∙ length_push c.self.inside.store c.args.event))
    (stored-with n c.self.inside.held all new c.event.inside.cpu c.in_ok-place.place c.self.invariant c.in_ok-place.ensures.value (at_ok c.push_in-pushed.result ok c.push_in-pushed.ensures.ok) (at_ok c.push_in-pushed.result ok c.push_in-pushed.ensures.count))

pub returns-clause-ok : goal.returns-clause-ok
returns-clause-ok c =
    let all = seen nat_cmp c.self.inside.lanes in
    let store = c.self.inside.store in
    let new = c.push.new.self in
    let cpu = c.event.inside.cpu in
    let at : stored_at new c.in_ok-place.place ≡ c.args.event = (λ i. stored_at (c.in_ok-push.ensures.ok i) (c.in_ok-place.ensures.value i)) ∙ stored-last store c.args.event in
    let held : lanes_by (stored_at new) all ≡ c.args.self.now = ap (λ items. lanes_by (stored_at items) all) c.in_ok-push.ensures.ok ∙ lanes-appended store _ all c.self.invariant.within ∙ c.self.view_is in
    on_ok_weaker c.push_in-pushed.result (λ e.
    ap (lanes_by (stored_at new)) e
    ∙ lanes-with (stored_at new) all cpu c.in_ok-place.place
    ∙ (λ i. map.insert (held i) (c.event.view_is i).cpu (lane_with (unwrap_or (map.get (held i) (c.event.view_is i).cpu) new_lane) (at i)))) c.push_in-pushed.ensures.ok

pub returns-clause-line : goal.returns-clause-line
returns-clause-line c =
    let at = stored_at c.self.inside.store in
    let all = seen nat_cmp c.self.inside.lanes in
    IfOk-weaker c.push_in-pushed.result (λ line. line ≡ (unwrap_or (map.get all c.event.inside.cpu) no_slots).next) _ (λ line is.
    is ∙ ap (λ l. l.next) (lane-or_new at all c.event.inside.cpu)
    ∙ (λ i. (unwrap_or (map.get (c.self.view_is i) (c.event.view_is i).cpu) new_lane).next)) c.push_in-pushed.ensures.line
