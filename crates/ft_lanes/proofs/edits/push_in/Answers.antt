-- The slots that `get_mut` finds are those that the finite map has.
use Rattle.std.proofs.Common.{◌≡◌, ◌≤◌, ◌+◌, sym, ◌∙◌, ap, subst, unwrap_or, Some, None}
use Rattle.std.specs.Ordering.{nat_cmp}
use Rattle.std.specs.Cmp.{nat_cmp_total}
use Rattle.std.specs.FinMap as map
use Rattle.std.specs.FinMap.{nat_cmp-IsAntisymmetric}
use Rattle.std.proofs.lemmas.Result.{on_ok_weaker, on_err_weaker, IfOk-weaker}
use Rattle.ft_maps.specs.Seen.{seen, get-seen, seen-found, seen-kept}
use Rattle.ft_lanes.specs.Held.{number_limit}
use Rattle.ft_lanes.specs.inner.Slots.{no_slots, slots_with, slots_in}
use Rattle.ft_lanes.proofs.Counts.{slots-more}
use Rattle.ft_lanes.proofs.edits.push_in.Goals as goal

pub push-requires-clause-numbered : goal.push-requires-clause-numbered
push-requires-clause-numbered c =
    subst (λ o. (unwrap_or o no_slots).next ≤ number_limit) (get-seen nat_cmp_total c.args.lanes.now c.args.cpu ∙ sym c.in-Some.ensures.value) c.requires.numbered

pub returns-in-Some-clause-ok : goal.returns-in-Some-clause-ok
returns-in-Some-clause-ok c =
    let m = c.args.lanes.now in
    let at : map.get (seen nat_cmp m) c.args.cpu ≡ Some c.in-Some.slots.now = get-seen nat_cmp_total m c.args.cpu ∙ sym c.in-Some.ensures.value in
    on_ok_weaker c.push.result (λ e.
    seen-found nat_cmp_total nat_cmp-IsAntisymmetric m (c.get_mut.follows.lender c.push.new.self) c.args.cpu c.in-Some.slots.now c.push.new.self c.in-Some.ensures.value (c.get_mut.follows.holds c.push.new.self)
    ∙ ap (map.insert (seen nat_cmp m) c.args.cpu) (e ∙ ap (λ o. slots_with (unwrap_or o no_slots) c.args.place) (sym at))) c.push.ensures.ok

pub returns-in-Some-clause-line : goal.returns-in-Some-clause-line
returns-in-Some-clause-line c =
    let at : map.get (seen nat_cmp c.args.lanes.now) c.args.cpu ≡ Some c.in-Some.slots.now = get-seen nat_cmp_total c.args.lanes.now c.args.cpu ∙ sym c.in-Some.ensures.value in
    IfOk-weaker c.push.result (λ line. line ≡ c.in-Some.slots.now.next) _ (λ line is. is ∙ ap (λ o. (unwrap_or o no_slots).next) (sym at)) c.push.ensures.line

pub returns-in-Some-clause-err : goal.returns-in-Some-clause-err
returns-in-Some-clause-err c =
    on_err_weaker c.push.result (λ e.
    seen-kept nat_cmp_total nat_cmp-IsAntisymmetric c.args.lanes.now (c.get_mut.follows.lender c.push.new.self) c.args.cpu c.in-Some.slots.now c.push.new.self c.in-Some.ensures.value (c.get_mut.follows.holds c.push.new.self) e) c.push.ensures.err

pub returns-in_ok-put-in-None-clause-ok : goal.returns-in_ok-put-in-None-clause-ok
returns-in_ok-put-in-None-clause-ok c =
    let m = c.args.lanes.now in
    let at : map.get (seen nat_cmp m) c.args.cpu ≡ None = get-seen nat_cmp_total m c.args.cpu ∙ sym c.in-None.ensures.value in
    c.in_ok-put-in-None.ensures.ok
    ∙ ap (λ n. map.insert (seen nat_cmp n) c.args.cpu c.push-in-None.new.self) c.get_mut.follows.holds-at-none
    ∙ ap (map.insert (seen nat_cmp m) c.args.cpu) (c.in_ok-line-in-None.ensures.ok ∙ ap (λ s. slots_with s c.args.place) c.new-slots.ensures ∙ ap (λ o. slots_with (unwrap_or o no_slots) c.args.place) (sym at))

pub returns-in_ok-put-in-None-clause-line : goal.returns-in_ok-put-in-None-clause-line
returns-in_ok-put-in-None-clause-line c =
    let at : map.get (seen nat_cmp c.args.lanes.now) c.args.cpu ≡ None = get-seen nat_cmp_total c.args.lanes.now c.args.cpu ∙ sym c.in-None.ensures.value in
    c.in_ok-line-in-None.ensures.line ∙ ap (λ s. s.next) c.new-slots.ensures ∙ ap (λ o. (unwrap_or o no_slots).next) (sym at)

pub returns-in-Some-clause-count : goal.returns-in-Some-clause-count
returns-in-Some-clause-count c =
    let m = c.args.lanes.now in
    let at : map.get (seen nat_cmp m) c.args.cpu ≡ Some c.in-Some.slots.now = get-seen nat_cmp_total m c.args.cpu ∙ sym c.in-Some.ensures.value in
    on_ok_weaker c.push.result (λ e.
    ap slots_in (seen-found nat_cmp_total nat_cmp-IsAntisymmetric m (c.get_mut.follows.lender c.push.new.self) c.args.cpu c.in-Some.slots.now c.push.new.self c.in-Some.ensures.value (c.get_mut.follows.holds c.push.new.self))
    ∙ slots-more (seen nat_cmp m) c.args.cpu c.push.new.self (e ∙ ap (λ o. map.len (unwrap_or o no_slots).places + 1) (sym at))) c.push.ensures.grows

pub returns-in_ok-put-in-None-clause-count : goal.returns-in_ok-put-in-None-clause-count
returns-in_ok-put-in-None-clause-count c =
    let m = c.args.lanes.now in
    let at : map.get (seen nat_cmp m) c.args.cpu ≡ None = get-seen nat_cmp_total m c.args.cpu ∙ sym c.in-None.ensures.value in
    ap slots_in (c.in_ok-put-in-None.ensures.ok ∙ ap (λ n. map.insert (seen nat_cmp n) c.args.cpu c.push-in-None.new.self) c.get_mut.follows.holds-at-none)
    ∙ slots-more (seen nat_cmp m) c.args.cpu c.push-in-None.new.self (c.in_ok-line-in-None.ensures.grows ∙ ap (λ s. map.len s.places + 1) c.new-slots.ensures ∙ ap (λ o. map.len (unwrap_or o no_slots).places + 1) (sym at))
