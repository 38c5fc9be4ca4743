-- One more event has its slot, and in the end the slots of each CPU are put in.
use Rattle.std.proofs.Common.{◌≡◌, ◌+◌, ◌<◌, ◌≤◌, sym, ap, ◌∙◌, subst, drop, get_or, length, arith}
use Rattle.std.specs.FinMap as map
use Rattle.std.specs.Ordering.{nat_cmp}
use Rattle.std.proofs.lemmas.List.{get_or-drop, length-drop}
use Rattle.std.proofs.lemmas.Result.{on_ok_weaker, on_err_weaker}
use Rattle.ft_fields.specs.Traced.{Traced}
use Rattle.ft_maps.specs.Seen.{seen}
use Rattle.ft_store.specs.Stored.{blank}
use Rattle.ft_lanes.specs.Held.{number_limit}
use Rattle.ft_lanes.specs.inner.Slots.{slots_in, slots_at, slots_with, all_merged}
use Rattle.ft_lanes.proofs.Loads.{room-from, pushed-end}
use Rattle.ft_lanes.proofs.Merges.{Filled, filled-start, filled-room, filled-step}
use Rattle.ft_lanes.proofs.load.push_all.Goals as goal

pub loop-i-init : goal.loop-i-init
loop-i-init c =
    let first = c.args.first in
    let old = seen nat_cmp c.args.lanes.now in
    let es = drop first c.args.store.now in
    let items = c.new-by_cpu.result.items in
    let place : first ≡ first + 0 = omega arith in
    subst (λ p. Filled old first es items p 0) place (filled-start old first es items c.new-by_cpu.ensures.items (room-from old es c.requires.apart c.requires.few))

pub push_at-requires-clause-few : goal.push_at-requires-clause-few
push_at-requires-clause-few c = c.loop-i.invariant.few

pub push_at-requires-clause-numbered : goal.push_at-requires-clause-numbered
push_at-requires-clause-numbered c =
    let first = c.args.first in
    let es = drop first c.args.store.now in
    let i = c.loop-i.i in
    let lt : i < length es = omega (arith, c.loop-i-test.true, c.saturating_sub-i-end.ensures, c.len.ensures, length-drop first c.args.store.now) in
    let cpu : c.cpu.result ≡ (get_or es i blank).cpu = c.cpu.ensures.value ∙ ap (λ (e : Traced). e.cpu) (sym (get_or-drop first c.args.store.now i blank)) in
    subst (λ k. (slots_at c.loop-i.by_cpu.items k).next ≤ number_limit) (sym cpu)
    (filled-room (seen nat_cmp c.args.lanes.now) first es c.requires.apart c.loop-i.by_cpu.items (first + i) i c.loop-i.invariant blank lt)

pub loop-i-preserved : goal.loop-i-preserved
loop-i-preserved c =
    let first = c.args.first in
    let es = drop first c.args.store.now in
    let i = c.loop-i.i in
    let old = seen nat_cmp c.args.lanes.now in
    let was = c.loop-i.by_cpu.items in
    let new = c.push_at.new.by_cpu.items in
    let done = c.in_ok-push_at.ensures in
    let lt : i < length es = omega (arith, c.loop-i-test.true, c.saturating_sub-i-end.ensures, c.len.ensures, length-drop first c.args.store.now) in
    let cpu : c.cpu.result ≡ (get_or es i blank).cpu = c.cpu.ensures.value ∙ ap (λ (e : Traced). e.cpu) (sym (get_or-drop first c.args.store.now i blank)) in
    let place : first + i + 1 ≡ first + (i + 1) = omega arith in
    subst (λ p. Filled old first es new p (i + 1)) place
    (filled-step old first es c.requires.apart was (first + i) i c.loop-i.invariant blank lt new
    (subst (λ k. slots_at new k ≡ slots_with (slots_at was k) (first + i)) cpu done.here)
    (λ q ne. done.others q (λ s. ne (s ∙ cpu)))
    (subst (λ k. map.len (slots_at new k).places ≡ map.len (slots_at was k).places + 1) cpu done.grows)
    done.few)

pub put_all-requires : goal.put_all-requires
put_all-requires c = record { few = c.loop-i.invariant.few }

pub returns-clause-ok : goal.returns-clause-ok
returns-clause-ok c =
    let first = c.args.first in
    let old = seen nat_cmp c.args.lanes.now in
    let es = drop first c.args.store.now in
    let i = c.loop-i.i in
    let le : length es ≤ i = omega (arith, c.loop-i-test.false, c.saturating_sub-i-end.ensures, c.len.ensures, length-drop first c.args.store.now) in
    on_ok_weaker c.put_all.result (λ e. e ∙ pushed-end old first es (all_merged old 0 c.loop-i.by_cpu.items) (first + i) i c.loop-i.invariant.pushed le) c.put_all.ensures.ok

pub returns-clause-count : goal.returns-clause-count
returns-clause-count c =
    let first = c.args.first in
    let old = seen nat_cmp c.args.lanes.now in
    let es = drop first c.args.store.now in
    let i = c.loop-i.i in
    let at : i ≡ length es = omega (arith, c.loop-i.auto.i-end, c.loop-i-test.false, c.saturating_sub-i-end.ensures, c.len.ensures, length-drop first c.args.store.now) in
    on_ok_weaker c.put_all.result (λ e. ap slots_in e ∙ c.loop-i.invariant.pushed.counted ∙ ap (λ n. slots_in old + n) at) c.put_all.ensures.ok

pub returns-clause-err : goal.returns-clause-err
returns-clause-err c = on_err_weaker c.put_all.result (λ h q away. h q (c.loop-i.invariant.pushed.beside q away)) c.put_all.ensures.err
