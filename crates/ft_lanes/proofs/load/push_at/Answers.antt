-- CPUs are added up to the event's own, whose slots get one more.
use Rattle.std.proofs.Common.{◌≡◌, ◌+◌, ◌<◌, ◌≤◌, length, refl, sym, ap, ◌∙◌, subst, arith}
use Rattle.std.specs.FinMap as map
use Rattle.std.proofs.lemmas.List.{length_push}
use Rattle.ft_lanes.specs.Held.{number_limit}
use Rattle.ft_lanes.specs.inner.Slots.{cpu_limit, slots_with, slots_at}
use Rattle.ft_lanes.proofs.Merges.{at-push, at-read, at-set_same, at-set_other, length-at}
use Rattle.ft_lanes.proofs.load.push_at.Goals as goal

pub loop-alloc-init : goal.loop-alloc-init
loop-alloc-init c = (λ q. refl, c.requires.few)

pub loop-alloc-smaller : goal.loop-alloc-smaller
loop-alloc-smaller c =
    let more : length c.push.new.self.items ≡ length c.loop-alloc.by_cpu.items + 1 = ap length c.in_ok-push.ensures.items ∙ length_push c.loop-alloc.by_cpu.items c.new.result in
    omega (arith, more, c.loop-alloc-test.true, c.len.ensures)

pub loop-alloc-preserved : goal.loop-alloc-preserved
loop-alloc-preserved c =
    let more : length c.push.new.self.items ≡ length c.loop-alloc.by_cpu.items + 1 = ap length c.in_ok-push.ensures.items ∙ length_push c.loop-alloc.by_cpu.items c.new.result in (
      λ q. ap (λ l. slots_at l q) c.in_ok-push.ensures.items ∙ at-push c.loop-alloc.by_cpu.items c.new.result c.new.ensures q ∙ c.loop-alloc.invariant.0 q,
      omega (arith, more, c.loop-alloc-test.true, c.len.ensures, c.requires.narrow),
    )

pub push-requires-2-clause-numbered : goal.push-requires-2-clause-numbered
push-requires-2-clause-numbered c =
    let lt : c.args.cpu < length c.loop-alloc.by_cpu.items = omega (arith, c.loop-alloc-test.false, c.len.ensures) in
    let was = at-read c.loop-alloc.by_cpu.items c.args.cpu lt c.index_mut.result.now c.index_mut.ensures.value ∙ c.loop-alloc.invariant.0 c.args.cpu in
    subst (λ s. s.next ≤ number_limit) (sym was) c.requires.numbered

pub returns-clause-here : goal.returns-clause-here
returns-clause-here c =
    let lt : c.args.cpu < length c.loop-alloc.by_cpu.items = omega (arith, c.loop-alloc-test.false, c.len.ensures) in
    let was = at-read c.loop-alloc.by_cpu.items c.args.cpu lt c.index_mut.result.now c.index_mut.ensures.value ∙ c.loop-alloc.invariant.0 c.args.cpu in
    at-set_same c.loop-alloc.by_cpu.items c.args.cpu lt c.push-2.new.self ∙ c.in_ok-push-2.ensures.ok ∙ ap (λ s. slots_with s c.args.place) was

pub returns-clause-grows : goal.returns-clause-grows
returns-clause-grows c =
    let lt : c.args.cpu < length c.loop-alloc.by_cpu.items = omega (arith, c.loop-alloc-test.false, c.len.ensures) in
    let was = at-read c.loop-alloc.by_cpu.items c.args.cpu lt c.index_mut.result.now c.index_mut.ensures.value ∙ c.loop-alloc.invariant.0 c.args.cpu in
    ap (λ s. map.len s.places) (at-set_same c.loop-alloc.by_cpu.items c.args.cpu lt c.push-2.new.self)
    ∙ c.in_ok-push-2.ensures.grows ∙ ap (λ s. map.len s.places + 1) was

pub returns-clause-others : goal.returns-clause-others
returns-clause-others c q ne = at-set_other c.loop-alloc.by_cpu.items c.args.cpu c.push-2.new.self q ne ∙ c.loop-alloc.invariant.0 q

pub returns-clause-few : goal.returns-clause-few
returns-clause-few c = subst (λ n. n ≤ cpu_limit) (sym (length-at c.loop-alloc.by_cpu.items c.args.cpu c.push-2.new.self)) c.loop-alloc.invariant.1
