-- Lane by lane, the same lanes come again.
use Rattle.std.proofs.Common.{◌≡◌, ℕ, [], ◌∷◌, ◌++◌, sym, ap, ◌∙◌, subst}
use Rattle.std.specs.Ordering.{nat_cmp}
use Rattle.std.specs.Map.{values_of}
use Rattle.std.specs.FinMap as map
use Rattle.std.proofs.lemmas.Map.Iter.{rest_more, rest_all}
use Rattle.ft_maps.specs.Seen.{seen, seen-empty}
use Rattle.ft_lanes.specs.Held.{Lane, held_in}
use Rattle.ft_store.specs.Stored.{stored_at}
use Rattle.ft_lanes.specs.Walks.{itself}
use Rattle.ft_lanes.proofs.Counts.{held-slots}
use Rattle.ft_lanes.proofs.Copies.{Copying, copying-start, copying-step, copied-stored}
use Rattle.ft_lanes.proofs.lanes.Lanes.rebuilt.Goals as goal

pub loop-cpu-init : goal.loop-cpu-init
loop-cpu-init c =
    let all = c.args.self.now in
    let left = c.into_iter-cpu-iterator.ensures.into_iter_gives ∙ c.lanes-cpu-items.ensures.rest in
    subst (λ store. Copying all store (seen nat_cmp c.new-slots.result) c.into_iter-cpu-iterator.result) (sym c.new-store.ensures)
    (subst (λ slots. Copying all [] slots c.into_iter-cpu-iterator.result) (sym (seen-empty nat_cmp c.new-slots.result c.new-slots.ensures.empty))
    (subst (Copying all [] map.empty) (sym left) (copying-start all)))

pub loop-cpu-preserved : goal.loop-cpu-preserved
loop-cpu-preserved c =
    let all = c.args.self.now in
    let store = c.loop-cpu.store in
    let slots = seen nat_cmp c.loop-cpu.slots in
    let e : ℕ × Lane = (c.in-Some.cpu, c.in-Some.lane) in
    let left : c.loop-cpu.cpu-iterator ≡ e ∷ c.next.new.self = rest_more (itself {X = ℕ × Lane}) _ _ _ e c.in-Some.is c.next.ensures.steps in
    subst (λ s. Copying all s (seen nat_cmp c.copy_lane.new.lanes) c.next.new.self) (sym c.in_ok-copy_lane.ensures.store)
    (subst (λ m. Copying all (store ++ values_of (map.entries e.1.events)) m c.next.new.self) (sym c.in_ok-copy_lane.ensures.lanes)
    (copying-step all store slots e c.next.new.self (subst (Copying all store slots) left c.loop-cpu.invariant)))

pub invariant_of-result : goal.invariant_of-result
invariant_of-result c =
    let left : c.loop-cpu.cpu-iterator ≡ [] = rest_all (itself {X = ℕ × Lane}) _ _ _ c.in-None.is c.next.ensures.steps in
    let end = subst (Copying c.args.self.now c.loop-cpu.store (seen nat_cmp c.loop-cpu.slots)) left c.loop-cpu.invariant in
    copied-stored c.args.self.now c.loop-cpu.store (seen nat_cmp c.loop-cpu.slots) c.self.inside.held end
    (c.self.invariant.counted ∙ sym (held-slots (stored_at c.self.inside.store) (seen nat_cmp c.self.inside.lanes)) ∙ ap held_in c.self.view_is)

pub returns : goal.returns
returns c =
    let left : c.loop-cpu.cpu-iterator ≡ [] = rest_all (itself {X = ℕ × Lane}) _ _ _ c.in-None.is c.next.ensures.steps in
    (subst (Copying c.args.self.now c.loop-cpu.store (seen nat_cmp c.loop-cpu.slots)) left c.loop-cpu.invariant).leads
