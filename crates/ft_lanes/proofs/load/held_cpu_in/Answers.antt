-- What is left of the list has the same first event, and each event that was passed has a CPU.
use Rattle.std.proofs.Common.{◌≡◌, ℕ, ◌+◌, ◌<◌, ◌≤◌, Bool, true, false, cond, List, drop, length, sym, ap, ◌∙◌, subst, Some, is_some, arith}
use Rattle.std.specs.Ordering.{nat_cmp}
use Rattle.std.specs.Cmp.{nat_cmp_total}
use Rattle.std.specs.BTreeMap as tree
use Rattle.std.specs.BTreeMap.{BTreeMap}
use Rattle.std.specs.FinMap as map
use Rattle.ft_fields.specs.Traced.{Traced, last_cpu}
use Rattle.ft_maps.specs.Seen.{seen, get-seen}
use Rattle.ft_store.specs.Stored.{stored_at, blank}
use Rattle.ft_lanes.specs.Held.{HasCpu}
use Rattle.ft_lanes.specs.inner.Slots.{SlotsOf, first_cpu}
use Rattle.ft_lanes.proofs.Each.{all-from_each, each-more}
use Rattle.ft_lanes.proofs.Loads.{first_cpu-at, first_cpu-end}
use Rattle.ft_lanes.proofs.load.held_cpu_in.Goals as goal

-- the list from this event on
step : (m : BTreeMap ℕ SlotsOf) (es : List Traced) (i : ℕ) (cpu : ℕ) (held : Bool) → i < length es → cpu ≡ (stored_at es i).cpu → held ≡ is_some (tree.get nat_cmp m cpu) → first_cpu (map.contains_key (seen nat_cmp m)) (drop i es) ≡ cond held (Some cpu) (first_cpu (map.contains_key (seen nat_cmp m)) (drop (i + 1) es))
step m es i cpu held lt is found =
    let has = map.contains_key (seen nat_cmp m) in
    first_cpu-at has es i blank lt
    ∙ ap (λ k. cond (has k) (Some k) (first_cpu has (drop (i + 1) es))) (sym is)
    ∙ ap (λ b. cond b (Some cpu) (first_cpu has (drop (i + 1) es))) (ap is_some (get-seen nat_cmp_total m cpu) ∙ sym found)

pub returns-then-contains_key-clause-value : goal.returns-then-contains_key-clause-value
returns-then-contains_key-clause-value c =
    let lt : c.loop-place.place < length c.args.events.now = omega (arith, c.loop-place-test.true, c.len-place-end.ensures) in
    sym (c.loop-place.invariant.0 ∙ step c.args.lanes.now c.args.events.now c.loop-place.place c.cpu-cpu.result true lt c.cpu-cpu.ensures.value c.if-contains_key.ensures)

pub loop-place-preserved : goal.loop-place-preserved
loop-place-preserved c =
    let es = c.args.events.now in
    let i = c.loop-place.place in
    let lt : i < length es = omega (arith, c.loop-place-test.true, c.len-place-end.ensures) in (
      c.loop-place.invariant.0 ∙ step c.args.lanes.now es i c.cpu-cpu.result false lt c.cpu-cpu.ensures.value c.if-contains_key.ensures,
      each-more HasCpu es i blank lt (subst (λ n. n ≤ last_cpu) c.cpu-cpu.ensures.value c.cpu-cpu.ensures.fits) c.loop-place.invariant.1,
    )

pub returns-clause-value : goal.returns-clause-value
returns-clause-value c =
    sym (c.loop-place.invariant.0 ∙ first_cpu-end (map.contains_key (seen nat_cmp c.args.lanes.now)) c.args.events.now c.loop-place.place (omega (arith, c.loop-place-test.false, c.len-place-end.ensures)))

pub returns-clause-cpus : goal.returns-clause-cpus
returns-clause-cpus c _ = all-from_each HasCpu c.args.events.now (λ k d lt. c.loop-place.invariant.1 k d (omega (arith, c.loop-place-test.false, c.len-place-end.ensures)))
