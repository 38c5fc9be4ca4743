-- One event more, which is a hit or none.
use Rattle.std.proofs.Common.{◌++◌, ◌∷◌, [], take, sym, ap, subst, ◌∙◌, arith, refl}
use Rattle.std.proofs.lemmas.List.{map_more}
use Rattle.std.proofs.lemmas.Option.{none-some}
use Rattle.ft_fields.specs.Parts.{key_cmp}
use Rattle.ft_fields.specs.declared.pos.Pos.{Pos}
use Rattle.ft_maps.specs.Mapped.{entries_by}
use Rattle.ft_maps.specs.Seen.{seen}
use Rattle.ft_store.specs.Stored.{held}
use Rattle.ft_store.specs.declared.stored.Stored.{Stored}
use Rattle.ft_groups.specs.Grouped.{AreGrouped}
use Rattle.ft_groups.specs.inner.Recent.{noted}
use Rattle.ft_groups.specs.inner.Runs.{groups_of}
use Rattle.ft_groups.proofs.Indexing.{adds_grouped, all_unlike}
use Rattle.ft_groups.proofs.groups.grouped.Goals as goal

pub loop-event-init : goal.loop-event-init
loop-event-init c = record {
  by_key = c.in_ok-runs.ensures.by_key;
  met = λ number index inside. absurd (none-some index (sym (c.in_ok-met.ensures (noted number index) inside)));
  grouped = c.in_ok-runs.ensures.none c.of-finder.result.trigger.now;
  evals = omega arith;
  grow = omega arith;
  puts = refl;
}

pub loop-event-preserved : goal.loop-event-preserved
loop-event-preserved c =
    let hist = c.of-finder.result.trigger.now in
    let events = c.args.events.now in
    let index = c.loop-event.event-index in
    let before = entries_by held (take index events) in
    let item = c.event-item.result in
    let old = groups_of c.loop-event.runs in
    let runs = c.add_event.new.runs in
    let came = c.in_ok-add_event.ensures in
    let unlike = all_unlike runs.keys.items (seen key_cmp runs.indices) came.by_key.indexed in
    let more = map_more (λ (e : Pos × Stored). (e.0, held e.1)) events index item c.loop-event-test.true ∙ ap (λ (e : Pos × Stored). before ++ (e.0, held e.1) ∷ []) (sym c.event-item.is) in
    record {
      by_key = came.by_key;
      met = came.met;
      grouped = subst (λ es. AreGrouped hist es (groups_of runs)) (sym more) (adds_grouped hist before _ old (groups_of runs) came.adds unlike c.loop-event.invariant.grouped);
      evals = omega (arith, c.loop-event.invariant.evals, c.add_event.ensures.evals);
      grow = omega (arith, c.loop-event.invariant.grow, c.add_event.ensures.grow);
      puts = c.add_event.ensures.puts ∙ c.loop-event.invariant.puts;
    }
