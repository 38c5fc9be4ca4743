-- Each key's reads are put, and then the hits of those that find something; no key comes twice.
use Rattle.std.proofs.Common.{◌≡◌, ◌+◌, List, sym, ap, subst, ◌∙◌, arith, refl, cond, Option, Some, None}
use Rattle.std.specs.List.{list_any}
use Rattle.std.specs.FinMap as map
use Rattle.ft_fields.specs.Orders.{key_cmp_total}
use Rattle.ft_fields.specs.Ties.{key_same}
use Rattle.ft_groups.specs.Grouped.{run_of}
use Rattle.ft_pairs.specs.ByKey.{ops_of}
use Rattle.ft_pairs.specs.Edits.{same_at}
use Rattle.ft_pairs.specs.Runs.{FindEach, with_reads}
use Rattle.ft_pairs.specs.declared.at.At.{At}
use Rattle.ft_pairs.specs.declared.at.Op.TheVariants.{Read}
use Rattle.ft_table.specs.Spots.{spot_cmp}
use Rattle.ft_shelves.specs.Joining.{acts_with, hit_in, read_from}
use Rattle.ft_shelves.specs.inner.Joining.{AreReadAt, reads_of_run}
use Rattle.ft_shelves.proofs.Counted.{tests_none}
use Rattle.ft_shelves.proofs.Decided.{itself, untied}
use Rattle.ft_shelves.proofs.Findable.{are_read, finds_in, sources_in}
use Rattle.ft_shelves.proofs.KeyByKey.{no_run, put_all, put_free, put_more, put_none}
use Rattle.ft_shelves.proofs.Listed.{AreGathered, any_read, gathered_all, gathered_more, gathered_none, hit_listed, hits_none}
use Rattle.ft_shelves.proofs.joining.read_groups.Goals as goal

pub loop-key-init : goal.loop-key-init
loop-key-init c =
    let id = c.args.joining.now.id in
    let hist = c.args.joining.now.trigger.now in
    let groups = c.args.joining.now.groups.now in
    let was = c.args.pairs.now in
    let keys = c.keys-key-items.result.now in
    let are = c.keys-key-items.ensures in
    let read = read_from (sources_in id groups was) in
    record {
      ops = put_none hist groups c.requires.grouped keys are (ops_of was) (λ key. with_reads (reads_of_run id (run_of groups key)) (ops_of was key))
          (λ key at none. sym (ap (λ run. with_reads (reads_of_run id run) (ops_of was key) at) (no_run hist groups c.requires.grouped keys are key none)));
      hits = hits_none hist groups c.requires.grouped keys are read c.args.table.now.hits c.requires.empty;
      gathered = λ of. subst (AreGathered (acts_with hist of.events) read keys 0) (sym c.new-readings.ensures.items) (gathered_none hist groups of keys are read);
      size = refl;
      work = tests_none c.args.work.now;
    }

pub put_key-requires : goal.put_key-requires
put_key-requires c =
    let id = c.args.joining.now.id in
    let groups = c.args.joining.now.groups.now in
    put_free _ groups c.requires.grouped c.keys-key-items.result.now c.keys-key-items.ensures (λ key spot. None) (hit_in c.args.joining.now.trigger.now groups (read_from (sources_in id groups c.args.pairs.now)))
    c.loop-key.key-index c.key-item.result c.loop-key-test.true c.key-item.is _ c.loop-key.invariant.hits

pub loop-key-preserved : goal.loop-key-preserved
loop-key-preserved c =
    let id = c.args.joining.now.id in
    let hist = c.args.joining.now.trigger.now in
    let groups = c.args.joining.now.groups.now in
    let was = c.args.pairs.now in
    let mid = c.loop-key.pairs in
    let is = c.put_reads.new.self in
    let keys = c.keys-key-items.result.now in
    let are = c.keys-key-items.ensures in
    let n = c.loop-key.key-index in
    let key = c.key-item.result in
    let inv = c.loop-key.invariant in
    let takes = c.in_ok-put_key.ensures.ok in
    let read = read_from (sources_in id groups was) in
    let all = reads_of_run id (run_of groups key) in
    let some : List (Option At) = c.in_ok-found.found.items in
    let reads : c.deref.result.now ≡ all = c.deref.ensures.value ∙ c.in_ok-reads.ensures in
    let here : (at : At) → ops_of is key at ≡ with_reads all (ops_of was key) at =
    λ at.
    c.in_ok-found.ensures.ok key at
    ∙ ap (λ b. cond b (with_reads c.deref.result.now (ops_of mid key) at) (ops_of mid key at)) (itself key_cmp_total key)
    ∙ (λ i. cond (list_any (same_at at) (reads i)) (Some Read)
    (put_free hist groups c.requires.grouped keys are (ops_of was) (λ k. with_reads (reads_of_run id (run_of groups k)) (ops_of was k)) n key c.loop-key-test.true c.key-item.is (ops_of mid) inv.ops at i)) in
    let finds : FindEach (ops_of is key) all some = subst (λ (rs : List At). FindEach (ops_of is key) rs some) reads c.in_ok-found.ensures.found in
    let found : AreReadAt (Some c.deref-in-loop-key.result.now) (read key) (run_of groups key) =
    subst (λ (fs : List (Option At)). AreReadAt (Some fs) (read key) (run_of groups key)) (sym c.deref-in-loop-key.ensures.value) (are_read id groups was is key here some finds) in
    record {
      ops = put_more hist groups c.requires.grouped keys are (ops_of was) (λ k. with_reads (reads_of_run id (run_of groups k)) (ops_of was k)) n key c.loop-key-test.true c.key-item.is (ops_of mid) inv.ops (ops_of is) here
          (λ k at apart.
          c.in_ok-found.ensures.ok k at
          ∙ ap (λ b. cond b (with_reads c.deref.result.now (ops_of mid k) at) (ops_of mid k at)) (untied key_cmp_total key_same k key apart));
      hits = put_more hist groups c.requires.grouped keys are (λ k spot. None) (hit_in hist groups read) n key c.loop-key-test.true c.key-item.is _ inv.hits (λ k spot. map.get c.put_key.new.self.hits (record { spot = spot; key = k }))
          (λ spot.
          takes.here spot
          ∙ ap (λ run. map.get (map.from_entries {R = spot_cmp} run) spot) (c.in_ok-run.ensures.hits (read key) found)
          ∙ hit_listed hist groups c.requires.grouped read key spot)
          (λ k spot apart. takes.others (record { spot = spot; key = k }) apart);
      gathered = λ of. subst (AreGathered (acts_with hist of.events) read keys (n + 1)) (sym (c.in_ok-run.ensures.readings (read key) found))
          (gathered_more hist groups of keys are read n key c.loop-key-test.true c.key-item.is c.loop-key.readings.items (inv.gathered of));
      size = takes.size ∙ inv.size;
      work = record {
        evals = c.put_key.ensures.evals ∙ c.put_reads.ensures.evals ∙ inv.work.evals;
        puts = omega (arith, inv.work.puts, c.put_reads.ensures.puts, c.put_key.ensures.puts);
      };
    }

pub returns-clause-ok : goal.returns-clause-ok
returns-clause-ok c =
    let id = c.args.joining.now.id in
    let hist = c.args.joining.now.trigger.now in
    let groups = c.args.joining.now.groups.now in
    let was = c.args.pairs.now in
    let is = c.loop-key.pairs in
    let keys = c.keys-key-items.result.now in
    let are = c.keys-key-items.ensures in
    let n = c.loop-key.key-index in
    let all = c.loop-key-test.false in
    let read = read_from (sources_in id groups was) in
    let put = put_all hist groups c.requires.grouped keys are (ops_of was) (λ key. with_reads (reads_of_run id (run_of groups key)) (ops_of was key)) n all (ops_of is) c.loop-key.invariant.ops in
    record {
      sources = sources_in id groups was;
      finds = λ key pos. finds_in id groups was is key (put key) (record { pos = pos; trigger = id });
      reads = λ key at. put key at ∙ ap (λ b. cond b (Some Read) (ops_of was key at)) (any_read id at (run_of groups key));
      table = record {
        size = c.loop-key.invariant.size;
        hits = λ m. put_all hist groups c.requires.grouped keys are (λ key spot. None) (hit_in hist groups read) n all _ c.loop-key.invariant.hits m.key m.spot;
      };
      listed = λ of. gathered_all (acts_with hist of.events) read keys n all c.loop-key.readings.items (c.loop-key.invariant.gathered of);
    }
