-- Each key's hits are put, and no key comes twice.
use Rattle.std.proofs.Common.{ap, ◌∙◌, arith, refl, None}
use Rattle.std.specs.FinMap as map
use Rattle.ft_table.specs.Spots.{spot_cmp}
use Rattle.ft_shelves.specs.Joining.{hit_in, unread}
use Rattle.ft_shelves.proofs.Counted.{tests_none}
use Rattle.ft_shelves.proofs.KeyByKey.{put_all, put_free, put_more}
use Rattle.ft_shelves.proofs.Listed.{hit_listed, hits_none}
use Rattle.ft_shelves.proofs.joining.put_groups.Goals as goal

pub loop-key-init : goal.loop-key-init
loop-key-init c = record {
  put = hits_none c.args.joining.now.trigger.now c.args.joining.now.groups.now c.requires.grouped c.keys-key-items.result.now c.keys-key-items.ensures unread c.args.table.now.hits c.requires.empty;
  size = refl;
  work = tests_none c.args.work.now;
}

pub put_key-requires : goal.put_key-requires
put_key-requires c = put_free _ _ c.requires.grouped c.keys-key-items.result.now c.keys-key-items.ensures (λ key spot. None) (hit_in c.args.joining.now.trigger.now c.args.joining.now.groups.now unread)
    c.loop-key.key-index c.key-item.result c.loop-key-test.true c.key-item.is _ c.loop-key.invariant.put

pub loop-key-preserved : goal.loop-key-preserved
loop-key-preserved c =
    let hist = c.args.joining.now.trigger.now in
    let groups = c.args.joining.now.groups.now in
    let key = c.key-item.result in
    let takes = c.in_ok-put_key.ensures.ok in
    record {
      put = put_more hist groups c.requires.grouped c.keys-key-items.result.now c.keys-key-items.ensures (λ k spot. None) (hit_in hist groups unread)
          c.loop-key.key-index key c.loop-key-test.true c.key-item.is _ c.loop-key.invariant.put (λ k spot. map.get c.put_key.new.self.hits (record { spot = spot; key = k }))
          (λ spot. takes.here spot ∙ ap (λ run. map.get (map.from_entries {R = spot_cmp} run) spot) (c.in_ok-run.ensures.hits (unread key) (λ i d within. refl)) ∙ hit_listed hist groups c.requires.grouped unread key spot)
          (λ k spot apart. takes.others (record { spot = spot; key = k }) apart);
      size = takes.size ∙ c.loop-key.invariant.size;
      work = record { evals = c.put_key.ensures.evals ∙ c.loop-key.invariant.work.evals; puts = omega (arith, c.loop-key.invariant.work.puts, c.put_key.ensures.puts) };
    }

pub returns-clause-ok : goal.returns-clause-ok
returns-clause-ok c = record {
  size = c.loop-key.invariant.size;
  hits = λ m. put_all _ _ c.requires.grouped c.keys-key-items.result.now c.keys-key-items.ensures (λ key spot. None) (hit_in c.args.joining.now.trigger.now c.args.joining.now.groups.now unread)
      c.loop-key.key-index c.loop-key-test.false _ c.loop-key.invariant.put m.key m.spot;
}
