use Rattle.std.proofs.Common.{◌∙◌}
use Rattle.ft_changes.proofs.KeyLists.{key_moves}
use Rattle.ft_changes.proofs.sorted_keys.SortedKeys.of.Goals as goal

pub loop-key-preserved : goal.loop-key-preserved
loop-key-preserved c q =
    key_moves c.loop-key.sorted c.insert.new.self c.args.keys.now c.loop-key.key-index c.key-item.result c.loop-key-test.true c.key-item.is q (c.in_ok-insert.ensures.added q)
    ∙ c.loop-key.invariant q
