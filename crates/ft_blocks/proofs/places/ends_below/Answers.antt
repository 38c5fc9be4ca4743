use Rattle.std.proofs.Common.{rules, ◌≡◌, ◌-◌, length, sym, arith}
use Rattle.std.specs.declared.cmp.Ordering.TheVariants.{Less}
use Rattle.std.specs.Prelude.{◌≢◌}
use Rattle.ft_blocks.proofs.Cuts.{is_less, not_less}
use Rattle.ft_blocks.proofs.Appends.{reached_at}
use Rattle.ft_blocks.proofs.Joined.{below_whole}
use Rattle.ft_blocks.proofs.places.ends_below.Goals as goal

pub returns-clause-below : goal.returns-clause-below
returns-clause-below g c h =
    let e = c.index-block-block.result in
    let k = c.args.key.now in
    let es = c.args.block.now in
    let less : g.K.Ord.cmp e.0 k ≡ Less = is_less _ (search rules) in
    below_whole g.met.K.Ord.total es k e c.requires.ascend c.requires.filled (sym c.index-block-block.is) less

pub returns-clause-reaches : goal.returns-clause-reaches
returns-clause-reaches g c h =
    let e = c.index-block-block.result in
    let k = c.args.key.now in
    let es = c.args.block.now in
    let n : g.K.Ord.cmp e.0 k ≢ Less = not_less _ (search rules) in
    let filled = c.requires.filled in
    reached_at g.K.Ord.cmp k es (length es - 1) e (omega arith) (sym c.index-block-block.is) n
