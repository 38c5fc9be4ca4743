use Rattle.std.proofs.Common.{rules, ◌≡◌, ◌+◌, ◌-◌, ◌/◌, ◌<◌, ℕ, suc, take, length, sym, subst, arith}
use Rattle.ft_blocks.specs.Sorted.{AllBelow, Ascend}
use Rattle.ft_blocks.specs.Blocks.{joined}
use Rattle.ft_blocks.proofs.Joined.{ascend_at, filled_at, below_block}
use Rattle.ft_blocks.proofs.places.block_of.Goals as goal

pub ends_below-requires-clause-ascend : goal.ends_below-requires-clause-ascend
ends_below-requires-clause-ascend g c =
    let mid : ℕ = c.loop-low.low + (c.loop-low.high - c.loop-low.low) / 2 in
    let within = c.loop-low.invariant.within in
    let test = c.loop-low-test.true in
    let lt : mid < length c.args.blocks.now = omega (arith, within, test) in
    subst (λ es. Ascend g.K.Ord.cmp es) (sym c.deref.ensures.value) (ascend_at g.K.Ord.cmp c.args.blocks.now mid c.index-blocks-mid.result c.requires.ascend lt (sym c.index-blocks-mid.is))

pub ends_below-requires-clause-filled : goal.ends_below-requires-clause-filled
ends_below-requires-clause-filled g c =
    let mid : ℕ = c.loop-low.low + (c.loop-low.high - c.loop-low.low) / 2 in
    let within = c.loop-low.invariant.within in
    let test = c.loop-low-test.true in
    let lt : mid < length c.args.blocks.now = omega (arith, within, test) in
    rw c.deref.ensures.value (filled_at c.args.blocks.now mid c.index-blocks-mid.result c.requires.filled lt (sym c.index-blocks-mid.is))

pub loop-low-preserved-then-ends_below : goal.loop-low-preserved-then-ends_below
loop-low-preserved-then-ends_below g c =
    let R = g.K.Ord.cmp in
    let bs = c.args.blocks.now in
    let b = c.index-blocks-mid.result in
    let k = c.args.key.now in
    let inv = c.loop-low.invariant in
    let mid : ℕ = c.loop-low.low + (c.loop-low.high - c.loop-low.low) / 2 in
    let within = inv.within in
    let test = c.loop-low-test.true in
    let lt : mid < length bs = omega (arith, within, test) in
    let next : suc mid ≡ mid + 1 = omega arith in
    let all : AllBelow R k b.items = rw c.deref.ensures.value at (c.if-ends_below.ensures.below (search rules)) in
    record {
      order = omega (arith, test);
      within = inv.within;
      below = subst (λ n. AllBelow R k (joined (take n bs))) next (below_block g.met.K.Ord.total bs k mid b c.requires.ascend c.requires.filled lt (sym c.index-blocks-mid.is) all);
      reaches = inv.reaches;
    }
