use Rattle.std.proofs.Common.{rules, ◌≡◌, ◌+◌, ◌-◌, ◌/◌, ◌<◌, ℕ, suc, take, length, sym, subst, arith}
use Rattle.std.specs.Prelude.{slice_get, Some}
use Rattle.std.proofs.lemmas.Option.{get_or_from_slice_get, slice_get_within}
use Rattle.std.specs.declared.cmp.Ordering.TheVariants.{Less}
use Rattle.ft_blocks.specs.Sorted.{AllBelow}
use Rattle.ft_blocks.proofs.Cuts.{is_less, below_through, starts_behind}
use Rattle.ft_blocks.proofs.block.cut_of.Goals as goal

pub returns-then-is_lt : goal.returns-then-is_lt
returns-then-is_lt g c =
    let R = g.K.Ord.cmp in
    let es = c.args.block.now in
    let e = c.in-Some.last.now in
    let k = c.args.key.now in
    let less : R e.0 k ≡ Less = is_less _ (search rules) in
    let at : slice_get es (length es - 1) ≡ Some e = sym c.in-Some.ensures.value in
    let lt : length es - 1 < length es = slice_get_within es (length es - 1) e at in
    let whole : suc (length es - 1) ≡ length es = omega (arith, lt) in
    record {
      within = omega arith;
      below = subst (λ n. AllBelow R k (take n es)) whole (below_through g.met.K.Ord.total es k (length es - 1) e c.requires lt (get_or_from_slice_get es (length es - 1) e e at) less);
      others = starts_behind R es k;
    }

pub loop-low-preserved-then-is_lt-2 : goal.loop-low-preserved-then-is_lt-2
loop-low-preserved-then-is_lt-2 g c =
    let R = g.K.Ord.cmp in
    let es = c.args.block.now in
    let e = c.index-block-mid.result in
    let k = c.args.key.now in
    let less : R e.0 k ≡ Less = is_less _ (search rules) in
    let inv = c.loop-low.invariant in
    let mid : ℕ = c.loop-low.low + (c.loop-low.high - c.loop-low.low) / 2 in
    let lt : mid < length es = search rules in
    let next : suc mid ≡ mid + 1 = omega arith in
    record {
      order = omega (arith, c.loop-low-test.true);
      within = inv.within;
      below = subst (λ n. AllBelow R k (take n es)) next (below_through g.met.K.Ord.total es k mid e c.requires lt (sym c.index-block-mid.is) less);
      others = inv.others;
    }
