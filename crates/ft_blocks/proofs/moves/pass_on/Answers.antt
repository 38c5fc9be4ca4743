use Rattle.std.proofs.Common.{◌≡◌, ◌<◌, ◌+◌, suc, sym, subst, ap, ◌∙◌, arith, length, Some}
use Rattle.std.specs.Prelude.{slice_set, vec_len}
use Rattle.std.specs.List.{remove}
use Rattle.ft_blocks.specs.Sorted.{AllBelow, Ascend, first_entry}
use Rattle.ft_blocks.specs.inner.Moves.{StandsAt, all_but, all_before, all_behind}
use Rattle.ft_blocks.proofs.Edited.{filled_block}
use Rattle.ft_blocks.proofs.Shifts.{some_behind, stands_in, length_set, many, step_stands, step_others, step_before}
use Rattle.ft_blocks.proofs.moves.pass_on.Goals as goal

pub index_mut-requires : goal.index_mut-requires
index_mut-requires g c =
    let bs = c.loop-next.blocks in
    let at = c.loop-next.at in
    let first : first_entry (all_behind bs.items c.args.last.now at) ≡ Some c.in-Some.next =
    ap (λ l. first_entry (all_behind l c.args.last.now at)) (sym c.deref.ensures.value) ∙ c.in-Some.ensures.first
    in
    omega (arith, some_behind bs.items c.args.last.now at c.in-Some.next first, bs.ok.0)

pub trade_for_last-requires : goal.trade_for_last-requires
trade_for_last-requires g c =
    let bs = c.loop-next.blocks in
    let at = c.loop-next.at in
    let b = c.index_mut.result.now in
    let first : first_entry (all_behind bs.items c.args.last.now at) ≡ Some c.in-Some.next =
    ap (λ l. first_entry (all_behind l c.args.last.now at)) (sym c.deref.ensures.value) ∙ c.in-Some.ensures.first
    in
    let lt = some_behind bs.items c.args.last.now at c.in-Some.next first in
    let inside : c.loop-next.from < length b.items = stands_in bs.items c.args.last.now at c.loop-next.from b lt (sym c.index_mut.ensures.value) c.loop-next.invariant.stands in
    omega (arith, inside, b.ok.0)

pub overflow_add-at : goal.overflow_add-at
overflow_add-at g c =
    let bs = c.loop-next.blocks in
    let at = c.loop-next.at in
    let first : first_entry (all_behind bs.items c.args.last.now at) ≡ Some c.in-Some.next =
    ap (λ l. first_entry (all_behind l c.args.last.now at)) (sym c.deref.ensures.value) ∙ c.in-Some.ensures.first
    in
    let lt : at < length bs.items = some_behind bs.items c.args.last.now at c.in-Some.next first in
    let inside : at < vec_len bs = omega (arith, lt, bs.ok.0) in
    grind (arith, inside, bs.small)

pub loop-next-smaller : goal.loop-next-smaller
loop-next-smaller g c =
    let bs = c.loop-next.blocks in
    let at = c.loop-next.at in
    let first : first_entry (all_behind bs.items c.args.last.now at) ≡ Some c.in-Some.next =
    ap (λ l. first_entry (all_behind l c.args.last.now at)) (sym c.deref.ensures.value) ∙ c.in-Some.ensures.first
    in
    let lt : at < length bs.items = some_behind bs.items c.args.last.now at c.in-Some.next first in
    let same : length (slice_set bs.items at c.trade_for_last.new.block) ≡ length bs.items = length_set bs.items at c.trade_for_last.new.block in
    omega (arith, lt, same)

pub loop-next-preserved : goal.loop-next-preserved
loop-next-preserved g c =
    let R = g.K.Ord.cmp in
    let bs = c.loop-next.blocks.items in
    let last = c.args.last.now in
    let at = c.loop-next.at in
    let from = c.loop-next.from in
    let e = c.in-Some.next in
    let b = c.index_mut.result.now in
    let new = c.trade_for_last.new.block in
    let inv = c.loop-next.invariant in
    let first : first_entry (all_behind bs last at) ≡ Some e =
    ap (λ l. first_entry (all_behind l last at)) (sym c.deref.ensures.value) ∙ c.in-Some.ensures.first
    in
    let lt : at < length bs = some_behind bs last at e first in
    let next : suc at ≡ at + 1 = omega arith in
    let up : Ascend R (all_but bs last at from) = subst (Ascend R) (sym inv.others) c.requires.ascend in
    record {
      filled = filled_block bs at new inv.filled (rw c.trade_for_last.ensures (many (remove b.items from) e));
      stands = subst (λ n. StandsAt (slice_set bs at new) last n 0) next (step_stands bs last at new e inv.filled first);
      others = subst (λ n. all_but (slice_set bs at new) last n 0 ≡ all_but bs last at from) next (step_others bs last at from b new e inv.filled lt (sym c.index_mut.ensures.value) c.trade_for_last.ensures first) ∙ inv.others;
      before = subst (λ n. AllBelow R c.args.key.now (all_before (slice_set bs at new) last n 0)) next (step_before g.met.K.Ord.total bs last c.args.key.now at from b new e inv.filled lt (sym c.index_mut.ensures.value) c.trade_for_last.ensures first c.in-Some.ensures.below up inv.before);
    }
