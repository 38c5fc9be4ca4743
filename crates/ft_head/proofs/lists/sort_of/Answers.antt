use Rattle.std.proofs.Common.{◌≡◌, ◌<◌, ap₂, ap, sym, length, arith, subst}
use Rattle.ft_head.specs.Draft.{items_from, with_sort}
use Rattle.ft_text.proofs.PieceLemmas.{pieces_some}
use Rattle.ft_head.proofs.lists.sort_of.Goals as goal

pub loop-item-init : goal.loop-item-init
loop-item-init c =
    let all = pieces_some 44 c.args.list.now.place c.args.list.now.bytes in
    let some : 0 < length c.of-items.result = subst (λ items. 0 < length items) (sym c.of-items.ensures) all in
    let none : length c.new-words.result.items ≡ 0 = ap length c.new-words.ensures.items in
    record {
      same = ap₂ (items_from with_sort) c.new-words.ensures.items c.of-items.ensures;
      some = omega arith;
      few = omega arith;
    }
