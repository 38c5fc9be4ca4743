use Rattle.std.proofs.Common.{◌≡◌, ◌-◌, ◌<◌, suc, sym, ap, ◌∙◌, arith, rules, length, take, get_or, Some}
use Rattle.std.proofs.lemmas.List.{take_all}
use Rattle.ft_blocks.specs.Sorted.{last_entry}
use Rattle.ft_blocks.specs.Blocks.{joined}
use Rattle.ft_blocks.proofs.Joined.{filled_at}
use Rattle.ft_blocks.proofs.Lasts.{last_block, last_taken}
use Rattle.ft_blocks.proofs.blocks.last_of.Goals as goal

pub overflow_sub-len : goal.overflow_sub-len
overflow_sub-len g c =
    let b = c.index-blocks-at.result in
    let lt : c.args.at - 1 < length c.args.blocks.now = omega (arith, c.requires.inside, c.if-at-eq0.false) in
    let some : 0 < length b.items = filled_at c.args.blocks.now (c.args.at - 1) b c.requires.filled lt (sym c.index-blocks-at.is) in
    omega (arith, some, c.len.ensures, b.ok.0)

pub index-requires : goal.index-requires
index-requires g c =
    let b = c.index-blocks-at.result in
    let lt : c.args.at - 1 < length c.args.blocks.now = omega (arith, c.requires.inside, c.if-at-eq0.false) in
    let some : 0 < length b.items = filled_at c.args.blocks.now (c.args.at - 1) b c.requires.filled lt (sym c.index-blocks-at.is) in
    omega (arith, some, c.len.ensures, b.ok.0)

pub returns : goal.returns
returns g c =
    let bs = c.args.blocks.now in
    let n = c.args.at in
    let b = c.index-blocks-at.result in
    let e = c.index.result.now in
    let next : suc (n - 1) ≡ n = omega (arith, c.if-at-eq0.false) in
    let lt : n - 1 < length bs = omega (arith, c.requires.inside, c.if-at-eq0.false) in
    let some : 0 < length b.items = filled_at bs (n - 1) b c.requires.filled lt (sym c.index-blocks-at.is) in
    let at : get_or b.items (c.len.result - 1) e ≡ e = search rules in
    let inside : c.len.result - 1 < length b.items = omega (arith, some, c.len.ensures, b.ok.0) in
    let whole : length b.items ≡ suc (c.len.result - 1) = omega (arith, some, c.len.ensures, b.ok.0) in
    let last : last_entry b.items ≡ Some e = ap last_entry (sym (take_all (length b.items) b.items (omega arith))) ∙ ap (λ m. last_entry (take m b.items)) whole ∙ last_taken b.items (c.len.result - 1) e inside at in
    sym (ap (λ m. last_entry (joined (take m bs))) (sym next) ∙ last_block bs (n - 1) b e lt (sym c.index-blocks-at.is) last)
