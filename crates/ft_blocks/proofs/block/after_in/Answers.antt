use Rattle.std.proofs.Common.{rules, ◌≡◌, ◌+◌, suc, ap, ◌∙◌, arith, true, false, drop}
use Rattle.ft_blocks.specs.Sorted.{ties_first, first_entry}
use Rattle.ft_blocks.proofs.Nexts.{after_tie, after_gap}
use Rattle.ft_blocks.proofs.block.after_in.Goals as goal

pub returns-then-has_key : goal.returns-then-has_key
returns-then-has_key g c =
    let R = g.K.Ord.cmp in
    let es = c.args.block.now in
    let n = c.cut_of-place.result in
    let ties : ties_first R c.args.key.now (drop n es) ≡ true = search rules in
    let next : n + 1 ≡ suc n = omega arith in
    c.entry_at.ensures ∙ ap (λ m. first_entry (drop m es)) next ∙ after_tie g.met.K.Ord.total es c.args.key.now n c.cut_of-place.ensures c.requires ties

pub returns : goal.returns
returns g c =
    let R = g.K.Ord.cmp in
    let es = c.args.block.now in
    let n = c.cut_of-place.result in
    let ties : ties_first R c.args.key.now (drop n es) ≡ false = search rules in
    c.entry_at-2.ensures ∙ after_gap g.met.K.Ord.total es c.args.key.now n c.cut_of-place.ensures ties
