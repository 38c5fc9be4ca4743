use Rattle.std.proofs.Common.{rules, ◌≡◌, ap, ◌∙◌, arith, ◌<◌, length, get_or}
use Rattle.ft_blocks.specs.Blocks.{joined}
use Rattle.ft_blocks.proofs.Split.{joined_remove, filled_back}
use Rattle.ft_blocks.proofs.edits.drop_empty.Goals as goal

pub returns-then-len-eq0-clause-same : goal.returns-then-len-eq0-clause-same
returns-then-len-eq0-clause-same g c =
    let bs = c.args.blocks.now in
    let b = c.index.result.now in
    let at : get_or bs.items c.args.at b ≡ b = search rules in
    let e : length b.items ≡ 0 = omega (arith, c.len.ensures, c.if-len-eq0.true, b.ok.0) in
    ap joined c.remove.ensures.items ∙ joined_remove bs.items c.args.at b (omega (arith, c.requires.inside, bs.ok.0)) at e

pub returns-else-len-eq0-clause-filled : goal.returns-else-len-eq0-clause-filled
returns-else-len-eq0-clause-filled g c =
    let bs = c.args.blocks.now in
    let b = c.index.result.now in
    let at : get_or bs.items c.args.at b ≡ b = search rules in
    let some : 0 < length b.items = omega (arith, c.len.ensures, c.if-len-eq0.false, b.ok.0) in
    filled_back bs.items c.args.at b (omega (arith, c.requires.inside, bs.ok.0)) at c.requires.others some
