use Rattle.std.proofs.Common.{sym, ap, ◌∙◌}
use Rattle.ft_blocks.specs.Sorted.{first_entry}
use Rattle.ft_blocks.proofs.Nexts.{first_here, none_here}
use Rattle.ft_blocks.proofs.blocks.first_from.Goals as goal

pub returns-then-at-blocks : goal.returns-then-at-blocks
returns-then-at-blocks g c =
    let b = c.index-blocks-at.result in
    c.entry_at.ensures ∙ ap first_entry c.deref.ensures.value
    ∙ first_here c.args.blocks.now c.args.at b c.args.last.now c.requires.filled c.if-at-blocks.true (sym c.index-blocks-at.is)

pub returns : goal.returns
returns g c = c.entry_at-2.ensures ∙ none_here c.args.blocks.now c.args.at c.args.last.now c.if-at-blocks.false
