use Rattle.ft_lines.proofs.OneMore.{one-more, no-more}
use Rattle.ft_lines.proofs.lines.lines_in.Goals as goal

pub loop-line-preserved : goal.loop-line-preserved
loop-line-preserved c =
    one-more c.args.text.now c.loop-line.rest.now c.in-Some.line.now c.in-Some.behind.now _ c.loop-line.start c.end_of-end.result c.of.result c.loop-line.lines.items c.push.new.self.items
    c.loop-line.invariant c.in-Some.ensures.cut c.end_of-end.ensures c.of.ensures c.in_ok-push.ensures.items

pub returns : goal.returns
returns c = no-more c.args.text.now c.loop-line.rest.now _ c.loop-line.start c.loop-line.lines.items c.loop-line.invariant c.in_default.ensures.cut
