use Rattle.std.proofs.Common.{arith, rules}
use Rattle.ft_lines.proofs.Noting.{noted-more}
use Rattle.ft_lines.proofs.losses.losses_in.Goals as goal

pub loop-line-init : goal.loop-line-init
loop-line-init c = search rules

pub loop-line-preserved : goal.loop-line-preserved
loop-line-preserved c = record {
  noted = noted-more c.args.text.now c.loop-line.rest.now c.in-Some.line.now c.in-Some.behind.now c.loop-line.number c.loop-line.losses c.take_line.new.losses
      c.loop-line.invariant.noted c.in-Some.ensures.cut c.in_ok-take_line.ensures;
  counted = omega (arith, c.in-Some.ensures.shorter);
}
