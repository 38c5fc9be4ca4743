use Rattle.ft_kept.specs.inner.Changing.{acts_after}
use Rattle.ft_kept.proofs.settle.change_reading.Given as goal

abbrev pub ghost-settle_next : goal.ghost-settle_next
ghost-settle_next g a = acts_after a.act.now g.acts
