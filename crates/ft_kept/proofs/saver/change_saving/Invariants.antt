use Rattle.ft_kept.specs.inner.Changing.{acts_after}
use Rattle.ft_kept.proofs.saver.change_saving.Given as goal

abbrev pub ghost-change_shelf : goal.ghost-change_shelf
ghost-change_shelf g a = g.acts

abbrev pub ghost-settle_moved : goal.ghost-settle_moved
ghost-settle_moved g a = acts_after a.act.now g.acts
