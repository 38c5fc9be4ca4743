use Rattle.ft_kept.proofs.saver.settle_moved.Given as goal

abbrev pub ghost-settle_key : goal.ghost-settle_key
ghost-settle_key g a = g.acts

abbrev pub ghost-settle_next : goal.ghost-settle_next
ghost-settle_next g a = g.acts
