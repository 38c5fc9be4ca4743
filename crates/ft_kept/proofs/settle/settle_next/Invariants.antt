use Rattle.ft_kept.proofs.settle.settle_next.Given as goal

abbrev pub ghost-settle_op : goal.ghost-settle_op
ghost-settle_op g a = g.acts
