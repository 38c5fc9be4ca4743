use Rattle.ft_kept.proofs.apply.change_act.Given as goal

abbrev pub ghost-change_saving : goal.ghost-change_saving
ghost-change_saving g a = g.acts

abbrev pub ghost-change_reading : goal.ghost-change_reading
ghost-change_reading g a = g.acts
