use Rattle.ft_kept.specs.Input.{input_of}
use Rattle.ft_kept.specs.Views.{triggers_of}
use Rattle.ft_kept.proofs.tables.Tables.apply_to.Given as goal

abbrev pub ghost-change_act : goal.ghost-change_act
ghost-change_act a = input_of (triggers_of a.act.now.scene) a.act.now.scene.lanes.now a.tables.now
