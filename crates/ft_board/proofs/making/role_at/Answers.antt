use Rattle.std.proofs.Common.{ap, sym, ◌∙◌}
use Rattle.ft_base.specs.Roles.{role_of}
use Rattle.ft_board.proofs.MadeStays.{role_gone}
use Rattle.ft_repair.proofs.Families.{role_there}
use Rattle.ft_board.proofs.making.role_at.Goals as goal

pub returns-in-Some : goal.returns-in-Some
returns-in-Some c = c.role_of.ensures ∙ ap (role_of c.args.triggers.now) c.variable.ensures ∙ sym (role_there c.args.triggers.now c.args.id c.in-Some.trigger.now (sym c.in-Some.ensures))

pub returns-in-None : goal.returns-in-None
returns-in-None c = sym (role_gone c.args.triggers.now c.args.id (sym c.in-None.ensures))
