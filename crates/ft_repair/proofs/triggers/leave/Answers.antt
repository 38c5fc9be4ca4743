use Rattle.std.proofs.Common.{ap, sym, subst, ◌∙◌}
use Rattle.std.specs.FinMap as map
use Rattle.ft_repair.specs.ButOneTrigger.{AreKeptBut, OtherShelvesStay}
use Rattle.ft_repair.proofs.Outside.{leaves, others_left}
use Rattle.ft_repair.proofs.Repaired.{if_there}
use Rattle.ft_kept.specs.Shelves.{Shelves}
use Rattle.ft_repair.proofs.triggers.leave.Goals as goal

pub returns-clause-kept : goal.returns-clause-kept
returns-clause-kept c = subst (AreKeptBut c.args.id c.args.content.now) (sym c.drop_shelf.ensures) (leaves c.args.content.now c.args.id c.requires.unread c.take_reads.new.tables c.in_default-take_reads.ensures.leaves)

pub returns-clause-others : goal.returns-clause-others
returns-clause-others c none =
    if_there (λ before. OtherShelvesStay c.args.id before c.drop_shelf.new.self) c.in-Some.tables c.args.kept.now c.in-Some.ensures.value
    (others_left c.args.id c.in-Some.tables c.drop_shelf.new.self (c.drop_shelf.ensures ∙ ap (λ (s : Shelves). map.remove s c.args.id) (c.take_reads.ensures.nothing none).1.0))
