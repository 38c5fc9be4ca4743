use Rattle.std.proofs.Common.{sym, ap, subst, ◌∙◌, Some, None}
use Rattle.ft_pairs.specs.ByKey.{OpsByKey, ops_of}
use Rattle.ft_pairs.specs.Next.{IsNext}
use Rattle.ft_pairs.specs.Source.{Ops}
use Rattle.ft_kept.proofs.Forms.{ops_by, ops_whole}
use Rattle.ft_kept.proofs.tables.Tables.next_op.Goals as goal

pub returns-in-Some-clause-next : goal.returns-in-Some-clause-next
returns-in-Some-clause-next c =
    subst (λ (ops : Ops). IsNext ops c.args.after c.next_op.result)
    (ap (λ (ops : OpsByKey). ops_of ops c.args.variable.now.key) c.ops.ensures ∙ sym (ops_whole c.args.self.now c.args.variable.now.saver (Some c.in-Some.shelf.now) (sym c.in-Some.ensures) c.args.variable.now.key)) c.next_op.ensures.next

pub returns-in-None-clause-next : goal.returns-in-None-clause-next
returns-in-None-clause-next c = λ q _. ops_by c.args.self.now c.args.variable.now.saver None (sym c.in-None.ensures) c.args.variable.now.key q
