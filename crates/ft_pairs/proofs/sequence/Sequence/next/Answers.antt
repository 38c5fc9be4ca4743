use Rattle.std.proofs.Common.{sym, subst, ◌∙◌, Some, None}
use Rattle.std.specs.FinMap as map
use Rattle.ft_pairs.specs.declared.at.Op.TheVariants.{Save, Read}
use Rattle.ft_pairs.specs.ByKey.{KeyOps}
use Rattle.ft_pairs.specs.Next.{IsNext}
use Rattle.ft_pairs.proofs.Sides.{lt_is}
use Rattle.ft_pairs.proofs.Beside.{none_next, read_next, save_next, save_first, read_first}
use Rattle.ft_pairs.proofs.sequence.Sequence.next.Goals as goal

pub returns-then-is_before : goal.returns-then-is_before
returns-then-is_before c =
    let s = c.self.inside in
    subst (λ (ops : KeyOps). IsNext (map.get ops) c.args.after (Some (c.in-Some.save, Save))) c.self.view_is
    (save_first s.saves s.reads c.args.after c.in-Some.save c.in-Some-first_after-2.read c.in-Some.ensures c.in-Some-first_after-2.ensures (lt_is _ (sym c.is_before.ensures ∙ c.if-is_before.true)))

pub returns-in-None-first_after : goal.returns-in-None-first_after
returns-in-None-first_after c =
    let s = c.self.inside in
    subst (λ (ops : KeyOps). IsNext (map.get ops) c.args.after None) c.self.view_is (none_next s.saves s.reads c.args.after c.in-None.ensures c.in-None-first_after.ensures)

pub returns-in-Some-first_after : goal.returns-in-Some-first_after
returns-in-Some-first_after c =
    let s = c.self.inside in
    subst (λ (ops : KeyOps). IsNext (map.get ops) c.args.after (Some (c.in-Some-first_after.read, Read))) c.self.view_is
    (read_next s.saves s.reads c.args.after c.in-Some-first_after.read c.in-Some-first_after.ensures (λ q behind before. c.in-None.ensures q behind))

pub returns-in-None-first_after-2 : goal.returns-in-None-first_after-2
returns-in-None-first_after-2 c =
    let s = c.self.inside in
    subst (λ (ops : KeyOps). IsNext (map.get ops) c.args.after (Some (c.in-Some.save, Save))) c.self.view_is
    (save_next s.saves s.reads c.args.after c.in-Some.save c.in-Some.ensures (c.in-None-first_after-2.ensures c.in-Some.save c.in-Some.ensures.behind) (λ q behind before. c.in-None-first_after-2.ensures q behind))

pub returns-else-is_before : goal.returns-else-is_before
returns-else-is_before c =
    let s = c.self.inside in
    subst (λ (ops : KeyOps). IsNext (map.get ops) c.args.after (Some (c.in-Some-first_after-2.read, Read))) c.self.view_is
    (read_first s.saves s.reads c.args.after c.in-Some.save c.in-Some-first_after-2.read c.in-Some.ensures c.in-Some-first_after-2.ensures (sym c.is_before.ensures ∙ c.if-is_before.false))
