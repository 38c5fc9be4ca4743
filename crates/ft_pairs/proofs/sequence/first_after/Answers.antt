use Rattle.std.proofs.Common.{sym, subst, ◌∙◌, None}
use Rattle.ft_pairs.specs.declared.at.At.{At}
use Rattle.ft_pairs.specs.inner.Sides.{IsFirst, IsFirstOf}
use Rattle.ft_pairs.proofs.Beside.{first_none, first_some, all_none, all_some}
use Rattle.ft_pairs.proofs.sequence.first_after.Goals as goal
use Rattle.ft_pairs.proofs.sequence.first_after.Goals.{in-None, in-Some}

pub returns-in-None-first : goal.returns-in-None-first
returns-in-None-first c = elim c.match-after.branch [
  | in-None w ↦ subst (λ after. IsFirstOf c.args.places.now after None) (sym w.in-None.is) (all_none c.args.places.now (sym (sym c.in-None-first.is ∙ w.first-is ∙ w.first-first.ensures.first)))
  | in-Some w ↦ subst (λ after. IsFirstOf c.args.places.now after None) (sym w.in-Some.is) (first_none w.in-Some.at c.args.places.now (sym (sym c.in-None-first.is ∙ w.first-is ∙ w.after-first.ensures.after)))
]

pub returns-in-Some-first : goal.returns-in-Some-first
returns-in-Some-first c =
    let e : At × Unit {0} = (c.in-Some-first.first, c.in-Some-first.field-0-1) in
    elim c.match-after.branch [
      | in-None w ↦ subst (λ after. IsFirst c.args.places.now after c.in-Some-first.first) (sym w.in-None.is) (all_some c.args.places.now e w.first-first.ensures.ordered (sym (sym c.in-Some-first.is ∙ w.first-is ∙ w.first-first.ensures.first)))
      | in-Some w ↦ subst (λ after. IsFirst c.args.places.now after c.in-Some-first.first) (sym w.in-Some.is) (first_some w.in-Some.at c.args.places.now e w.after-first.ensures.ordered (sym (sym c.in-Some-first.is ∙ w.first-is ∙ w.after-first.ensures.after)))
    ]
