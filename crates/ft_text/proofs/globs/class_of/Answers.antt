use Rattle.std.proofs.Common.{◌∙◌, sym}
use Rattle.ft_text.proofs.Cuts.{none_closed, none_closed_marked}
use Rattle.ft_text.proofs.globs.class_of.Goals as goal
use Rattle.ft_text.proofs.globs.class_of.Goals.{then-negated, else-negated}

pub returns-in-None-clause-none : goal.returns-in-None-clause-none
returns-in-None-clause-none c = λ negated inside rest cut.
    elim c.if-negated.branch [
      | then-negated w ↦ none_closed_marked c.args.text.now inside rest negated (sym c.starts_with-negated.ensures.value ∙ w.if-negated.true) (rw w.text-is at c.in-None.ensures.none) cut
      | else-negated w ↦ none_closed c.args.text.now inside rest negated (rw w.text-is at c.in-None.ensures.none) cut
    ]
