use Rattle.ft_event.proofs.Marks.{marked, unmarked}
use Rattle.ft_event.proofs.mark.mark_of.Goals as goal

pub returns-clause-meaning : goal.returns-clause-meaning
returns-clause-meaning c = marked c.args.line.now c.first_mark.result c.first_mark.ensures

pub returns-clause-none : goal.returns-clause-none
returns-clause-none c = unmarked c.args.line.now c.first_mark.result c.first_mark.ensures
