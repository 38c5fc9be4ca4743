use Rattle.std.proofs.Common.{refl}
use Rattle.ft_desk.specs.Output.{outcome_about}
use Rattle.ft_desk.proofs.performing.about.Goals as goal

pub returns-in-Unload : goal.returns-in-Unload
unfolding outcome_about
returns-in-Unload g c = rw c.in-Unload.is (c.print_edit.ensures c.args.desk.now c.unload.new.self _ c.unload.ensures.gives)

pub returns-in-Remove : goal.returns-in-Remove
unfolding outcome_about
returns-in-Remove g c = rw c.in-Remove.is (c.print_edit-in-Remove.ensures c.args.desk.now c.remove.new.self _ c.remove.ensures.gives)

pub returns-in-Hist : goal.returns-in-Hist
unfolding outcome_about
returns-in-Hist g c = rw c.in-Hist.is (c.print_answer.ensures _ _ _ c.hist.ensures.gives.0 c.hist.ensures.gives.1)

pub returns-in-Totals : goal.returns-in-Totals
unfolding outcome_about
returns-in-Totals g c = rw c.in-Totals.is (c.print_answer-in-Totals.ensures _ _ _ c.totals.ensures.gives.0 c.totals.ensures.gives.1)

pub returns-in-Latencies : goal.returns-in-Latencies
unfolding outcome_about
returns-in-Latencies g c = rw c.in-Latencies.is (c.print_answer-in-Latencies.ensures _ _ _ c.latencies.ensures.gives.0 c.latencies.ensures.gives.1)

pub returns-in-Lane : goal.returns-in-Lane
unfolding outcome_about
returns-in-Lane g c = rw c.in-Lane.is (c.print_answer-in-Lane.ensures _ _ _ refl c.list.ensures)
