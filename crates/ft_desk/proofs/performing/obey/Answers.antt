use Rattle.ft_desk.specs.Output.{outcome}
use Rattle.ft_desk.proofs.performing.obey.Goals as goal

pub returns-in-Load : goal.returns-in-Load
unfolding outcome
returns-in-Load g c = rw c.in-Load.is (c.print_edit.ensures c.args.desk.now c.load_file.new.desk _ c.load_file.ensures)

pub returns-in-Insert : goal.returns-in-Insert
unfolding outcome
returns-in-Insert g c = rw c.in-Insert.is (c.print_edit-in-Insert.ensures c.args.desk.now c.insert.new.self _ (c.without_report.ensures c.args.desk.now c.insert.new.self _ c.insert.ensures.gives))

pub returns-in-Strike : goal.returns-in-Strike
unfolding outcome
returns-in-Strike g c = rw c.in-Strike.is (c.print_edit-in-Strike.ensures c.args.desk.now c.strike.new.self _ (c.without_report-in-Strike.ensures c.args.desk.now c.strike.new.self _ c.strike.ensures.gives))

pub returns-in-Attach : goal.returns-in-Attach
unfolding outcome
returns-in-Attach g c = rw c.in-Attach.is (c.print_edit-in-Attach.ensures c.args.desk.now c.attach.new.self _ c.attach.ensures.gives)

pub returns-in-Refilter : goal.returns-in-Refilter
unfolding outcome
returns-in-Refilter g c = rw c.in-Refilter.is (c.print_edit-in-Refilter.ensures c.args.desk.now c.refilter.new.self _ c.refilter.ensures.gives)
