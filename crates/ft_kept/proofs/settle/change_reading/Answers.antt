-- The key is told, the read stands among the operations or not, its own reading is right, and then the next one.
use Rattle.std.proofs.lemmas.Result.{on_ok_weaker}
use Rattle.ft_kept.proofs.InPlace.{can_settle}
use Rattle.ft_kept.proofs.Reading.{free, ready, placed, changed, told}
use Rattle.ft_kept.proofs.settle.change_reading.Goals as goal

pub change_read-requires : goal.change_read-requires
change_read-requires g c = free c.args.act.now g.acts c.args.saver c.args.tables.now c.requires.0 c.requires.1

pub settle-requires : goal.settle-requires
settle-requires g c = ready c.args.act.now g.acts c.args.saver c.args.tables.now c.requires.0 c.requires.1 c.change_read.new.self c.in_ok-change_read.ensures.ok

pub settle_next-requires : goal.settle_next-requires
settle_next-requires g c =
    can_settle c.args.act.now g.acts c.args.tables.now c.requires.0 c.settle.new.tables
    (placed c.args.act.now g.acts c.args.saver c.args.tables.now c.requires.0 c.requires.1 c.change_read.new.self c.in_ok-change_read.ensures.ok c.settle.new.tables c.in_ok-settle.ensures.settled)

pub returns-clause-changed : goal.returns-clause-changed
returns-clause-changed g c = on_ok_weaker c.settle_next.result
    (changed c.args.act.now g.acts c.args.saver c.args.tables.now c.requires.0 c.requires.1 c.change_read.new.self c.in_ok-change_read.ensures.ok c.settle.new.tables c.in_ok-settle.ensures.settled c.settle_next.new.tables)
    c.settle_next.ensures.settled

pub returns-clause-told : goal.returns-clause-told
returns-clause-told g c = on_ok_weaker c.settle_next.result
    (told c.args.act.now g.acts c.args.saver c.args.tables.now c.requires.0 c.requires.1 c.change_read.new.self c.in_ok-change_read.ensures.ok c.settle.new.tables c.in_ok-settle.ensures.settled
    c.settle_next.new.tables c.args.changes.now c.record_key.new.self (record c.record_key.new.self { readings = c.settle_next.new.readings }) c.settle.new.readings c.record_key.ensures.keys c.record_key.ensures.readings c.in_ok-settle.ensures.told) c.settle_next.ensures.told
