-- The operation stands on the saver's shelf.
use Rattle.std.proofs.Common.{sym, ◌∙◌, Some, arith}
use Rattle.std.proofs.lemmas.Result.{on_ok_weaker}
use Rattle.ft_pairs.specs.declared.at.Op.TheVariants.{Read}
use Rattle.ft_shelves.specs.Changes.{op_after, set_op}
use Rattle.ft_shelves.specs.Edits.{OpsChange}
use Rattle.ft_kept.proofs.Forms.{ops_by}
use Rattle.ft_kept.proofs.HitShelf.{inserts_at_most}
use Rattle.ft_kept.proofs.Shelving.{lent_changes, lent_was}
use Rattle.ft_kept.proofs.tables.Tables.change_read.Goals as goal

pub change_op-requires : goal.change_op-requires
change_op-requires c inserts =
    let variable = c.args.variable.now in
    sym (ops_by c.args.self.now variable.saver (Some c.in-Some.shelf.now) (lent_was variable.saver c.args.self.now c.shelf_mut.result c.in-Some.shelf c.in-Some.is c.shelf_mut.ensures.value) variable.key c.args.at) ∙ c.requires inserts

pub returns-in-Some-clause-ok : goal.returns-in-Some-clause-ok
returns-in-Some-clause-ok c =
    let variable = c.args.variable.now in
    on_ok_weaker c.change_op.result
    (lent_changes variable.saver c.args.self.now c.shelf_mut.result c.in-Some.shelf c.in-Some.is c.shelf_mut.ensures.value _ c.change_op.new.self (c.shelf_mut.follows.holds c.change_op.new.self)
    (OpsChange variable.key (set_op c.args.at (op_after c.args.sign Read)))) c.change_op.ensures.ok

pub returns-in-Some-clause-work : goal.returns-in-Some-clause-work
returns-in-Some-clause-work c =
    let did = c.change_op.ensures.work in
    record { evals = did.evals; puts = omega (arith, did.puts); few = omega (arith, did.puts, inserts_at_most c.args.sign 1) }
