-- The next operation stands where it is said to, and is settled; if there is none, nothing is.
use Rattle.std.proofs.Common.{Some, sym, subst}
use Rattle.std.proofs.lemmas.Result.{on_ok_weaker}
use Rattle.ft_pairs.specs.declared.at.Op.TheVariants.{Read}
use Rattle.ft_shelves.specs.Shelves.{kept_on}
use Rattle.ft_shelves.proofs.Decided.{none_not_some}
use Rattle.ft_kept.specs.inner.Readings.{AreSettled, IsReadAt}
use Rattle.ft_kept.proofs.Sources.{none_settled}
use Rattle.ft_kept.proofs.Told.{under_nothing}
use Rattle.ft_kept.specs.inner.Telling.{variable_key}
use Rattle.ft_kept.proofs.Walks.{next_there}
use Rattle.ft_kept.proofs.settle.settle_next.Goals as goal

pub settle_op-requires : goal.settle_op-requires
settle_op-requires g c = (c.requires, next_there ((kept_on c.args.tables.now).ops c.args.variable.now) (Some c.args.act.now.at) c.next_op.result c.next_op.ensures.next (c.in-Some.at, c.in-Some.op) c.in-Some.is)

pub returns-in-Some-clause-settled : goal.returns-in-Some-clause-settled
returns-in-Some-clause-settled g c = on_ok_weaker c.settle_op.result (λ settled. record {
  next = c.next_op.result;
  is_next = c.next_op.ensures.next;
  settled = subst (λ next. AreSettled c.args.act.now.scene g.acts (IsReadAt next) c.args.tables.now c.settle_op.new.tables) (sym c.in-Some.is) settled;
}) c.settle_op.ensures.settled

pub returns-in-None-clause-settled : goal.returns-in-None-clause-settled
returns-in-None-clause-settled g c = record {
  next = c.next_op.result;
  is_next = c.next_op.ensures.next;
  settled = none_settled c.args.act.now.scene g.acts c.args.tables.now c.requires (IsReadAt c.next_op.result) (λ at. none_not_some c.next_op.result (at, Read) c.in-None.is);
}

pub returns-in-None-clause-told : goal.returns-in-None-clause-told
returns-in-None-clause-told g c = under_nothing (variable_key c.args.variable.now) c.args.readings.now c.args.tables.now
