-- Each step of the walk settles the read that it passes.
use Rattle.std.proofs.Common.{◌≡◌, Some, None, subst, ◌∙◌}
use Rattle.ft_pairs.specs.Next.{IsNext}
use Rattle.ft_pairs.specs.Source.{Ops}
use Rattle.ft_pairs.specs.declared.at.At.{At}
use Rattle.ft_pairs.specs.declared.at.Op.{Op}
use Rattle.ft_pairs.specs.declared.at.Op.TheVariants.{Read}
use Rattle.ft_shelves.specs.Shelves.{kept_on}
use Rattle.ft_shelves.proofs.Counted.{tests_none, none_then, few_tests_none}
use Rattle.ft_kept.specs.inner.Readings.{AreSettled, IsReadAt}
use Rattle.ft_kept.proofs.Forms.{readers_trans}
use Rattle.ft_kept.proofs.Sources.{none_settled, settled_then, settled_too}
use Rattle.ft_kept.proofs.Told.{under_nothing, under_trans}
use Rattle.ft_kept.specs.inner.Telling.{variable_key}
use Rattle.ft_kept.proofs.Walks.{IsPassedRead, next_there, walk_begins, walk_goes_on}
use Rattle.ft_kept.proofs.settle.settle_key.Goals as goal

pub loop-next-init : goal.loop-next-init
loop-next-init g c =
    let ops : Ops = (kept_on c.args.tables.now).ops c.args.variable.now in
    record {
      settled = none_settled c.args.act.now.scene g.acts c.args.tables.now c.requires (IsPassedRead ops c.next_op-next.result) (λ q. walk_begins ops q c.next_op-next.result c.next_op-next.ensures.next);
      there = next_there ops None c.next_op-next.result c.next_op-next.ensures.next;
      told = under_nothing (variable_key c.args.variable.now) c.args.readings.now c.args.tables.now;
      work = tests_none c.args.work.now;
    }

pub settle_op-requires : goal.settle_op-requires
settle_op-requires g c =
    let step : At × Op = (c.in-Some.at, c.in-Some.op) in
    let so_far = c.loop-next.invariant in
    (so_far.settled.can, so_far.settled.readers.ops c.args.variable.now step.0 ∙ so_far.there step c.in-Some.is)

pub loop-next-preserved : goal.loop-next-preserved
loop-next-preserved g c =
    let step : At × Op = (c.in-Some.at, c.in-Some.op) in
    let so_far = c.loop-next.invariant in
    let first = c.args.tables.now in
    let before = c.loop-next.tables in
    let after = c.settle_op.new.tables in
    let ops : Ops = (kept_on first).ops c.args.variable.now in
    let next = c.next_op-next-in-Some.result in
    let readers = readers_trans first before after so_far.settled.readers c.in_ok-settle_op.ensures.settled.readers in
    let is_next : IsNext ops (Some step.0) next = subst (λ (o : Ops). IsNext o (Some step.0) next) (λ i q. readers.ops c.args.variable.now q i) c.next_op-next-in-Some.ensures.next in
    record {
      settled = settled_then c.args.act.now.scene g.acts (IsPassedRead ops (Some step)) (IsReadAt (Some step)) (IsPassedRead ops next) first before after
          (λ q. walk_goes_on ops q step next (so_far.there step c.in-Some.is) is_next)
          (subst (λ passed. AreSettled c.args.act.now.scene g.acts (IsPassedRead ops passed) first before) c.in-Some.is so_far.settled)
          c.in_ok-settle_op.ensures.settled;
      there = next_there ops (Some step.0) next is_next;
      told = under_trans so_far.settled.readers.forms so_far.told c.in_ok-settle_op.ensures.told;
      work = none_then c.args.work.now c.loop-next.work c.settle_op.new.work so_far.work (few_tests_none c.settle_op.ensures.work);
    }

pub returns-clause-settled : goal.returns-clause-settled
returns-clause-settled g c =
    let ops : Ops = (kept_on c.args.tables.now).ops c.args.variable.now in
    settled_too c.args.act.now.scene g.acts (IsPassedRead ops None) (λ at. ops at ≡ Some Read) c.args.tables.now c.loop-next.tables (λ at reads. (reads, tt))
    (subst (λ passed. AreSettled c.args.act.now.scene g.acts (IsPassedRead ops passed) c.args.tables.now c.loop-next.tables) c.in_default.is c.loop-next.invariant.settled)
