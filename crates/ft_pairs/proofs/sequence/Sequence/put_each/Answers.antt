-- One more read stands, of those that are to be put.
use Rattle.std.proofs.Common.{◌<◌, ◌+◌, length, fold, drop, ap, sym, subst, ◌∙◌, rules}
use Rattle.std.specs.FinMap as map
use Rattle.std.proofs.lemmas.List.{at_drop_more}
use Rattle.ft_pairs.specs.ByKey.{KeyOps}
use Rattle.ft_pairs.specs.Runs.{SomeReads}
use Rattle.ft_pairs.specs.inner.Met.{with_read}
use Rattle.ft_pairs.proofs.Partly.{one_more}
use Rattle.ft_pairs.proofs.sequence.Sequence.put_each.Goals as goal

pub loop-at-preserved : goal.loop-at-preserved
loop-at-preserved c =
    let old : KeyOps = c.args.self.now in
    let reads = c.args.reads.now in
    let i = c.loop-at.at-index in
    let lt : i < length reads = search rules in (
      ap (λ (ops : KeyOps). fold with_read ops (drop (i + 1) reads)) c.in_ok-insert.ensures.ok
          ∙ sym (at_drop_more (fold with_read c.loop-at.self) reads i _ lt) ∙ c.loop-at.invariant.0,
      subst (λ (ops : KeyOps). SomeReads reads (map.get old) (map.get ops)) (sym c.in_ok-insert.ensures.ok) (one_more old c.loop-at.self reads i _ lt c.loop-at.invariant.1),
    )
