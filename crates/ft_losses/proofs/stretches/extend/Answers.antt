use Rattle.std.proofs.Common.{arith, ◌≡◌, ◌<◌, ap, ◌∙◌, get_or, ◌-◌, length}
use Rattle.std.proofs.lemmas.List.{get_or-set_other, get_or_default}
use Rattle.std.proofs.Math.ListN.{length-set}
use Rattle.ft_losses.specs.inner.Stretches.{extended}
use Rattle.ft_losses.specs.declared.stretches.Stretch.{Stretch}
use Rattle.ft_losses.proofs.Extended.{reach-next}
use Rattle.ft_losses.proofs.stretches.extend.Goals as goal

pub loop-at-preserved : goal.loop-at-preserved
loop-at-preserved c =
    let within : c.loop-at.at < length c.loop-at.rows.items = omega (arith, c.loop-at.invariant.size) in
    record {
      size = simp length-set c.loop-at.invariant.size;
      done = reach-next c.args.rows.now.items c.loop-at.rows.items (c.loop-at.at - 1) c.loop-at.at c.extended.result c.requires (omega arith) (omega (arith, c.loop-at.invariant.size)) c.loop-at.invariant.size c.loop-at.invariant.done (λ d.
          let own : c.index.result.now ≡ get_or c.args.rows.now.items c.loop-at.at d = c.index.ensures ∙ get_or_default c.loop-at.rows.items c.loop-at.at c.index.result.now d within ∙ c.loop-at.invariant.rest c.loop-at.at d (omega arith) in
          let last : c.index-in-loop-at.result.now ≡ get_or c.loop-at.rows.items (c.loop-at.at - 1) d = c.index-in-loop-at.ensures ∙ get_or_default c.loop-at.rows.items (c.loop-at.at - 1) c.index-in-loop-at.result.now d (omega (arith, within)) in
          c.extended.ensures ∙ ap (λ (s : Stretch). extended s c.index-in-loop-at.result.now) own ∙ ap (λ (s : Stretch). extended (get_or c.args.rows.now.items c.loop-at.at d) s) last);
      rest = λ k d low. get_or-set_other c.loop-at.rows.items c.loop-at.at k c.extended.result d (λ (same : k ≡ c.loop-at.at). absurd (omega (arith, same, low))) ∙ c.loop-at.invariant.rest k d (omega (arith, low));
    }
