use Rattle.std.proofs.Common.{refl, sym, ap, ◌∙◌, ◌||◌, Bool, ℕ}
use Rattle.std.specs.List.{list_any}
use Rattle.ft_losses.specs.Holes.{is_earlier, cpus_below}
use Rattle.ft_losses.specs.inner.Lanes.{lane_in}
use Rattle.ft_losses.specs.declared.lanes.Lane.{Lane}
use Rattle.ft_losses.proofs.Begun.{any-more}
use Rattle.ft_losses.proofs.late.least_first.Goals as goal

pub loop-cpu-init : goal.loop-cpu-init
unfolding cpus_below
loop-cpu-init c = λ stamp. refl

pub loop-cpu-preserved : goal.loop-cpu-preserved
loop-cpu-preserved c = λ stamp.
    let p : ℕ → Bool = λ cpu. is_earlier (lane_in c.args.lanes.now cpu).first stamp in
    c.earlier-least.ensures stamp
    ∙ ap (λ b. b || is_earlier c.lane_of.result.first stamp) (c.loop-cpu.invariant stamp)
    ∙ ap (λ (l : Lane). list_any p (cpus_below c.loop-cpu.cpu) || is_earlier l.first stamp) c.lane_of.ensures
    ∙ sym (any-more p c.loop-cpu.cpu)
