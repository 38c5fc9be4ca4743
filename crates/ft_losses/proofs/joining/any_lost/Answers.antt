use Rattle.std.proofs.Common.{refl, sym, ap, ◌∙◌, ◌||◌, Bool, ℕ}
use Rattle.std.specs.List.{list_any}
use Rattle.std.specs.Option.{is_some}
use Rattle.ft_losses.specs.Holes.{cpus_below}
use Rattle.ft_losses.specs.inner.Lanes.{lane_in}
use Rattle.ft_losses.specs.declared.lanes.Lane.{Lane}
use Rattle.ft_losses.proofs.Begun.{any-more}
use Rattle.ft_losses.proofs.joining.any_lost.Goals as goal

pub loop-cpu-init : goal.loop-cpu-init
unfolding cpus_below
loop-cpu-init c = refl

pub loop-cpu-preserved : goal.loop-cpu-preserved
loop-cpu-preserved c =
    let p : ℕ → Bool = λ cpu. is_some (lane_in c.args.lanes.now cpu).lost in
    c.either-any.ensures
    ∙ ap (λ b. b || c.is_some.result) c.loop-cpu.invariant
    ∙ ap (λ b. list_any p (cpus_below c.loop-cpu.cpu) || b) (c.is_some.ensures ∙ ap (λ (l : Lane). is_some l.lost) c.lane_of.ensures)
    ∙ sym (any-more p c.loop-cpu.cpu)
