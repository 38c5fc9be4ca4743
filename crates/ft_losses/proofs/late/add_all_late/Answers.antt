use Rattle.std.proofs.Common.{List, sym, ap, ◌∙◌, ◌++◌, ℕ, Bool}
use Rattle.std.proofs.lemmas.List.{append-nil}
use Rattle.ft_losses.specs.Holes.{any_earlier, cpus_below, late_hole}
use Rattle.ft_losses.specs.inner.Lanes.{lane_in}
use Rattle.ft_losses.specs.declared.hole.Hole.{Hole}
use Rattle.ft_losses.specs.declared.lanes.Lane.{Lane}
use Rattle.ft_losses.proofs.Lasting.{one-more}
use Rattle.ft_losses.proofs.late.add_all_late.Goals as goal

pub loop-cpu-init : goal.loop-cpu-init
unfolding cpus_below
loop-cpu-init c = sym (append-nil c.args.holes.now.items)

pub loop-cpu-preserved : goal.loop-cpu-preserved
loop-cpu-preserved c =
    let earlier : ℕ → Bool = any_earlier (λ cpu. (lane_in c.args.lanes.now cpu).first) in
    let at : ℕ → List Hole = λ cpu. late_hole earlier c.args.line cpu (lane_in c.args.lanes.now cpu).first in
    c.in_ok-add_late_at.ensures
    ∙ ap (λ (e : ℕ → Bool). c.loop-cpu.holes.items ++ late_hole e c.args.line c.loop-cpu.cpu c.lane_of.result.first) (λ i stamp. c.least_first-least.ensures stamp i)
    ∙ ap (λ (l : Lane). c.loop-cpu.holes.items ++ late_hole earlier c.args.line c.loop-cpu.cpu l.first) c.lane_of.ensures
    ∙ one-more at c.args.holes.now.items c.loop-cpu.holes.items c.loop-cpu.cpu c.loop-cpu.invariant
