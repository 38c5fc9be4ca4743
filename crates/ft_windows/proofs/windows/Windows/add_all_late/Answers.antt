use Rattle.std.proofs.Common.{◌∙◌, ap, sym, ◌++◌, ℕ, ℤ, Bool, List}
use Rattle.std.proofs.lemmas.List.{append-nil}
use Rattle.ft_losses.specs.Holes.{cpus_below}
use Rattle.ft_losses.specs.Telling.{told_in}
use Rattle.ft_losses.specs.declared.hole.Hole.{Hole}
use Rattle.ft_windows.specs.Telling.{lane_in, named_in, begins_before, is_before}
use Rattle.ft_windows.specs.Windows.{late_window}
use Rattle.ft_windows.specs.declared.lanes.Lane.{Lane}
use Rattle.ft_windows.proofs.Below.{one-more}
use Rattle.ft_windows.proofs.windows.Windows.add_all_late.Goals as goal

pub loop-cpu-init : goal.loop-cpu-init
unfolding cpus_below
loop-cpu-init c = sym (append-nil c.args.holes.now.items)

pub loop-cpu-preserved : goal.loop-cpu-preserved
loop-cpu-preserved c =
    let self = c.args.self.now in
    let named : ℤ → ℕ → Bool = λ pid stamp. begins_before (named_in self.tasks pid) stamp in
    let at : ℕ → List Hole = λ cpu. late_window (told_in c.args.told.now) named (is_before self.least_at) cpu (lane_in self.lanes.items cpu).first in
    c.in_ok-add_late.ensures
    ∙ ap (λ (l : Lane). c.loop-cpu.holes.items ++ late_window (told_in c.args.told.now) named (is_before self.least_at) c.loop-cpu.cpu l.first) (c.lane_of.ensures ∙ ap (λ (ls : List Lane). lane_in ls c.loop-cpu.cpu) c.deref.ensures.value)
    ∙ one-more at c.args.holes.now.items c.loop-cpu.holes.items c.loop-cpu.cpu c.loop-cpu.invariant
