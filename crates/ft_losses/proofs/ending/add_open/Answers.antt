use Rattle.std.proofs.Common.{◌∙◌, ap, sym, ◌++◌}
use Rattle.std.proofs.lemmas.List.{append-nil}
use Rattle.std.specs.Prelude.{None}
use Rattle.ft_losses.specs.Holes.{hole_of, cpus_below}
use Rattle.ft_losses.specs.declared.lanes.Lane.{Lane}
use Rattle.ft_losses.proofs.Lasting.{one-more, kept_hole}
use Rattle.ft_losses.proofs.ending.add_open.Goals as goal

pub loop-cpu-init : goal.loop-cpu-init
unfolding cpus_below
loop-cpu-init c = sym (append-nil c.args.holes.now.items)

pub loop-cpu-preserved : goal.loop-cpu-preserved
loop-cpu-preserved c =
    c.in_ok-add_hole.ensures ∙ ap (λ (l : Lane). c.loop-cpu.holes.items ++ hole_of c.loop-cpu.cpu l.last None l.lost) c.lane_of.ensures
    ∙ one-more (kept_hole c.args.lanes.now) c.args.holes.now.items c.loop-cpu.holes.items c.loop-cpu.cpu c.loop-cpu.invariant
