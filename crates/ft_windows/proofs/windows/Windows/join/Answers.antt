use Rattle.std.proofs.Common.{ap, ◌∙◌}
use Rattle.std.specs.Prelude.{List}
use Rattle.std.specs.Option.{option_or}
use Rattle.ft_windows.specs.Telling.{lane_in}
use Rattle.ft_windows.specs.declared.lanes.Lane.{Lane}
use Rattle.ft_windows.proofs.Behind.{joined}
use Rattle.ft_windows.proofs.windows.Windows.join.Goals as goal

pub returns : goal.returns
returns c = λ events own showings more keeps kept.
    let old = c.args.self.now in
    joined old c.args.part _ events own showings more
    (λ cpu fits. c.join_lanes.ensures.at cpu fits
    ∙ ap (λ (ls : List Lane). record { first = option_or (lane_in old.lanes.items cpu).first (lane_in ls cpu).first; last = option_or (lane_in ls cpu).last (lane_in old.lanes.items cpu).last }) c.deref.ensures.value)
    c.in_ok-note_all.ensures.before c.in_ok-note_all.ensures.after c.in_ok-add_spans.ensures c.least-self.ensures c.greatest-self.ensures keeps kept
