use Rattle.std.proofs.Common.{ap, ◌∙◌, List, arith}
use Rattle.std.specs.List.{list_any}
use Rattle.std.specs.Option.{is_some}
use Rattle.ft_losses.specs.Holes.{cpus_below, lost_since}
use Rattle.ft_losses.specs.inner.Lanes.{lane_in}
use Rattle.ft_losses.specs.declared.hole.Loss.{Loss}
use Rattle.ft_losses.specs.declared.lanes.Lane.{Lane}
use Rattle.std.specs.Prelude.{Option}
use Rattle.ft_losses.proofs.Begun.{any-below}
use Rattle.ft_losses.proofs.losses.Losses.is_open.Goals as goal

pub returns : goal.returns
returns c = λ notes keeps.
    c.any_lost.ensures
    ∙ ap (λ (ls : List Lane). list_any (λ cpu. is_some (lane_in ls cpu).lost) (cpus_below 8192)) c.deref.ensures.value
    ∙ any-below (λ cpu. is_some (lane_in c.args.self.now.lanes.items cpu).lost) (λ cpu. is_some (lost_since cpu notes)) 8192
    (λ cpu low. ap (λ (o : Option Loss). is_some o) (keeps.lost cpu (omega (arith, low))))
