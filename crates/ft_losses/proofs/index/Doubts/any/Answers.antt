use Rattle.std.proofs.Common.{List, ◌∙◌, ap, sym, subst}
use Rattle.std.specs.List.{flat_map}
use Rattle.ft_losses.specs.Doubt.{any_spans}
use Rattle.ft_losses.specs.declared.hole.Hole.{Hole}
use Rattle.ft_losses.specs.declared.stretches.Stretch.{Stretch}
use Rattle.ft_losses.specs.inner.Stretches.{stretches_of, Indexes}
use Rattle.ft_losses.proofs.Spanning.{holes-any}
use Rattle.ft_losses.proofs.index.Doubts.any.Goals as goal

pub returns : goal.returns
returns c =
    let stretches = flat_map stretches_of c.self.inside.holes.items in
    c.any_in.ensures stretches (subst (λ (rows : List Stretch). Indexes rows stretches) (sym c.deref.ensures.value) c.self.invariant)
    ∙ holes-any c.self.inside.holes.items c.args.began c.args.ended
    ∙ ap (λ (holes : List Hole). any_spans holes c.args.began c.args.ended) c.self.view_is
