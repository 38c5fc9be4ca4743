-- Taking a trigger away that can be keeps what all edits keep.
use Rattle.std.proofs.Common.{◌≡◌, sym, subst, Ok}
use Rattle.std.specs.FinMap as map
use Rattle.ft_base.specs.contracts.content.Content.{the_view}
use Rattle.ft_base.specs.After.{after_remove}
use Rattle.ft_base.specs.Base.{Base}
use Rattle.ft_base.proofs.Cases.{remove-reachable}
use Rattle.ft_base.proofs.content.Content.remove.Goals as goal

pub invariant_of-self : goal.invariant_of-self
invariant_of-self c =
    let base : Base = the_view c.self.inside in
    let gives : after_remove base c.args.id ≡ Ok (record base { triggers = map.remove base.triggers c.args.id }, c.args.id) =
    subst (λ (b : Base). after_remove b c.args.id ≡ Ok (record b { triggers = map.remove b.triggers c.args.id }, c.args.id)) (sym c.self.view_is) c.requires in
    rw (c.remove.ensures) (remove-reachable base c.args.id _ c.args.id c.self.invariant gives)
