-- What the key's operations answer is what all answer of the key.
use Rattle.std.proofs.Common.{◌≡◌, refl, sym, ap, subst, ◌∙◌, Some, None, inl}
use Rattle.std.specs.FinMap as map
use Rattle.ft_fields.specs.Orders.{key_cmp_total}
use Rattle.ft_maps.specs.Seen.{get-seen}
use Rattle.ft_pairs.specs.Source.{Ops, IsSource}
use Rattle.ft_pairs.specs.ByKey.{OpsByKey}
use Rattle.ft_pairs.proofs.Found.{at_key}
use Rattle.ft_pairs.proofs.pairs.Pairs.source.Goals as goal

pub returns-in-Some : goal.returns-in-Some
returns-in-Some c =
    let key = c.args.key.now in
    let at : map.get c.args.self.now key ≡ Some c.in-Some.sequence.now = ap (λ (m : OpsByKey). map.get m key) (sym c.self.view_is) ∙ get-seen key_cmp_total c.self.inside.by_key key ∙ sym c.in-Some.ensures.value in
    subst (λ (ops : Ops). IsSource ops c.args.at c.source.result) (sym (at_key c.args.self.now key (Some c.in-Some.sequence.now) at)) c.source.ensures

pub returns-in-None : goal.returns-in-None
returns-in-None c =
    let key = c.args.key.now in
    let at : map.get c.args.self.now key ≡ None = ap (λ (m : OpsByKey). map.get m key) (sym c.self.view_is) ∙ get-seen key_cmp_total c.self.inside.by_key key ∙ sym c.in-None.ensures.value in
    subst (λ (ops : Ops). IsSource ops c.args.at None) (sym (at_key c.args.self.now key None at)) (inl (λ q _. refl))
