-- What stands at a place of the key's operations is what stands there of all.
use Rattle.std.proofs.Common.{◌≡◌, sym, ap, ◌∙◌, Some, None}
use Rattle.std.specs.FinMap as map
use Rattle.ft_fields.specs.Orders.{key_cmp_total}
use Rattle.ft_maps.specs.Seen.{get-seen}
use Rattle.ft_pairs.specs.ByKey.{OpsByKey}
use Rattle.ft_pairs.proofs.Found.{found_in}
use Rattle.ft_pairs.proofs.pairs.Pairs.op_at.Goals as goal

pub returns-in-Some : goal.returns-in-Some
returns-in-Some c =
    let key = c.args.key.now in
    let at : map.get c.args.self.now key ≡ Some c.in-Some.sequence.now = ap (λ (m : OpsByKey). map.get m key) (sym c.self.view_is) ∙ get-seen key_cmp_total c.self.inside.by_key key ∙ sym c.in-Some.ensures.value in
    c.get-in-Some.ensures ∙ ap (λ held. found_in held c.args.at) (sym at)

pub returns-in-None : goal.returns-in-None
returns-in-None c =
    let key = c.args.key.now in
    let at : map.get c.args.self.now key ≡ None = ap (λ (m : OpsByKey). map.get m key) (sym c.self.view_is) ∙ get-seen key_cmp_total c.self.inside.by_key key ∙ sym c.in-None.ensures.value in
    ap (λ held. found_in held c.args.at) (sym at)
