use Rattle.std.proofs.Common.{◌≡◌, sym, ap, ◌∙◌, Some}
use Rattle.std.specs.FinMap as map
use Rattle.ft_fields.specs.Parts.{key_cmp}
use Rattle.ft_fields.specs.Orders.{key_cmp_total}
use Rattle.ft_maps.specs.Seen.{seen, get-seen}
use Rattle.ft_pairs.specs.ByKey.{KeyOps}
use Rattle.ft_pairs.proofs.pairs.is_clear.Goals as goal

pub returns-in-Some : goal.returns-in-Some
returns-in-Some c none =
    let at : map.get (seen key_cmp c.args.by_key.now) c.args.key.now ≡ Some c.in-Some.sequence.now = get-seen key_cmp_total c.args.by_key.now c.args.key.now ∙ sym c.in-Some.ensures.value in
    at ∙ ap (λ (ops : KeyOps). Some ops) (c.is_empty.ensures none)
