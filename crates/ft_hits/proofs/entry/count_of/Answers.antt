-- What the tree answers at a key is what the finite map has there.
use Rattle.std.proofs.Common.{◌≡◌, sym, ap, ◌∙◌, Some, None, unwrap_or}
use Rattle.std.specs.FinMap as map
use Rattle.ft_fields.specs.Parts.{key_cmp}
use Rattle.ft_hits.specs.Spots.{spot_cmp}
use Rattle.ft_maps.specs.Seen.{seen, get-seen}
use Rattle.ft_fields.specs.Orders.{key_cmp_total}
use Rattle.ft_hits.proofs.Flat.{hits_of-flat}
use Rattle.ft_hits.proofs.entry.count_of.Goals as goal
use Rattle.std.specs.FinMap.{len-empty}
use Rattle.std.specs.Prelude.{ℤ, List}

pub returns-in-Some : goal.returns-in-Some
returns-in-Some c =
    let at : map.get (seen key_cmp c.args.by_key.now) c.args.key.now ≡ Some c.in-Some.entry.now = get-seen key_cmp_total c.args.by_key.now c.args.key.now ∙ sym c.in-Some.ensures.value in
    c.len.ensures.len ∙ sym (ap map.len (hits_of-flat (seen key_cmp c.args.by_key.now) c.args.key.now ∙ ap (λ o. unwrap_or o map.empty) at))

pub returns-in-None : goal.returns-in-None
returns-in-None c =
    let at : map.get (seen key_cmp c.args.by_key.now) c.args.key.now ≡ None = get-seen key_cmp_total c.args.by_key.now c.args.key.now ∙ sym c.in-None.ensures.value in
    sym (ap map.len (hits_of-flat (seen key_cmp c.args.by_key.now) c.args.key.now ∙ ap (λ o. unwrap_or o map.empty) at) ∙ len-empty spot_cmp (List ℤ))
