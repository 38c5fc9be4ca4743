use Rattle.std.proofs.Common.{◌≡◌, sym, ◌∙◌, ap, Some, None}
use Rattle.std.specs.Prelude.{is_some, option_and_then}
use Rattle.std.specs.FinMap as map
use Rattle.ft_fields.specs.Parts.{key_cmp}
use Rattle.ft_fields.specs.Orders.{key_cmp_total}
use Rattle.ft_maps.specs.Seen.{seen, get-seen}
use Rattle.ft_hits.proofs.Flat.{get-flat}
use Rattle.ft_hits.proofs.entry.holds.Goals as goal

pub returns-in-Some : goal.returns-in-Some
returns-in-Some c =
    let m = c.args.by_key.now in
    let at : map.get (seen key_cmp m) c.args.mark.key ≡ Some c.in-Some.entry.now = get-seen key_cmp_total m c.args.mark.key ∙ sym c.in-Some.ensures.value in
    c.contains.ensures ∙ sym (ap is_some (get-flat (seen key_cmp m) c.args.mark ∙ ap (option_and_then (λ entry. map.get entry c.args.mark.spot)) at))

pub returns-in-None : goal.returns-in-None
returns-in-None c =
    let m = c.args.by_key.now in
    let none : map.get (seen key_cmp m) c.args.mark.key ≡ None = get-seen key_cmp_total m c.args.mark.key ∙ sym c.in-None.ensures.value in
    sym (ap is_some (get-flat (seen key_cmp m) c.args.mark ∙ ap (option_and_then (λ entry. map.get entry c.args.mark.spot)) none))
