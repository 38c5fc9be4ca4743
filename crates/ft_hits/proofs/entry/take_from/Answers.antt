use Rattle.std.proofs.Common.{◌≡◌, sym, ◌∙◌, ap, Some, None}
use Rattle.std.specs.Prelude.{is_some, option_and_then}
use Rattle.std.specs.FinMap as map
use Rattle.ft_fields.specs.Parts.{key_cmp}
use Rattle.ft_maps.specs.Seen.{seen, get-seen, seen-found}
use Rattle.ft_hits.specs.ByKey.{flat}
use Rattle.ft_fields.specs.Orders.{key_cmp_total}
use Rattle.ft_fields.specs.Ties.{key_same}
use Rattle.ft_hits.proofs.Flat.{get-flat, flat-remove, flat-absent}
use Rattle.ft_hits.proofs.entry.take_from.Goals as goal

pub returns-in-Some-clause-left : goal.returns-in-Some-clause-left
returns-in-Some-clause-left c =
    let m = c.args.by_key.now in
    let key = c.args.mark.key in
    let at : map.get (seen key_cmp m) key ≡ Some c.in-Some.entry.now = get-seen key_cmp_total m key ∙ sym c.in-Some.ensures.value in
    ap flat (seen-found key_cmp_total key_same m (c.get_mut.follows.lender c.remove.new.self) key c.in-Some.entry.now c.remove.new.self c.in-Some.ensures.value (c.get_mut.follows.holds c.remove.new.self)
    ∙ ap (map.insert (seen key_cmp m) key) c.remove.ensures.left)
    ∙ flat-remove (seen key_cmp m) c.args.mark c.in-Some.entry.now at

pub returns-in-None-clause-left : goal.returns-in-None-clause-left
returns-in-None-clause-left c =
    let m = c.args.by_key.now in
    let key = c.args.mark.key in
    let none : map.get (seen key_cmp m) key ≡ None = get-seen key_cmp_total m key ∙ sym c.in-None.ensures.value in
    ap flat (ap (seen key_cmp) c.get_mut.follows.holds-at-none) ∙ flat-absent (seen key_cmp m) c.args.mark none

pub returns-in-Some-clause-found : goal.returns-in-Some-clause-found
returns-in-Some-clause-found c =
    let m = c.args.by_key.now in
    let at : map.get (seen key_cmp m) c.args.mark.key ≡ Some c.in-Some.entry.now = get-seen key_cmp_total m c.args.mark.key ∙ sym c.in-Some.ensures.value in
    c.remove.ensures.found ∙ sym (ap is_some (get-flat (seen key_cmp m) c.args.mark ∙ ap (option_and_then (λ entry. map.get entry c.args.mark.spot)) at))

pub returns-in-None-clause-found : goal.returns-in-None-clause-found
returns-in-None-clause-found c =
    let m = c.args.by_key.now in
    let none : map.get (seen key_cmp m) c.args.mark.key ≡ None = get-seen key_cmp_total m c.args.mark.key ∙ sym c.in-None.ensures.value in
    sym (ap is_some (get-flat (seen key_cmp m) c.args.mark ∙ ap (option_and_then (λ entry. map.get entry c.args.mark.spot)) none))
