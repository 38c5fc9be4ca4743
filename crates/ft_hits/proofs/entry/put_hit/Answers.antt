-- The entry that `get_mut` finds is the one that the finite map has.
use Rattle.std.proofs.Common.{◌≡◌, sym, ◌∙◌, ap, unwrap_or, Some, None}
use Rattle.std.specs.Prelude.{option_and_then}
use Rattle.std.specs.FinMap as map
use Rattle.std.specs.FinMap.{get-empty}
use Rattle.ft_hits.specs.Spots.{spot_cmp}
use Rattle.std.proofs.lemmas.Result.{on_ok_weaker, on_err_weaker}
use Rattle.ft_fields.specs.Parts.{key_cmp}
use Rattle.ft_maps.specs.Seen.{seen, get-seen, seen-insert, seen-found, seen-kept}
use Rattle.ft_hits.specs.ByKey.{flat}
use Rattle.ft_fields.specs.Orders.{key_cmp_total}
use Rattle.ft_fields.specs.Ties.{key_same}
use Rattle.ft_hits.proofs.Flat.{get-flat, flat-insert}
use Rattle.ft_hits.proofs.entry.put_hit.Goals as goal

pub returns-in-Some-clause-ok : goal.returns-in-Some-clause-ok
returns-in-Some-clause-ok c =
    let m = c.args.by_key.now in
    let key = c.args.mark.key in
    let at : map.get (seen key_cmp m) key ≡ Some c.in-Some.entry.now = get-seen key_cmp_total m key ∙ sym c.in-Some.ensures.value in
    on_ok_weaker c.insert.result (λ e.
    ap flat (seen-found key_cmp_total key_same m (c.get_mut.follows.lender c.insert.new.self) key c.in-Some.entry.now c.insert.new.self c.in-Some.ensures.value (c.get_mut.follows.holds c.insert.new.self)
    ∙ ap (map.insert (seen key_cmp m) key) (e ∙ ap (λ o. map.insert (unwrap_or o map.empty) c.args.mark.spot c.args.values) (sym at)))
    ∙ flat-insert (seen key_cmp m) c.args.mark c.args.values) c.insert.ensures.ok

pub returns-in-Some-clause-err : goal.returns-in-Some-clause-err
returns-in-Some-clause-err c =
    on_err_weaker c.insert.result (λ e.
    ap flat (seen-kept key_cmp_total key_same c.args.by_key.now (c.get_mut.follows.lender c.insert.new.self) c.args.mark.key c.in-Some.entry.now c.insert.new.self c.in-Some.ensures.value (c.get_mut.follows.holds c.insert.new.self) e)) c.insert.ensures.err

pub returns-clause-ok : goal.returns-clause-ok
returns-clause-ok c =
    let m = c.args.by_key.now in
    let key = c.args.mark.key in
    let at : map.get (seen key_cmp m) key ≡ None = get-seen key_cmp_total m key ∙ sym c.in_default.ensures.value in
    let entry = c.in_ok-insert.ensures.ok ∙ ap (λ l. map.insert l c.args.mark.spot c.args.values) c.new-entry.ensures in
    ap flat (seen-insert key_cmp_total key_same c.get_mut.follows.lender-at-none c.insert-3.new.self key c.insert-2.new.self c.in_ok-insert-2.ensures.updates.0
    ∙ ap (λ n. map.insert (seen key_cmp n) key c.insert-2.new.self) c.get_mut.follows.holds-at-none
    ∙ ap (map.insert (seen key_cmp m) key) (entry ∙ ap (λ o. map.insert (unwrap_or o map.empty) c.args.mark.spot c.args.values) (sym at)))
    ∙ flat-insert (seen key_cmp m) c.args.mark c.args.values

pub insert-requires : goal.insert-requires
insert-requires c =
    let m = c.args.by_key.now in
    let at : map.get (seen key_cmp m) c.args.mark.key ≡ Some c.in-Some.entry.now = get-seen key_cmp_total m c.args.mark.key ∙ sym c.in-Some.ensures.value in
    sym (ap (option_and_then (λ entry. map.get entry c.args.mark.spot)) at) ∙ sym (get-flat (seen key_cmp m) c.args.mark) ∙ c.requires

pub insert-requires-2 : goal.insert-requires-2
insert-requires-2 c = ap (λ l. map.get l c.args.mark.spot) c.new-entry.ensures ∙ get-empty spot_cmp c.args.mark.spot
