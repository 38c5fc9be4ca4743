-- The trigger that `get_mut` finds is the one that the finite map has.
use Rattle.std.proofs.Common.{◌≡◌, sym, ◌∙◌, ap, is_some, Some, None}
use Rattle.std.specs.Prelude.{option_map}
use Rattle.std.specs.Option.{option_map_or}
use Rattle.std.specs.Ordering.{nat_cmp}
use Rattle.std.specs.Cmp.{nat_cmp_total}
use Rattle.std.specs.FinMap as map
use Rattle.std.specs.FinMap.{nat_cmp-IsAntisymmetric}
use Rattle.ft_hist.specs.Hist.{Hist, with_filter}
use Rattle.ft_maps.specs.Seen.{seen, get-seen, seen-found}
use Rattle.ft_hist.proofs.triggers.set_filter.Goals as goal

pub set_filter-requires : goal.set_filter-requires
set_filter-requires c = c.requires c.in-Some.trigger.now (get-seen nat_cmp_total c.args.by_id.now c.args.id ∙ sym c.in-Some.ensures.value)

pub returns-in-Some-clause-there : goal.returns-in-Some-clause-there
returns-in-Some-clause-there c = sym (ap is_some (get-seen nat_cmp_total c.args.by_id.now c.args.id ∙ sym c.in-Some.ensures.value))

pub returns-in-Some-clause-rest : goal.returns-in-Some-clause-rest
returns-in-Some-clause-rest c =
    let m = c.args.by_id.now in
    let filter = option_map (λ f. f.tree) c.args.filter in
    let at : map.get (seen nat_cmp m) c.args.id ≡ Some c.in-Some.trigger.now = get-seen nat_cmp_total m c.args.id ∙ sym c.in-Some.ensures.value in
    seen-found nat_cmp_total nat_cmp-IsAntisymmetric m (c.get_mut.follows.lender c.set_filter.new.self) c.args.id c.in-Some.trigger.now c.set_filter.new.self c.in-Some.ensures.value (c.get_mut.follows.holds c.set_filter.new.self)
    ∙ ap (map.insert (seen nat_cmp m) c.args.id) c.set_filter.ensures
    ∙ ap (λ o. option_map_or (λ (h : Hist). map.insert (seen nat_cmp m) c.args.id (with_filter h filter)) o (seen nat_cmp m)) (sym at)

pub returns-in-None-clause-there : goal.returns-in-None-clause-there
returns-in-None-clause-there c = sym (ap is_some (get-seen nat_cmp_total c.args.by_id.now c.args.id ∙ sym c.in-None.ensures.value))

pub returns-in-None-clause-rest : goal.returns-in-None-clause-rest
returns-in-None-clause-rest c =
    let m = c.args.by_id.now in
    let filter = option_map (λ f. f.tree) c.args.filter in
    let at : map.get (seen nat_cmp m) c.args.id ≡ None = get-seen nat_cmp_total m c.args.id ∙ sym c.in-None.ensures.value in
    ap (seen nat_cmp) c.get_mut.follows.holds-at-none
    ∙ ap (λ o. option_map_or (λ (h : Hist). map.insert (seen nat_cmp m) c.args.id (with_filter h filter)) o (seen nat_cmp m)) (sym at)
