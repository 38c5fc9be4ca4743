-- The slots that `get_mut` finds are those that the finite map has.
use Rattle.std.proofs.Common.{◌≡◌, ◌+◌, sym, ◌∙◌, ap, Some, None}
use Rattle.std.specs.Prelude.{option_and_then}
use Rattle.std.specs.Option.{option_map_or, option_len}
use Rattle.std.specs.Ordering.{nat_cmp}
use Rattle.std.specs.Cmp.{nat_cmp_total}
use Rattle.std.specs.FinMap as map
use Rattle.std.specs.FinMap.{nat_cmp-IsAntisymmetric}
use Rattle.ft_maps.specs.Seen.{seen, get-seen, seen-found}
use Rattle.ft_lanes.specs.inner.Slots.{SlotsOf, slots_without, slots_in}
use Rattle.ft_lanes.proofs.Counts.{slots-without}
use Rattle.ft_lanes.proofs.edits.take_in.Goals as goal

pub returns-in-Some-clause-value : goal.returns-in-Some-clause-value
returns-in-Some-clause-value c =
    c.take.ensures.value ∙ sym (ap (option_and_then (λ (s : SlotsOf). map.get s.places c.args.line)) (get-seen nat_cmp_total c.args.lanes.now c.args.cpu ∙ sym c.in-Some.ensures.value))

pub returns-in-Some-clause-rest : goal.returns-in-Some-clause-rest
returns-in-Some-clause-rest c =
    let m = c.args.lanes.now in
    let at : map.get (seen nat_cmp m) c.args.cpu ≡ Some c.in-Some.slots.now = get-seen nat_cmp_total m c.args.cpu ∙ sym c.in-Some.ensures.value in
    seen-found nat_cmp_total nat_cmp-IsAntisymmetric m (c.get_mut.follows.lender c.take.new.self) c.args.cpu c.in-Some.slots.now c.take.new.self c.in-Some.ensures.value (c.get_mut.follows.holds c.take.new.self)
    ∙ ap (map.insert (seen nat_cmp m) c.args.cpu) c.take.ensures.rest
    ∙ ap (λ o. option_map_or (λ (s : SlotsOf). map.insert (seen nat_cmp m) c.args.cpu (slots_without s c.args.line)) o (seen nat_cmp m)) (sym at)

pub returns-in-None-clause-value : goal.returns-in-None-clause-value
returns-in-None-clause-value c = sym (ap (option_and_then (λ (s : SlotsOf). map.get s.places c.args.line)) (get-seen nat_cmp_total c.args.lanes.now c.args.cpu ∙ sym c.in-None.ensures.value))

pub returns-in-None-clause-rest : goal.returns-in-None-clause-rest
returns-in-None-clause-rest c =
    let m = c.args.lanes.now in
    let at : map.get (seen nat_cmp m) c.args.cpu ≡ None = get-seen nat_cmp_total m c.args.cpu ∙ sym c.in-None.ensures.value in
    ap (seen nat_cmp) c.get_mut.follows.holds-at-none
    ∙ ap (λ o. option_map_or (λ (s : SlotsOf). map.insert (seen nat_cmp m) c.args.cpu (slots_without s c.args.line)) o (seen nat_cmp m)) (sym at)

pub returns-in-Some-clause-count : goal.returns-in-Some-clause-count
returns-in-Some-clause-count c =
    slots-without (seen nat_cmp c.args.lanes.now) c.args.cpu c.args.line
    ∙ (λ i. slots_in (sym (returns-in-Some-clause-rest c) i) + option_len (sym (returns-in-Some-clause-value c) i))
