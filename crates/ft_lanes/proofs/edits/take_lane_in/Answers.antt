use Rattle.std.proofs.Common.{sym, ◌∙◌, ap, ◌+◌, Some, option_map, unwrap_or}
use Rattle.std.specs.Ordering.{nat_cmp}
use Rattle.std.specs.Cmp.{nat_cmp_total}
use Rattle.std.specs.FinMap as map
use Rattle.std.specs.FinMap.{nat_cmp-IsAntisymmetric}
use Rattle.ft_maps.specs.Seen.{seen, get-seen, seen-remove}
use Rattle.ft_lanes.specs.inner.Slots.{SlotsOf, slots_in}
use Rattle.ft_lanes.proofs.Counts.{slots-unloaded}
use Rattle.ft_lanes.proofs.edits.take_lane_in.Goals as goal

pub returns-in-Some-clause-value : goal.returns-in-Some-clause-value
returns-in-Some-clause-value c =
    ap Some c.len.ensures ∙ sym (ap (option_map (λ (s : SlotsOf). map.len s.places)) (get-seen nat_cmp_total c.args.lanes.now c.args.cpu ∙ sym c.in-Some.ensures.value))

pub returns-in-Some-clause-rest : goal.returns-in-Some-clause-rest
returns-in-Some-clause-rest c = seen-remove nat_cmp_total nat_cmp-IsAntisymmetric c.args.lanes.now c.remove.new.self c.args.cpu c.remove.ensures.updates.0

pub returns-in-None-clause-value : goal.returns-in-None-clause-value
returns-in-None-clause-value c = sym (ap (option_map (λ (s : SlotsOf). map.len s.places)) (get-seen nat_cmp_total c.args.lanes.now c.args.cpu ∙ sym c.in-None.ensures.value))

pub returns-in-None-clause-rest : goal.returns-in-None-clause-rest
returns-in-None-clause-rest c = seen-remove nat_cmp_total nat_cmp-IsAntisymmetric c.args.lanes.now c.remove.new.self c.args.cpu c.remove.ensures.updates.0

pub returns-in-Some-clause-count : goal.returns-in-Some-clause-count
returns-in-Some-clause-count c =
    slots-unloaded (seen nat_cmp c.args.lanes.now) c.args.cpu
    ∙ (λ i. slots_in (sym (returns-in-Some-clause-rest c) i) + unwrap_or (sym (returns-in-Some-clause-value c) i) 0)
