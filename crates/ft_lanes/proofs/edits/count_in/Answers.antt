use Rattle.std.proofs.Common.{sym, ◌∙◌, ap}
use Rattle.std.specs.Option.{option_map_or}
use Rattle.std.specs.Cmp.{nat_cmp_total}
use Rattle.std.specs.FinMap as map
use Rattle.ft_maps.specs.Seen.{get-seen}
use Rattle.ft_lanes.specs.inner.Slots.{SlotsOf}
use Rattle.ft_lanes.proofs.edits.count_in.Goals as goal

pub returns-in-Some : goal.returns-in-Some
returns-in-Some c = c.len.ensures ∙ sym (ap (λ o. option_map_or (λ (slots : SlotsOf). map.len slots.places) o 0) (get-seen nat_cmp_total c.args.lanes.now c.args.cpu ∙ sym c.in-Some.ensures.value))

pub returns-in-None : goal.returns-in-None
returns-in-None c = sym (ap (λ o. option_map_or (λ (slots : SlotsOf). map.len slots.places) o 0) (get-seen nat_cmp_total c.args.lanes.now c.args.cpu ∙ sym c.in-None.ensures.value))
