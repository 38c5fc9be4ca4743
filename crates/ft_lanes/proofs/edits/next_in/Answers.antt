use Rattle.std.proofs.Common.{sym, ◌∙◌, ap, unwrap_or}
use Rattle.std.specs.Cmp.{nat_cmp_total}
use Rattle.ft_maps.specs.Seen.{get-seen}
use Rattle.ft_lanes.specs.inner.Slots.{no_slots}
use Rattle.ft_lanes.proofs.edits.next_in.Goals as goal

pub returns-in-Some : goal.returns-in-Some
returns-in-Some c = c.next.ensures.value ∙ sym (ap (λ o. (unwrap_or o no_slots).next) (get-seen nat_cmp_total c.args.lanes.now c.args.cpu ∙ sym c.in-Some.ensures.value))

pub returns-in-None : goal.returns-in-None
returns-in-None c = sym (ap (λ o. (unwrap_or o no_slots).next) (get-seen nat_cmp_total c.args.lanes.now c.args.cpu ∙ sym c.in-None.ensures.value))
