-- The lines of a lane are those of its slots.
use Rattle.std.proofs.Common.{sym, ap, ◌∙◌, Some, option_map}
use Rattle.std.specs.Ordering.{nat_cmp}
use Rattle.std.specs.Cmp.{nat_cmp_total}
use Rattle.std.specs.FinMap as map
use Rattle.ft_maps.specs.Seen.{seen, get-seen}
use Rattle.ft_maps.specs.Mapped.{entries_by}
use Rattle.ft_lanes.specs.Held.{Lane, Lanes}
use Rattle.ft_store.specs.Stored.{stored_at}
use Rattle.ft_lanes.specs.inner.Slots.{SlotsOf}
use Rattle.ft_lanes.specs.Walks.{traced_line}
use Rattle.ft_lanes.proofs.Views.{lane-entries}
use Rattle.ft_lanes.proofs.Runs.{shows_in_order}
use Rattle.ft_lanes.proofs.lanes.Lanes.lane.Goals as goal

pub returns-in-Some-clause-rest : goal.returns-in-Some-clause-rest
returns-in-Some-clause-rest c =
    let at = stored_at c.self.inside.store in
    let all = seen nat_cmp c.self.inside.lanes in
    ap Some (c.new.ensures ∙ ap (entries_by at) c.rows.ensures.value)
    ∙ ap (option_map (λ (s : SlotsOf). entries_by at (map.entries s.places))) (c.in-Some.ensures.value ∙ sym (get-seen nat_cmp_total c.self.inside.lanes c.args.cpu))
    ∙ sym (lane-entries at all c.args.cpu)
    ∙ ap (λ (lanes : Lanes). option_map (λ (lane : Lane). map.entries lane.events) (map.get lanes c.args.cpu)) c.self.view_is

pub returns-in-None-clause-rest : goal.returns-in-None-clause-rest
returns-in-None-clause-rest c =
    let at = stored_at c.self.inside.store in
    let all = seen nat_cmp c.self.inside.lanes in
    ap (option_map (λ (s : SlotsOf). entries_by at (map.entries s.places))) (c.in-None.ensures.value ∙ sym (get-seen nat_cmp_total c.self.inside.lanes c.args.cpu))
    ∙ sym (lane-entries at all c.args.cpu)
    ∙ ap (λ (lanes : Lanes). option_map (λ (lane : Lane). map.entries lane.events) (map.get lanes c.args.cpu)) c.self.view_is

pub returns-in-Some-clause-runs : goal.returns-in-Some-clause-runs
returns-in-Some-clause-runs c = shows_in_order traced_line

pub returns-in-None-clause-runs : goal.returns-in-None-clause-runs
returns-in-None-clause-runs c = shows_in_order traced_line
