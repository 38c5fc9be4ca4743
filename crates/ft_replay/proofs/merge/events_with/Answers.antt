use Rattle.std.proofs.Common.{◌≡◌, [], ap, ◌∙◌}
use Rattle.std.specs.FinMap as map
use Rattle.ft_lanes.specs.Held.{Lanes}
use Rattle.ft_maps.specs.Mapped.{entries_by}
use Rattle.ft_store.specs.Stored.{held}
use Rattle.ft_replay.specs.Chosen.{lanes_but}
use Rattle.ft_replay.specs.Merged.{merged}
use Rattle.ft_replay.specs.Named.{events_on, has_name}
use Rattle.ft_replay.proofs.Choosing.{but_none}
use Rattle.ft_replay.proofs.Placing.{if_ok}
use Rattle.ft_replay.proofs.merge.events_with.Goals as goal

pub returns : goal.returns
returns c =
    let lanes : Lanes = c.args.lanes.now in
    let same = ap (λ (l : Lanes). map.entries (events_on (has_name c.args.names) (merged l))) (but_none lanes) in
    if_ok c.events_but.result
    (λ events. entries_by held events.items ≡ map.entries (events_on (has_name c.args.names) (merged (lanes_but [] lanes))))
    (λ events. entries_by held events.items ≡ map.entries (events_on (has_name c.args.names) (merged lanes)))
    (λ _ is. is ∙ same) c.events_but.ensures
