use Rattle.std.proofs.Common.{◌≡◌, List, ap, ◌∙◌}
use Rattle.std.specs.FinMap as map
use Rattle.ft_fields.specs.Traced.{Traced, name_of}
use Rattle.ft_fields.specs.declared.pos.Pos.{Pos}
use Rattle.ft_maps.specs.Mapped.{entries_by}
use Rattle.ft_store.specs.Stored.{held}
use Rattle.ft_store.specs.declared.stored.Stored.{Stored}
use Rattle.ft_replay.specs.Merged.{Events, merged}
use Rattle.ft_replay.specs.Named.{has_name}
use Rattle.ft_replay.proofs.Naming.{entries-on}
use Rattle.ft_replay.proofs.Placing.{if_ok}
use Rattle.ft_dispatch.specs.Dispatches.{dispatches}
use Rattle.ft_held_waits.specs.Held.{acts_of_entries, dispatches_held}
use Rattle.ft_held_waits.proofs.Ordered.{all_left}
use Rattle.ft_held_waits.proofs.held.held_dispatches.Goals as goal

pub returns : goal.returns
returns c =
    let events : List (Pos × Stored) = c.in_ok-events.events.items in
    let all : Events = merged c.args.lanes.now in
    let every : entries_by held events ≡ map.entries all =
    c.in_ok-events.ensures ∙ entries-on (has_name c.all.result) all ∙ all_left _ (map.entries all) (λ entry. c.all.ensures (name_of entry.1.body)) in
    if_ok c.dispatches_of.result (λ told. told.items ≡ dispatches (acts_of_entries (entries_by held c.deref.result.now))) (λ told. told.items ≡ dispatches_held c.args.lanes.now)
    (λ _ is. is ∙ ap (λ (es : List (Pos × Stored)). dispatches (acts_of_entries (entries_by held es))) c.deref.ensures.value ∙ ap (λ (es : List (Pos × Traced)). dispatches (acts_of_entries es)) every) c.dispatches_of.ensures
