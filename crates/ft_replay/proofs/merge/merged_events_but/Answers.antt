use Rattle.std.proofs.Common.{◌≡◌, Bool, ap, sym, ◌∙◌}
use Rattle.std.specs.FinMap as map
use Rattle.ft_fields.specs.declared.event.Name.{Name}
use Rattle.ft_maps.specs.Mapped.{entries_by}
use Rattle.ft_store.specs.Stored.{held}
use Rattle.ft_base.specs.Base.{Triggers}
use Rattle.ft_replay.specs.Chosen.{lanes_but}
use Rattle.ft_replay.specs.Merged.{Events, merged}
use Rattle.ft_replay.specs.Named.{named, events_on, has_name}
use Rattle.ft_replay.proofs.Naming.{named-on}
use Rattle.ft_replay.proofs.Placing.{if_ok}
use Rattle.ft_replay.proofs.merge.merged_events_but.Goals as goal

pub returns : goal.returns
returns c =
    let triggers : Triggers = c.args.triggers.now in
    let left : Events = merged (lanes_but c.args.but.now c.args.lanes.now) in
    let same = ap (λ (names : Name → Bool). map.entries (events_on names left)) (λ i name. c.of.ensures name i) ∙ ap (λ (m : Events). map.entries m) (sym (named-on triggers left)) in
    if_ok c.events_but.result
    (λ events. entries_by held events.items ≡ map.entries (events_on (has_name c.of.result) left))
    (λ events. entries_by held events.items ≡ map.entries (named triggers left))
    (λ _ is. is ∙ same) c.events_but.ensures
