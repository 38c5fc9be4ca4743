use Rattle.std.proofs.Common.{◌≡◌, List, ap, sym, ◌∙◌}
use Rattle.std.specs.Map.{keys_of}
use Rattle.std.specs.FinMap as map
use Rattle.std.proofs.lemmas.Map.Made.{keys_of-map_values}
use Rattle.ft_fields.specs.Traced.{Traced, name_of}
use Rattle.ft_fields.specs.declared.pos.Pos.{Pos}
use Rattle.ft_maps.specs.Mapped.{entries_by}
use Rattle.ft_store.specs.Stored.{held}
use Rattle.ft_store.specs.declared.stored.Stored.{Stored}
use Rattle.ft_replay.specs.Merged.{Events, merged}
use Rattle.ft_replay.specs.Named.{has_name}
use Rattle.ft_replay.proofs.Naming.{entries-on}
use Rattle.ft_replay.proofs.Placing.{if_ok}
use Rattle.ft_answers.specs.Places.{places}
use Rattle.ft_answers.proofs.Passing.{all_left}
use Rattle.ft_answers.proofs.in_order.places.Goals as goal

pub returns : goal.returns
returns c =
    let events : List (Pos × Stored) = c.in_ok-events.events.items in
    let all : Events = merged c.args.lanes.now in
    let every : entries_by held events ≡ map.entries all =
    c.in_ok-events.ensures ∙ entries-on (has_name c.all.result) all ∙ all_left _ (map.entries all) (λ entry. c.all.ensures (name_of entry.1.body)) in
    if_ok c.places_of.result (λ found. found.items ≡ keys_of c.deref.result.now) (λ found. found.items ≡ places c.args.lanes.now)
    (λ _ is. is ∙ ap (λ (es : List (Pos × Stored)). keys_of es) c.deref.ensures.value ∙ sym (keys_of-map_values held events) ∙ ap (λ (es : List (Pos × Traced)). keys_of es) every) c.places_of.ensures
