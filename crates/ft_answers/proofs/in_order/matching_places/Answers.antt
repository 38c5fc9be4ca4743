use Rattle.std.proofs.Common.{◌≡◌, Bool, List, ap, ◌∙◌}
use Rattle.std.specs.Prelude.{filter}
use Rattle.std.specs.Map.{keys_of}
use Rattle.std.specs.FinMap as map
use Rattle.ft_fields.specs.Traced.{Traced, name_of}
use Rattle.ft_fields.specs.declared.event.Name.{Name}
use Rattle.ft_fields.specs.declared.pos.Pos.{Pos}
use Rattle.ft_filter.specs.Holds.{holds}
use Rattle.ft_filter.specs.Tree.{Tree}
use Rattle.ft_maps.specs.Mapped.{entries_by}
use Rattle.ft_store.specs.Stored.{held}
use Rattle.ft_store.specs.declared.stored.Stored.{Stored}
use Rattle.ft_replay.specs.Merged.{Events, merged}
use Rattle.ft_hist.specs.Hit.{same_name}
use Rattle.ft_replay.specs.Named.{has_name}
use Rattle.ft_replay.proofs.Naming.{entries-on}
use Rattle.ft_replay.proofs.Placing.{if_ok}
use Rattle.ft_answers.specs.Places.{matching_places}
use Rattle.ft_answers.proofs.Passing.{keys-passing, passing_both}
use Rattle.ft_answers.proofs.in_order.matching_places.Goals as goal

pub returns : goal.returns
returns c =
    let events : List (Pos × Stored) = c.in_ok-events.events.items in
    let all : Events = merged c.args.lanes.now in
    let name : Name = c.args.filter.now.event in
    let tree : Tree = c.args.filter.now.tree in
    let passes : Traced → Bool = λ event. holds event tree in
    let names : has_name c.name_of.result ≡ same_name name = λ i other. c.name_of.ensures other i in
    let named : entries_by held events ≡ filter (λ (entry : Pos × Traced). same_name name (name_of entry.1.body)) (map.entries all) =
    c.in_ok-events.ensures ∙ entries-on (has_name c.name_of.result) all ∙ ap (λ (has : Name → Bool). filter (λ (entry : Pos × Traced). has (name_of entry.1.body)) (map.entries all)) names in
    if_ok c.passing.result (λ found. found.items ≡ keys_of (filter (λ (entry : Pos × Stored). passes (held entry.1)) c.deref.result.now)) (λ found. found.items ≡ matching_places c.args.lanes.now name tree)
    (λ _ is. is ∙ ap (λ (es : List (Pos × Stored)). keys_of (filter (λ (entry : Pos × Stored). passes (held entry.1)) es)) c.deref.ensures.value
    ∙ keys-passing held passes events
    ∙ ap (λ (es : List (Pos × Traced)). keys_of (filter (λ (entry : Pos × Traced). passes entry.1) es)) named
    ∙ ap (λ (es : List (Pos × Traced)). keys_of es) (passing_both (λ (entry : Pos × Traced). same_name name (name_of entry.1.body)) (λ (entry : Pos × Traced). passes entry.1) (map.entries all))) c.passing.ensures
