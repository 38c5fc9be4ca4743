use Rattle.std.proofs.Common.{rules, ◌≡◌, List, [], sym, ap, subst, ◌∙◌, arith, IsPermutation}
use Rattle.std.specs.Prelude.{filter}
use Rattle.std.specs.List.{flat_map}
use Rattle.std.specs.FinMap as map
use Rattle.std.proofs.lemmas.List.Sorted.{IsPermutation-refl, IsPermutation-trans, IsPermutation-map}
use Rattle.ft_fields.specs.Traced.{Traced, name_of}
use Rattle.ft_fields.specs.declared.pos.Pos.{Pos}
use Rattle.ft_lanes.specs.Held.{Lanes}
use Rattle.ft_maps.specs.Mapped.{entries_by}
use Rattle.ft_store.specs.Stored.{held}
use Rattle.ft_store.specs.declared.stored.Stored.{Stored}
use Rattle.ft_replay.specs.Chosen.{lanes_but}
use Rattle.ft_replay.specs.Merged.{placed}
use Rattle.ft_replay.specs.Named.{has_name}
use Rattle.ft_replay.specs.inner.Rests.{entries_left, listed_and_left, traced_entry}
use Rattle.ft_replay.proofs.Naming.{has_one, none_left}
use Rattle.ft_replay.proofs.Placing.{in_order}
use Rattle.ft_replay.proofs.merge.events_but.Goals as goal

pub returns-then-are_none : goal.returns-then-are_none
returns-then-are_none c =
    let names = has_name c.args.names in
    let lanes : Lanes = lanes_but c.args.but.now c.args.lanes.now in
    let all : List (Pos × Traced) = flat_map placed (map.entries lanes) in
    let none : filter (has_one names) all ≡ [] = none_left (has_one names) all (λ entry. c.are_none.ensures c.if-are_none.true (name_of entry.1.body)) in
    let empty : c.new.result.items ≡ [] = search rules in
    ap (entries_by held) empty ∙ in_order names lanes held [] (subst (λ (es : List (Pos × Traced)). IsPermutation es []) (sym none) (IsPermutation-refl [])) (λ k d low high. absurd (omega arith))

pub returns : goal.returns
returns c =
    let names = has_name c.args.names in
    let lanes : Lanes = lanes_but c.args.but.now c.args.lanes.now in
    let all : List (Pos × Traced) = flat_map placed (map.entries lanes) in
    let first : List (Pos × Traced) = entries_left c.in_ok-rests.rests.rests.items in
    let last : List (List (Pos × Traced)) = c.walk.new.rests.rests.items in
    let pushed : List (Pos × Stored) = c.push_rests.new.events.items in
    let begin : listed_and_left c.args.names c.new-ordered.result.events.items first ≡ filter (has_one names) all =
    ap (λ (es : List (Pos × Stored)). listed_and_left c.args.names es first) c.new-ordered.ensures ∙ ap (filter (has_one names)) c.in_ok-rests.ensures in
    let end : entries_by held pushed ≡ listed_and_left c.args.names c.walk.new.ordered.events.items (entries_left last) =
    c.in_ok-push_rests.ensures
    ∙ ap (λ (es : List (Pos × Stored)). listed_and_left c.args.names es (entries_left c.into_rests.result.items)) c.into_events-events.ensures
    ∙ ap (λ (rests : List (List (Pos × Traced))). listed_and_left c.args.names c.walk.new.ordered.events.items (entries_left rests)) c.into_rests.ensures in
    let moved : IsPermutation (filter (has_one names) all) (entries_by held pushed) =
    subst (λ (es : List (Pos × Traced)). IsPermutation es (entries_by held pushed)) begin
    (subst (IsPermutation (listed_and_left c.args.names c.new-ordered.result.events.items first)) (sym end) c.in_ok-walk.ensures) in
    in_order names lanes held c.sort_by_place.new.events.items
    (IsPermutation-trans _ _ _ moved (IsPermutation-map traced_entry pushed c.sort_by_place.new.events.items c.in_ok-sort_by_place.ensures.permutation))
    c.in_ok-sort_by_place.ensures.sorted
