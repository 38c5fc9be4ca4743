-- What the reading had is taken, and what it finds is put.
use Rattle.std.proofs.Common.{◌≡◌, Option, sym, ap, subst, ◌∙◌}
use Rattle.std.specs.FinMap as map
use Rattle.std.proofs.lemmas.Result.{on_ok_weaker}
use Rattle.ft_fields.specs.declared.pos.Pos.{Pos}
use Rattle.ft_hits.specs.declared.spot.Spot.{Spot}
use Rattle.ft_table.specs.Values.{values_at}
use Rattle.ft_shelves.specs.Edits.{with_hit_on, without_hit_on}
use Rattle.ft_shelves.specs.Shelves.{Shelved}
use Rattle.ft_kept.specs.inner.Readings.{IsReread}
use Rattle.ft_kept.specs.inner.Edits.{mark_at}
use Rattle.ft_kept.proofs.Settled.{cleared, filled, is_cleared, is_filled, traced_hit}
use Rattle.ft_kept.proofs.settle.put_found.Goals as goal

pub returns-in-None-clause-reread : goal.returns-in-None-clause-reread
returns-in-None-clause-reread c =
    let reading = c.args.reading.now in
    let shelf = c.args.shelf.now in
    let clear : c.take_hit.new.self ≡ cleared reading c.args.trigger.now shelf = c.take_hit.ensures ∙ ap (λ (spot : Spot). without_hit_on (record { spot = spot; key = reading.variable.key }) shelf) c.traced-spot.ensures in
    subst (λ (x : Option Pos × Shelved). IsReread reading c.args.trigger.now x.0 shelf x.1) (λ i. (sym c.in-None.is i, sym clear i)) (is_cleared reading c.args.trigger.now shelf)

pub put_hit-requires : goal.put_hit-requires
put_hit-requires c =
    let reading = c.args.reading.now in
    let hist = c.args.trigger.now in
    let shelf = c.args.shelf.now in
    let clear : c.take_hit.new.self ≡ cleared reading hist shelf = c.take_hit.ensures ∙ ap (λ (spot : Spot). without_hit_on (record { spot = spot; key = reading.variable.key }) shelf) c.traced-spot.ensures in
    ap (λ (s : Shelved). map.get s.table.hits (record { spot = c.hit_with-hit.result.spot; key = c.hit_with-hit.result.key })) clear
    ∙ ap (λ h. map.get (cleared reading hist shelf).table.hits (record { spot = h.spot; key = h.key })) (traced_hit hist reading.event.now reading.variable.key c.args.found c.traced-spot.result c.hit_with-hit.result reading.at.pos c.hit_with-hit.ensures c.traced-spot.ensures)
    ∙ (is_cleared reading hist shelf).changes.hit

pub returns-in-Some-clause-reread : goal.returns-in-Some-clause-reread
returns-in-Some-clause-reread c =
    let reading = c.args.reading.now in
    let hist = c.args.trigger.now in
    let shelf = c.args.shelf.now in
    let clear : c.take_hit.new.self ≡ cleared reading hist shelf = c.take_hit.ensures ∙ ap (λ (spot : Spot). without_hit_on (record { spot = spot; key = reading.variable.key }) shelf) c.traced-spot.ensures in
    on_ok_weaker c.put_hit.result (λ is.
    let fill : c.put_hit.new.self ≡ filled reading hist shelf c.in-Some.field-0 =
    is ∙ ap (λ h. with_hit_on (record { spot = h.spot; key = h.key }) h.values c.args.found c.take_hit.new.self)
    (traced_hit hist reading.event.now reading.variable.key c.args.found c.traced-spot.result c.hit_with-hit.result reading.at.pos c.hit_with-hit.ensures c.traced-spot.ensures)
    ∙ (λ i. with_hit_on (mark_at reading.at.pos reading.variable.key) (values_at hist reading.at.pos reading.event.now (c.in-Some.is i)) (c.in-Some.is i) (clear i)) in
    subst (λ (x : Option Pos × Shelved). IsReread reading hist x.0 shelf x.1) (λ i. (sym c.in-Some.is i, sym fill i)) (is_filled reading hist shelf c.in-Some.field-0)) c.put_hit.ensures.ok
