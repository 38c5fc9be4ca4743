-- The reading's trigger has a shelf, which is written back.
use Rattle.std.proofs.Common.{◌≡◌, Some, OnOk, sym, ap, ◌∙◌}
use Rattle.std.specs.FinMap as map
use Rattle.std.specs.Option.{option_copied_mut}
use Rattle.std.proofs.lemmas.Result.{on_ok_weaker}
use Rattle.ft_shelves.specs.Shelves.{Readings}
use Rattle.ft_kept.specs.Views.{triggers_of}
use Rattle.ft_kept.proofs.Settled.{IsWritten, is_written, settled, under_its_key, reads_shelved, reads_attached}
use Rattle.ft_kept.proofs.Forms.{read_by}
use Rattle.ft_kept.proofs.Shelving.{lent_was, put_back}
use Rattle.ft_kept.proofs.settle.settle.Goals as goal

pub returns-in_default : goal.returns-in_default
returns-in_default c = absurd (reads_attached (triggers_of c.args.scene.now) c.args.reading.now c.args.tables.now c.requires (sym c.in_default.ensures))

pub returns-in_default-shelf_mut : goal.returns-in_default-shelf_mut
returns-in_default-shelf_mut c = absurd (reads_shelved (triggers_of c.args.scene.now) c.args.reading.now c.args.tables.now c.requires (sym c.shelf_mut.ensures.value ∙ ap option_copied_mut c.in_default-shelf_mut.is))

-- the shelf is written back
written : (c : goal.After-tables-2-1) → OnOk c.put_found.result (IsWritten (triggers_of c.args.scene.now) c.args.reading.now c.finds-found.result c.args.tables.now (c.shelf_mut.follows.lender c.put_found.new.shelf))
written c =
    let reading = c.args.reading.now in
    let old = c.args.tables.now in
    let after = c.put_found.new.shelf in
    let new = c.shelf_mut.follows.lender after in
    on_ok_weaker c.put_found.result (is_written (triggers_of c.args.scene.now) reading c.finds-found.result old new c.in-Some.trigger.now c.in-Some-shelf_mut.shelf.now after (sym c.in-Some.ensures)
    (put_back reading.at.trigger old c.shelf_mut.result c.in-Some-shelf_mut.shelf c.in-Some-shelf_mut.is c.shelf_mut.ensures.value new after (c.shelf_mut.follows.holds after)) c.requires c.finds-found.ensures) c.put_found.ensures.reread

pub returns-clause-settled : goal.returns-clause-settled
returns-clause-settled c = on_ok_weaker c.put_found.result (settled (triggers_of c.args.scene.now) c.args.reading.now c.finds-found.result c.args.tables.now (c.shelf_mut.follows.lender c.put_found.new.shelf)) (written c)

pub returns-clause-told : goal.returns-clause-told
returns-clause-told c =
    let at = c.args.reading.now.at in
    let old = c.args.tables.now in
    let found = c.finds-found.result in
    let shelf = c.in-Some-shelf_mut.shelf.now in
    let was : map.get old at.trigger ≡ Some shelf = lent_was at.trigger old c.shelf_mut.result c.in-Some-shelf_mut.shelf c.in-Some-shelf_mut.is c.shelf_mut.ensures.value in
    let had = c.copied.ensures ∙ c.get-2.ensures ∙ ap (λ (r : Readings). map.get r at.pos) c.readings.ensures ∙ sym (read_by old at.trigger (Some shelf) was at.pos) in
    on_ok_weaker c.put_found.result (λ w.
    under_its_key (triggers_of c.args.scene.now) c.args.reading.now found old (c.shelf_mut.follows.lender c.put_found.new.shelf) w
    (record { id = at.trigger; pos = at.pos; before = c.copied.result; after = found }) (λ i. record { id = at.trigger; pos = at.pos; before = had i; after = found })
    c.args.readings.now c.add.new.self c.add.ensures) (written c)
