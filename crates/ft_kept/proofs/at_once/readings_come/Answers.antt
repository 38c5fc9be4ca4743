-- The reads of all groups stand among the operations on what is read, and the hits of those that find something on the reader's shelf.
use Rattle.std.proofs.Common.{sym, ap, ◌∙◌, is_some, true≢false}
use Rattle.std.specs.Option.{option_copied_mut}
use Rattle.ft_kept.proofs.AtOnce.{reader_forms, reader_kept, swap_empty, swap_only}
use Rattle.ft_kept.proofs.Forms.{shelf_stays}
use Rattle.ft_kept.proofs.Shelving.{lent_was, put_back}
use Rattle.ft_kept.proofs.at_once.readings_come.Goals as goal

pub join_reading-requires-clause-empty : goal.join_reading-requires-clause-empty
join_reading-requires-clause-empty c =
    let id = c.args.joining.now.id in
    let lacks = c.swap_ops-ops.new.self in
    swap_empty c.args.saver c.new.result c.args.tables.now lacks c.swap_ops-ops.ensures.swapped id c.in-Some.shelf.now c.requires.joins.bare
    (lent_was id lacks c.shelf_mut.result c.in-Some.shelf c.in-Some.is c.shelf_mut.ensures.value)

pub returns-in-None-clause-joined : goal.returns-in-None-clause-joined
returns-in-None-clause-joined c =
    let id = c.args.joining.now.id in
    let old = c.args.tables.now in
    let there = shelf_stays old c.swap_ops-ops.new.self (swap_only c.args.saver c.new.result old c.swap_ops-ops.new.self c.swap_ops-ops.ensures.swapped).forms id ∙ c.requires.joins.shelved.each id ∙ ap is_some c.requires.joins.attached in
    absurd (true≢false (sym there ∙ ap is_some (sym c.shelf_mut.ensures.value ∙ ap option_copied_mut c.in-None.is)))

pub returns-clause-joined : goal.returns-clause-joined
returns-clause-joined c =
    let joining = c.args.joining.now in
    let id = joining.id in
    let saver = c.args.saver in
    let old = c.args.tables.now in
    let lacks = c.swap_ops-ops.new.self in
    let after = c.join_reading.new.self in
    let joined = c.shelf_mut.follows.lender after in
    let new = c.swap_ops.new.self in
    let w = put_back id lacks c.shelf_mut.result c.in-Some.shelf c.in-Some.is c.shelf_mut.ensures.value joined after (c.shelf_mut.follows.holds after) in
    let saved = c.requires.joins.shelved.savers id saver c.requires.role in
    let had = c.swap_ops-ops.ensures.had saved in
    record {
      forms = reader_forms joining.triggers.now joining.trigger.now id saver joining.groups.now c.new.result c.swap_ops-ops.result c.join_reading.new.ops old lacks joined new c.in-Some.shelf.now after c.requires.role c.requires.joins.bare saved
          c.swap_ops-ops.ensures.swapped had w.was w.is w.others c.in_ok-join_reading-in-Some.ensures.ok c.swap_ops.ensures.swapped;
      right = reader_kept joining.triggers.now joining.trigger.now id saver joining.groups.now c.new.result c.swap_ops-ops.result c.join_reading.new.ops old lacks joined new c.in-Some.shelf.now after c.requires.role c.requires.joins.bare saved
          c.swap_ops-ops.ensures.swapped had w.was w.is w.others c.in_ok-join_reading-in-Some.ensures.ok c.swap_ops.ensures.swapped c.requires.joins.attached;
    }
