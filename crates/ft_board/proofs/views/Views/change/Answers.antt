use Rattle.std.proofs.Common.{⊎_elim, Bor, Option, Some, None, refl, sym, ap, subst, ◌∙◌, ◌≡◌}
use Rattle.std.specs.Prelude.{option_and_then}
use Rattle.std.specs.Option.{IfSome, option_and, option_copied}
use Rattle.std.proofs.lemmas.Option.{IfSome_then}
use Rattle.ft_answers.specs.Reporting.{IsMadeReport}
use Rattle.ft_repair.specs.OneEvent.{ChangeCosts, events_after}
use Rattle.ft_board.proofs.Changes.{after_among, can_change, edit_reported, kept_after, kept_before, plain_of}
use Rattle.ft_board.proofs.Reports.{repairs_reported, told_made}
use Rattle.ft_board.proofs.MadeShelves.{if_left, mended_if}
use Rattle.ft_board.proofs.Makers.{nothing_if}
use Rattle.ft_base.specs.Base.{Base}
use Rattle.ft_board.specs.inner.Readings.{readings_on}
use Rattle.ft_board.specs.inner.Views.{made_in}
use Rattle.ft_kept.specs.Shelves.{Shelves}
use Rattle.ft_made.specs.MadeTables.{found_in}
use Rattle.ft_replay.specs.Merged.{merged}
use Rattle.ft_board.proofs.views.Views.change.Goals as goal

-- if the first option is there, it is the second
both_there : {X Y : Type 0} (first : Option (Bor X)) (second : Option Y) → option_and first second ≡ option_and_then (λ (_ : X). second) (option_copied first)
both_there None second = refl
both_there (Some x) second = refl

pub mend-kept-requires : goal.mend-kept-requires
mend-kept-requires c =
    can_change c.args.sign c.args.content.now c.args.pos c.kept_shelves.ensures.readings c.args.self.now c.requires.before c.let_change.new.kept c.let_change.ensures.deferred
    c.changes_to_report.result (record c.changes_to_report.result { keys = c.new.result }) c.let_change.new.changes (ap (λ keys. record c.changes_to_report.result { keys = keys }) c.new.ensures)
    c.changes_to_report.ensures.readings c.let_change.ensures.told

pub returns-clause-after : goal.returns-clause-after
returns-clause-after c =
    let base : Base = c.args.content.now in
    mended_if c.kept_shelves.ensures.readings base.triggers (events_after c.args.sign (merged base.lanes) c.args.pos) (merged base.lanes) (after_among c.args.sign (merged base.lanes) c.args.pos)
    c.let_change.new.kept c.mend-kept.new.self.shelves (made_in c.mend-kept.new.self) c.mend-kept.ensures.shelves c.let_change.ensures.kept c.mend-kept.ensures.made

pub returns-clause-costs : goal.returns-clause-costs
returns-clause-costs c none =
    subst (ChangeCosts c.args.sign c.args.content.now c.args.pos c.args.event.now c.args.self.now.work) (sym ((c.mend-kept.ensures.nothing none).1 ∙ c.made_rows-made.ensures.nothing none)) c.let_change.ensures.costs

-- if no reading changed, mending takes no memory
pub returns-clause-now : goal.returns-clause-now
returns-clause-now c small gone =
    let none = c.let_change.ensures.quiet (plain_of c.args.sign c.args.content.now.triggers c.args.event.now small) in
    c.let_change.ensures.now small (⊎_elim
    (λ some. c.mend-kept.ensures.quiet (none ∙ some) gone)
    (λ unasked. sym (c.mend-kept.ensures.nothing (nothing_if _ unasked.1)).0 ∙ gone)
    c.changes_to_report.ensures.readings)

pub returns-clause-reports : goal.returns-clause-reports
returns-clause-reports c edit its =
    let base : Base = c.args.content.now in
    let later : Option Shelves = c.let_change.new.kept in
    let mended : Option Shelves = c.mend-kept.new.self.shelves in
    let made = c.and.ensures ∙ both_there c.as_ref.result c.made_rows-made.result ∙ ap (option_and_then (λ (_ : Shelves). c.made_rows-made.result)) c.as_ref.ensures.value in
    let can = if_left _ later mended c.mend-kept.ensures.shelves (can_change c.args.sign base c.args.pos c.kept_shelves.ensures.readings c.args.self.now c.requires.before later c.let_change.ensures.deferred
    c.changes_to_report.result (record c.changes_to_report.result { keys = c.new.result }) c.let_change.new.changes (ap (λ keys. record c.changes_to_report.result { keys = keys }) c.new.ensures)
    c.changes_to_report.ensures.readings c.let_change.ensures.told) in (
      (
        IfSome_then c.report.result c.report.ensures.rows (λ rows by. edit_reported c.args.sign base c.args.pos edit its
            (repairs_reported c.kept_shelves.ensures.tally c.made_counters.ensures.first c.reported_rows.ensures.others c.reported_rows.ensures.once c.reported_rows.ensures.two c.reported_rows.ensures.reader)
            c.args.self.now c.requires.before later mended c.mend-kept.ensures.shelves
            c.let_change.ensures.kept c.let_change.ensures.deferred c.let_change.ensures.forms (record c.changes_to_report.result { keys = c.new.result }) c.let_change.new.changes c.new.ensures c.let_change.ensures.told rows.items by),
        c.report.ensures.none,
      ),
      (
        subst (λ o. IfSome o (λ rows. IsMadeReport edit.old edit.new rows.items)) (sym made)
            (told_made c.made_tables.ensures.tally edit.old base edit.new (sym its.same_before) (its.same_after ∙ sym its.same_before) c.made_rows-made.result (λ rows. rows.items)
            c.args.self.now.shelves mended (made_in c.args.self.now) (made_in c.mend-kept.new.self)
            (kept_before c.args.sign base c.args.pos edit its c.args.self.now c.requires.before).1 (λ none. c.mend-kept.ensures.ends.1.0 (c.let_change.ensures.deferred none))
            (kept_after c.args.sign base c.args.pos edit its c.mend-kept.new.self (returns-clause-after c)).1 c.mend-kept.ensures.made
            (IfSome_then mended can (λ shelves is. c.made_rows-made.ensures.rows (found_in (readings_on shelves)) is))),
        (λ none. made ∙ ap (option_and_then (λ (_ : Shelves). c.made_rows-made.result)) none),
      ),
    )
