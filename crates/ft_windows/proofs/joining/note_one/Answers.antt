use Rattle.std.proofs.Common.{◌≡◌, Some, slice_get, length, refl, ap, ◌∙◌, rules, ◌&&◌, ◌||◌, nat_lt, ℤ}
use Rattle.std.proofs.lemmas.Option.{slice_get_read}
use Rattle.std.proofs.lemmas.Result.{on_ok_weaker}
use Rattle.std.specs.Ordering.{int_eq}
use Rattle.ft_pids.specs.Numbers.{number_of}
use Rattle.ft_windows.specs.Telling.{named_in, begins_before, ends_after}
use Rattle.ft_windows.proofs.Noting.{note-none, note-its}
use Rattle.ft_windows.proofs.joining.note_one.Goals as goal

pub returns-then-get-number-clause-before : goal.returns-then-get-number-clause-before
returns-then-get-number-clause-before c = λ q stamp.
    let part = c.args.part.now in
    let entry = c.index-entry.result.now in
    let at : slice_get part.entries.items c.args.number ≡ Some entry = slice_get_read part.entries.items (length part.entries.items) c.args.number entry refl c.requires c.index-entry.ensures in
    note-none (λ o. begins_before o stamp) refl (number_of part.numbers) part.entries.items c.args.number entry q (begins_before (named_in c.args.tasks.now q) stamp) at (search rules)

pub returns-clause-before : goal.returns-clause-before
returns-clause-before c =
    let part = c.args.part.now in
    let old = c.args.tasks.now in
    let entry = c.index-entry.result.now in
    let at : slice_get part.entries.items c.args.number ≡ Some entry = slice_get_read part.entries.items (length part.entries.items) c.args.number entry refl c.requires c.index-entry.ensures in
    on_ok_weaker c.note.result (λ note. λ q stamp.
    note q stamp ∙ ap (λ (p : ℤ). (int_eq p q && nat_lt entry.named.first stamp) || begins_before (named_in old q) stamp) (search rules)
    ∙ ap (λ b. b || begins_before (named_in old q) stamp) (note-its (λ o. begins_before o stamp) refl (number_of part.numbers) part.entries.items c.args.number entry q at (search rules))) c.note.ensures.before

pub returns-then-get-number-clause-after : goal.returns-then-get-number-clause-after
returns-then-get-number-clause-after c = λ q stamp.
    let part = c.args.part.now in
    let entry = c.index-entry.result.now in
    let at : slice_get part.entries.items c.args.number ≡ Some entry = slice_get_read part.entries.items (length part.entries.items) c.args.number entry refl c.requires c.index-entry.ensures in
    note-none (λ o. ends_after o stamp) refl (number_of part.numbers) part.entries.items c.args.number entry q (ends_after (named_in c.args.tasks.now q) stamp) at (search rules)

pub returns-clause-after : goal.returns-clause-after
returns-clause-after c =
    let part = c.args.part.now in
    let old = c.args.tasks.now in
    let entry = c.index-entry.result.now in
    let at : slice_get part.entries.items c.args.number ≡ Some entry = slice_get_read part.entries.items (length part.entries.items) c.args.number entry refl c.requires c.index-entry.ensures in
    on_ok_weaker c.note.result (λ note. λ q stamp.
    note q stamp ∙ ap (λ (p : ℤ). (int_eq p q && nat_lt stamp entry.named.last) || ends_after (named_in old q) stamp) (search rules)
    ∙ ap (λ b. b || ends_after (named_in old q) stamp) (note-its (λ o. ends_after o stamp) refl (number_of part.numbers) part.entries.items c.args.number entry q at (search rules))) c.note.ensures.after
