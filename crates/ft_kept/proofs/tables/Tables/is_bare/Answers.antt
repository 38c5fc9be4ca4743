-- If there is no shelf, or one with nothing on it, nothing is kept.
use Rattle.std.proofs.Common.{refl, sym, ap, ◌∙◌}
use Rattle.ft_pairs.specs.ByKey.{OpsByKey, ops_of}
use Rattle.ft_table.specs.Tabled.{Tabled}
use Rattle.ft_kept.proofs.Bare.{bare_none, bare_shelf}
use Rattle.ft_kept.proofs.tables.Tables.is_bare.Goals as goal

pub returns-in_default : goal.returns-in_default
returns-in_default c = λ yes. bare_none c.args.self.now c.args.id (sym c.in_default.ensures)

pub returns-in-Plain : goal.returns-in-Plain
returns-in-Plain c = λ yes. bare_shelf c.args.self.now c.args.id c.in-Some.shelf.now (sym c.in-Some.ensures) (ap (λ (t : Tabled). t.hits) (sym c.table.ensures) ∙ c.if-is_empty.ensures.0 yes)
    (λ saves. absurd (cc (c.in-Plain.ensures ∙ saves)))
    (λ saver other reads. absurd (cc (c.in-Plain.ensures ∙ reads)))

pub returns-in-Saves : goal.returns-in-Saves
returns-in-Saves c = λ yes. bare_shelf c.args.self.now c.args.id c.in-Some.shelf.now (sym c.in-Some.ensures) (ap (λ (t : Tabled). t.hits) (sym c.table.ensures) ∙ c.if-is_empty.ensures.0 refl)
    (λ saves key at. ap (λ (ops : OpsByKey). ops_of ops key at) (sym c.ops.ensures) ∙ c.is_empty-in-Saves.ensures yes key at)
    (λ saver other reads. absurd (cc (c.in-Saves.ensures ∙ reads)))

pub returns-in-Reads : goal.returns-in-Reads
returns-in-Reads c = λ yes. bare_shelf c.args.self.now c.args.id c.in-Some.shelf.now (sym c.in-Some.ensures) (ap (λ (t : Tabled). t.hits) (sym c.table.ensures) ∙ c.if-is_empty.ensures.0 refl)
    (λ saves. absurd (cc (c.in-Reads.ensures ∙ saves)))
    (λ saver other own reads. c.is_only_reader.ensures yes other (reads ∙ sym (c.in-Reads.ensures ∙ own)))
