use Rattle.std.proofs.Common.{◌≡◌, ℕ, List, ◌∷◌, refl, sym, ap, subst, ◌∙◌}
use Rattle.std.specs.List.{AllByRecursion}
use Rattle.std.specs.Ordering.{nat_cmp}
use Rattle.std.specs.Cmp.{nat_cmp_total}
use Rattle.std.specs.FinMap as finite
use Rattle.ft_maps.specs.Seen.{seen, seen-empty, entries-seen}
use Rattle.ft_answers.specs.Base.{Base}
use Rattle.ft_watch.specs.ChangedRows.{Texts, texts_at}
use Rattle.ft_watch.specs.inner.Told.{ChangedLines, TextsById, NamesRows, with_table}
use Rattle.ft_watch.proofs.Taken.{taken, taken_more, taken_at_last, told_tables, told_more, told_at_last}
use Rattle.ft_watch.proofs.known_tables.report_all.Goals as goal

pub loop-id-init : goal.loop-id-init
loop-id-init g c =
    let base = c.args.desk.now.base in
    let gives = c.into_iter-id-iterator.ensures.into_iter_gives in
    let all : c.into_iter-id-iterator.result ≡ finite.entries (seen nat_cmp c.args.old) = gives.0 ∙ sym (entries-seen nat_cmp_total c.args.old gives.5) in
    record {
      base = refl;
      taken = ap (λ (t : TextsById). taken base t c.into_iter-id-iterator.result) (seen-empty nat_cmp c.new-now.result c.new-now.ensures.empty) ∙ ap (λ (es : List (ℕ × Texts)). taken base finite.empty es) all;
      told = ap (λ (es : List (ℕ × Texts)). told_tables base es c.args.changes) all;
      named = subst (AllByRecursion (NamesRows c.args.edited.now base)) (sym all) c.requires;
    }

pub add_changes-requires : goal.add_changes-requires
add_changes-requires g c =
    let base = c.args.desk.now.base in
    let at = c.loop-id.invariant in
    let named : AllByRecursion (NamesRows c.args.edited.now base) ((c.in-Some.id, c.in-Some.table) ∷ c.next.new.self) = subst (AllByRecursion (NamesRows c.args.edited.now base)) c.in-Some.ensures.steps at.named in
    subst (λ (b : Base). NamesRows c.args.edited.now b (c.in-Some.id, c.in-Some.table)) (sym at.base) named.0

pub loop-id-preserved : goal.loop-id-preserved
loop-id-preserved g c =
    let base = c.args.desk.now.base in
    let at = c.loop-id.invariant in
    let id = c.in-Some.id in
    let texts = c.in-Some.table in
    let rest = c.next.new.self in
    let first = c.in-Some.ensures.steps in
    let named : AllByRecursion (NamesRows c.args.edited.now base) ((id, texts) ∷ rest) = subst (AllByRecursion (NamesRows c.args.edited.now base)) first at.named in
    record {
      base = c.in_ok-told.ensures.base ∙ at.base;
      taken = taken_more base id texts c.loop-id.id-iterator rest first (seen nat_cmp c.loop-id.now) (seen nat_cmp c.put.new.map) _
          (c.in_ok-put.ensures.ok ∙ ap (finite.insert (seen nat_cmp c.loop-id.now) id) (c.in_ok-told.ensures.table ∙ ap (λ (b : Base). texts_at b id) at.base)) at.taken;
      told = told_more base id texts c.loop-id.id-iterator rest first c.loop-id.told c.in_ok-told.told _
          (c.in_ok-told.ensures.changes ∙ ap (λ (b : Base). with_table id texts (texts_at b id) c.loop-id.told) at.base) at.told;
      named = named.1;
    }

pub returns-clause-tables : goal.returns-clause-tables
returns-clause-tables g c = taken_at_last c.args.desk.now.base c.loop-id.id-iterator c.in-None.ensures.steps.0 (seen nat_cmp c.args.old) (seen nat_cmp c.loop-id.now) c.loop-id.invariant.taken

pub returns-clause-lines : goal.returns-clause-lines
returns-clause-lines g c =
    ap (λ (t : ChangedLines). t.lines) (told_at_last c.args.desk.now.base c.loop-id.id-iterator c.in-None.ensures.steps.0 (finite.entries (seen nat_cmp c.args.old)) c.loop-id.told c.args.changes c.loop-id.invariant.told)

pub returns-clause-count : goal.returns-clause-count
returns-clause-count g c =
    ap (λ (t : ChangedLines). t.count) (told_at_last c.args.desk.now.base c.loop-id.id-iterator c.in-None.ensures.steps.0 (finite.entries (seen nat_cmp c.args.old)) c.loop-id.told c.args.changes c.loop-id.invariant.told)
