use Rattle.std.proofs.Common.{◌≡◌, List, refl, sym, ap, subst, ◌∙◌, Option, ℕ}
use Rattle.std.specs.Prelude.{option_map}
use Rattle.std.specs.Option.{option_copied}
use Rattle.std.specs.FinMap as finite
use Rattle.ft_fields.specs.declared.key.Part.{Part}
use Rattle.ft_fields.specs.Parts.{key_cmp}
use Rattle.ft_maps.specs.Seen.{seen}
use Rattle.ft_answers.specs.Base.{Base}
use Rattle.ft_watch.specs.ChangedRows.{Texts, texts_at}
use Rattle.ft_watch.specs.inner.Told.{ChangedLines, with_row, with_text}
use Rattle.ft_watch.proofs.Rows.{Telling, telling_all, telling_more, telling_none}
use Rattle.ft_watch.proofs.known_rows.KnownRows.add_named.Goals as goal

pub loop-key-init : goal.loop-key-init
loop-key-init g c =
    let before = c.args.self.now in
    let now = texts_at c.args.desk.now.base c.args.id in
    let keys = seen key_cmp c.args.keys.now in
    record {
      base = refl;
      telling = subst (λ (es : List (List Part × Unit {0})). Telling c.args.id before now keys es before c.args.changes c.args.changes)
          (sym (c.into_iter-key-iterator.ensures.into_iter_gives ∙ c.entries-key-items.ensures.rest)) (telling_all c.args.id before now keys c.requires c.args.changes);
    }

pub loop-key-preserved : goal.loop-key-preserved
loop-key-preserved g c =
    let before = c.args.self.now in
    let base = c.args.desk.now.base in
    let now = texts_at base c.args.id in
    let keys = seen key_cmp c.args.keys.now in
    let e : List Part × Unit {0} = (c.in-Some.key.now, c.in-Some._mark.now) in
    let rest = c.next.new.self in
    let at = c.loop-key.invariant in
    let told = subst (λ (es : List (List Part × Unit {0})). Telling c.args.id before now keys es c.loop-key.self c.loop-key.told c.args.changes) c.in-Some.ensures.steps at.telling in
    let row = c.in_ok-now.ensures.row ∙ ap (λ (b : Base). finite.get (texts_at b c.args.id) e.0) at.base in
    let more = telling_more c.args.id before now keys e rest c.loop-key.self c.loop-key.told c.args.changes told in
    let line : c.in_ok-told.told ≡ with_row c.args.id (finite.get c.loop-key.self e.0) (finite.get now e.0) c.loop-key.told =
    c.in_ok-told.ensures
    ∙ ap (λ (o : Option (List ℕ)). with_row c.args.id o (option_copied c.as_deref.result) c.loop-key.told) c.text_of.ensures
    ∙ ap (λ (o : Option (List ℕ)). with_row c.args.id (finite.get c.loop-key.self e.0) o c.loop-key.told) (c.as_deref.ensures.value ∙ row) in
    let table : c.set.new.self ≡ with_text e.0 (finite.get now e.0) c.loop-key.self =
    c.in_ok-set.ensures ∙ ap (λ (o : Option (List ℕ)). with_text e.0 o c.loop-key.self) row in
    record {
      base = c.in_ok-now.ensures.base ∙ at.base;
      telling = subst (λ (t : Texts). Telling c.args.id before now keys rest t c.in_ok-told.told c.args.changes) (sym table)
          (subst (λ (t : ChangedLines). Telling c.args.id before now keys rest (with_text e.0 (finite.get now e.0) c.loop-key.self) t c.args.changes) (sym line) more);
    }

pub returns-clause-table : goal.returns-clause-table
returns-clause-table g c =
    (telling_none c.args.id c.args.self.now (texts_at c.args.desk.now.base c.args.id) (seen key_cmp c.args.keys.now) c.loop-key.key-iterator c.loop-key.self c.loop-key.told c.args.changes
    c.in-None.ensures.steps.0 c.requires c.loop-key.invariant.telling).0

pub returns-clause-changes : goal.returns-clause-changes
returns-clause-changes g c =
    (telling_none c.args.id c.args.self.now (texts_at c.args.desk.now.base c.args.id) (seen key_cmp c.args.keys.now) c.loop-key.key-iterator c.loop-key.self c.loop-key.told c.args.changes
    c.in-None.ensures.steps.0 c.requires c.loop-key.invariant.telling).1
