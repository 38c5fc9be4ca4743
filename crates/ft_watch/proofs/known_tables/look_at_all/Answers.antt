use Rattle.std.proofs.Common.{◌≡◌, ℕ, List, refl, sym, ap, ◌∙◌}
use Rattle.std.specs.Ordering.{nat_cmp}
use Rattle.std.specs.Cmp.{nat_cmp_total}
use Rattle.std.specs.FinMap as finite
use Rattle.ft_maps.specs.Seen.{seen, seen-empty, entries-seen}
use Rattle.ft_answers.specs.Base.{Base}
use Rattle.ft_watch.specs.ChangedRows.{Texts, texts_at}
use Rattle.ft_watch.specs.inner.Told.{TextsById}
use Rattle.ft_watch.proofs.Taken.{taken, taken_more, taken_at_last}
use Rattle.ft_watch.proofs.known_tables.look_at_all.Goals as goal

pub loop-id-init : goal.loop-id-init
loop-id-init g c =
    let base = c.args.desk.now.base in
    let gives = c.into_iter-id-iterator.ensures.into_iter_gives in
    record {
      base = refl;
      taken = ap (λ (t : TextsById). taken base t c.into_iter-id-iterator.result) (seen-empty nat_cmp c.new-now.result c.new-now.ensures.empty)
          ∙ ap (λ (es : List (ℕ × Texts)). taken base finite.empty es) (gives.0 ∙ sym (entries-seen nat_cmp_total c.args.old gives.5));
    }

pub loop-id-preserved : goal.loop-id-preserved
loop-id-preserved g c =
    let base = c.args.desk.now.base in
    let at = c.loop-id.invariant in
    record {
      base = c.in_ok-look.ensures.base ∙ at.base;
      taken = taken_more base c.in-Some.id c.in-Some.table c.loop-id.id-iterator c.next.new.self c.in-Some.ensures.steps (seen nat_cmp c.loop-id.now) (seen nat_cmp c.put.new.map) _
          (c.in_ok-put.ensures.ok ∙ ap (finite.insert (seen nat_cmp c.loop-id.now) c.in-Some.id) (c.in_ok-look.ensures.table ∙ ap (λ (b : Base). texts_at b c.in-Some.id) at.base)) at.taken;
    }

pub returns-clause-tables : goal.returns-clause-tables
returns-clause-tables g c = taken_at_last c.args.desk.now.base c.loop-id.id-iterator c.in-None.ensures.steps.0 (seen nat_cmp c.args.old) (seen nat_cmp c.loop-id.now) c.loop-id.invariant.taken
