use Rattle.std.proofs.Common.{◌≡◌, rules, true, false, sym, ap, ◌∙◌}
use Rattle.std.specs.Prelude.{is_some}
use Rattle.std.specs.Ordering.{eq_by_cmp}
use Rattle.std.specs.FinMap as map
use Rattle.std.specs.FinMap.{get-empty}
use Rattle.ft_hits.specs.Spots.{spot_cmp}
use Rattle.ft_hits.specs.inner.Held.{hits_held, only}
use Rattle.ft_hits.specs.Hits.{EntryHits}
use Rattle.ft_hits.proofs.Only.{has-only, remove-beside, remove-empty, remove-only}
use Rattle.ft_hits.proofs.entry.Entry.remove.Goals as goal

pub returns-in-Nothing-clause-left : goal.returns-in-Nothing-clause-left
returns-in-Nothing-clause-left c =
    let now : c.args.self.now ≡ map.empty = sym c.self.view_is ∙ ap hits_held c.in-Nothing.is in
    ap hits_held c.in-Nothing.is ∙ sym (ap (λ (l : EntryHits). map.remove l c.args.spot) now ∙ remove-empty c.args.spot)

pub returns-in-Nothing-clause-found : goal.returns-in-Nothing-clause-found
returns-in-Nothing-clause-found c = sym (ap (λ (l : EntryHits). map.contains_key l c.args.spot) (sym c.self.view_is ∙ ap hits_held c.in-Nothing.is) ∙ ap is_some (get-empty spot_cmp c.args.spot))

pub returns-then-is_ne-clause-left : goal.returns-then-is_ne-clause-left
returns-then-is_ne-clause-left c =
    let apart : eq_by_cmp spot_cmp c.args.spot c.in-One.hit.0 ≡ false = search rules in
    let now : c.args.self.now ≡ only c.in-One.hit = sym c.self.view_is ∙ ap hits_held c.in-One.is in
    sym (ap (λ (l : EntryHits). map.remove l c.args.spot) now ∙ remove-beside c.in-One.hit c.args.spot apart)

pub returns-then-is_ne-clause-found : goal.returns-then-is_ne-clause-found
returns-then-is_ne-clause-found c =
    let apart : eq_by_cmp spot_cmp c.args.spot c.in-One.hit.0 ≡ false = search rules in
    sym (ap (λ (l : EntryHits). map.contains_key l c.args.spot) (sym c.self.view_is ∙ ap hits_held c.in-One.is) ∙ has-only c.in-One.hit c.args.spot ∙ apart)

pub returns-else-is_ne-clause-left : goal.returns-else-is_ne-clause-left
returns-else-is_ne-clause-left c =
    let tie : eq_by_cmp spot_cmp c.args.spot c.in-One.hit.0 ≡ true = search rules in
    let now : c.args.self.now ≡ only c.in-One.hit = sym c.self.view_is ∙ ap hits_held c.in-One.is in
    sym (ap (λ (l : EntryHits). map.remove l c.args.spot) now ∙ remove-only c.in-One.hit c.args.spot tie)

pub returns-else-is_ne-clause-found : goal.returns-else-is_ne-clause-found
returns-else-is_ne-clause-found c =
    let tie : eq_by_cmp spot_cmp c.args.spot c.in-One.hit.0 ≡ true = search rules in
    sym (ap (λ (l : EntryHits). map.contains_key l c.args.spot) (sym c.self.view_is ∙ ap hits_held c.in-One.is) ∙ has-only c.in-One.hit c.args.spot ∙ tie)
