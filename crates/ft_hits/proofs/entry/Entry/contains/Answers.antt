use Rattle.std.proofs.Common.{◌≡◌, rules, sym, ap, ◌∙◌}
use Rattle.std.specs.Prelude.{is_some}
use Rattle.std.specs.Ordering.{eq_by_cmp}
use Rattle.std.specs.FinMap as map
use Rattle.std.specs.FinMap.{get-empty}
use Rattle.ft_hits.specs.Spots.{spot_cmp}
use Rattle.ft_hits.specs.inner.Held.{hits_held}
use Rattle.ft_hits.specs.Hits.{EntryHits}
use Rattle.ft_hits.proofs.Only.{has-only}
use Rattle.ft_hits.proofs.entry.Entry.contains.Goals as goal

pub returns-in-Nothing : goal.returns-in-Nothing
returns-in-Nothing c = sym (ap (λ (l : EntryHits). map.contains_key l c.args.spot) (sym c.self.view_is ∙ ap hits_held c.in-Nothing.is) ∙ ap is_some (get-empty spot_cmp c.args.spot))

pub returns-in-One : goal.returns-in-One
returns-in-One c =
    let tie : c.is_eq.result ≡ eq_by_cmp spot_cmp c.args.spot c.in-One.hit.0 = search rules in
    tie ∙ sym (ap (λ (l : EntryHits). map.contains_key l c.args.spot) (sym c.self.view_is ∙ ap hits_held c.in-One.is) ∙ has-only c.in-One.hit c.args.spot)
