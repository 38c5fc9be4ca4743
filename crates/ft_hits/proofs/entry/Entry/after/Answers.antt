use Rattle.std.proofs.Common.{◌≡◌, true, false, sym, ap, ◌∙◌}
use Rattle.ft_hits.specs.inner.Held.{hits_held}
use Rattle.ft_hits.specs.Hits.{EntryHits, first_entry, hits_after, is_after}
use Rattle.ft_hits.proofs.Only.{after-empty, after-only}
use Rattle.ft_hits.proofs.entry.Entry.after.Goals as goal

pub returns-in-Nothing : goal.returns-in-Nothing
returns-in-Nothing c = sym (ap (λ (l : EntryHits). first_entry (hits_after c.args.place l)) (sym c.self.view_is ∙ ap hits_held c.in-Nothing.is) ∙ after-empty c.args.place)

pub returns-then-is_after : goal.returns-then-is_after
returns-then-is_after c =
    let yes_after : is_after c.args.place c.in-One.hit.0 ≡ true = sym c.is_after.ensures ∙ c.if-is_after.true in
    sym (ap (λ (l : EntryHits). first_entry (hits_after c.args.place l)) (sym c.self.view_is ∙ ap hits_held c.in-One.is) ∙ after-only c.args.place c.in-One.hit true yes_after)

pub returns-else-is_after : goal.returns-else-is_after
returns-else-is_after c =
    let not_after : is_after c.args.place c.in-One.hit.0 ≡ false = sym c.is_after.ensures ∙ c.if-is_after.false in
    sym (ap (λ (l : EntryHits). first_entry (hits_after c.args.place l)) (sym c.self.view_is ∙ ap hits_held c.in-One.is) ∙ after-only c.args.place c.in-One.hit false not_after)
