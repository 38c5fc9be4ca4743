use Rattle.std.proofs.Common.{sym, ap, ◌∙◌}
use Rattle.std.specs.FinMap as map
use Rattle.ft_hits.specs.inner.Held.{hits_held}
use Rattle.ft_hits.specs.Hits.{EntryHits, least_key}
use Rattle.ft_hits.proofs.Only.{first-empty, first-only}
use Rattle.ft_hits.proofs.entry.Entry.first.Goals as goal

pub returns-in-Nothing : goal.returns-in-Nothing
returns-in-Nothing c = sym (ap (λ (l : EntryHits). least_key (map.entries l)) (sym c.self.view_is ∙ ap hits_held c.in-Nothing.is) ∙ first-empty)

pub returns-in-One : goal.returns-in-One
returns-in-One c = sym (ap (λ (l : EntryHits). least_key (map.entries l)) (sym c.self.view_is ∙ ap hits_held c.in-One.is) ∙ first-only c.in-One.hit)
