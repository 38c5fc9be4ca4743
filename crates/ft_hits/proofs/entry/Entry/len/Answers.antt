use Rattle.std.proofs.Common.{List, sym, ap, ◌∙◌}
use Rattle.std.specs.Prelude.{ℤ}
use Rattle.std.specs.FinMap as map
use Rattle.std.specs.FinMap.{len-empty}
use Rattle.ft_hits.specs.Spots.{spot_cmp}
use Rattle.ft_hits.specs.inner.Held.{hits_held}
use Rattle.ft_hits.specs.Hits.{EntryHits}
use Rattle.ft_hits.proofs.Only.{len-only}
use Rattle.ft_hits.proofs.entry.Entry.len.Goals as goal

pub returns-in-Nothing-clause-len : goal.returns-in-Nothing-clause-len
returns-in-Nothing-clause-len c = sym (ap (λ (l : EntryHits). map.len l) (sym c.self.view_is ∙ ap hits_held c.in-Nothing.is) ∙ len-empty spot_cmp (List ℤ))

pub returns-in-One-clause-len : goal.returns-in-One-clause-len
returns-in-One-clause-len c = sym (ap (λ (l : EntryHits). map.len l) (sym c.self.view_is ∙ ap hits_held c.in-One.is) ∙ len-only c.in-One.field-0)
