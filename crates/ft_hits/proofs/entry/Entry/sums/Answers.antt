use Rattle.std.proofs.Common.{sym, ap, ◌∙◌}
use Rattle.ft_hits.specs.inner.Held.{hits_held}
use Rattle.ft_hits.specs.Hits.{sums_of}
use Rattle.ft_hits.proofs.Only.{sums-empty}
use Rattle.ft_hits.proofs.entry.Entry.sums.Goals as goal

pub returns-in-Nothing : goal.returns-in-Nothing
returns-in-Nothing c = sym (ap sums_of (sym c.self.view_is ∙ ap hits_held c.in-Nothing.is) ∙ sums-empty)
