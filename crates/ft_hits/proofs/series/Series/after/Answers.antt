-- The first entry above a place is the first hit after it.
use Rattle.std.proofs.Common.{sym, ap, ◌∙◌, Some, None}
use Rattle.ft_hits.specs.Hits.{first_entry, hits_after}
use Rattle.ft_hits.proofs.Runs.{after-ascend, all-ascend}
use Rattle.ft_hits.proofs.series.Series.after.Goals as goal

pub returns-in-None : goal.returns-in-None
returns-in-None c =
    c.first.ensures.first ∙ all-ascend c.self.inside.hits c.first.ensures.ordered
    ∙ ap (λ h. first_entry (hits_after None h)) c.self.view_is ∙ ap (λ p. first_entry (hits_after p c.args.self.now)) (sym c.in-None.is)

pub returns-in-Some : goal.returns-in-Some
returns-in-Some c =
    c.after.ensures.after ∙ after-ascend c.in-Some.spot c.self.inside.hits c.after.ensures.ordered
    ∙ ap (λ h. first_entry (hits_after (Some c.in-Some.spot) h)) c.self.view_is ∙ ap (λ p. first_entry (hits_after p c.args.self.now)) (sym c.in-Some.is)
