-- The first of the entries is the first hit.
use Rattle.std.proofs.Common.{ap, ◌∙◌}
use Rattle.std.specs.FinMap as map
use Rattle.ft_hits.specs.Hits.{least_key}
use Rattle.ft_hits.proofs.Runs.{least-none, least-some}
use Rattle.ft_hits.proofs.series.Series.first.Goals as goal

pub returns-in-None : goal.returns-in-None
returns-in-None c =
    least-none c.self.inside.hits c.in-None.ensures.ordered c.in-None.ensures.first ∙ ap (λ h. least_key (map.entries h)) c.self.view_is

pub returns-in-Some : goal.returns-in-Some
returns-in-Some c =
    least-some c.self.inside.hits (c.in-Some.spot, c.in-Some.field-0-1) c.in-Some.ensures.ordered c.in-Some.ensures.first
    ∙ ap (λ h. least_key (map.entries h)) c.self.view_is
