use Rattle.std.proofs.Common.{rules, tests}
use Rattle.std.proofs.lemmas.Iterator.{YieldsList-from_map, items_from_collect}
use Rattle.std.proofs.lemmas.Iterator.Consumers.{YieldsList-at, YieldsList-from_rest}
use Rattle.ft_summary.proofs.cpus.cpu_sums.Goals as goal

pub returns : goal.returns
returns c = items_from_collect _ c.collect.ensures.ran (YieldsList-from_map _ _ (YieldsList-at c.map.ensures.source (YieldsList-from_rest _ c.values.ensures.rest)) c.map.ensures.closure (λ x r q k. search (rules, tests)))
