-- What is left of the entries gives its keys.
use Rattle.std.proofs.Common.{not, refl, rules}
use Rattle.std.proofs.lemmas.Iterator.{YieldsList-from_map, YieldsList-from_take, items_from_collect}
use Rattle.std.proofs.lemmas.Iterator.Adapters.{YieldsList-from_skip}
use Rattle.std.proofs.lemmas.Iterator.Consumers.{YieldsList-at, YieldsList-from_filter, YieldsList-from_first}
use Rattle.ft_changes.specs.Rivals.{is_of}
use Rattle.ft_changes.proofs.edge.other_keys.Goals as goal

pub returns : goal.returns
returns c =
    let keys = c.args.keys.now in
    items_from_collect c.collect.result c.collect.ensures.ran
    (YieldsList-from_map _ (λ e. e.0.key)
    (YieldsList-at c.map.ensures.source (YieldsList-from_take c.args.few
    (YieldsList-at c.take.ensures.source (YieldsList-from_skip c.args.passed
    (YieldsList-at c.skip.ensures.source (YieldsList-from_filter _ (λ e. not (is_of keys e.0.key))
    (YieldsList-at c.filter.ensures.source (YieldsList-from_first (λ x. x) (λ w. w) c.args.marks refl))
    c.filter.ensures.closure (λ x b q k. search rules)))
    c.skip.ensures.count)) c.take.ensures.count))
    c.map.ensures.closure (λ x r q k. search rules))
