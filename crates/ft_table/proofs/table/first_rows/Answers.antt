-- Each of the first entries gives the row of its key.
use Rattle.std.proofs.Common.{refl, rules}
use Rattle.std.proofs.lemmas.Iterator.{YieldsList-from_map, YieldsList-from_take, items_from_collect}
use Rattle.std.proofs.lemmas.Iterator.Consumers.{YieldsList-at, YieldsList-from_first}
use Rattle.ft_table.specs.Rows.{counted_row}
use Rattle.ft_table.proofs.table.first_rows.Goals as goal

pub returns : goal.returns
returns c =
    items_from_collect c.collect.result c.collect.ensures.ran
    (YieldsList-from_map _ (λ e. counted_row c.args.hits.now e.0.key)
    (YieldsList-at c.map.ensures.source (YieldsList-from_take c.args.count (YieldsList-at c.take.ensures.source (YieldsList-from_first (λ x. x) (λ w. w) c.args.marks refl)) c.take.ensures.count))
    c.map.ensures.closure (λ x r q k. search rules))
