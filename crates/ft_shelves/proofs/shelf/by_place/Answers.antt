-- Of readings at one place the last is kept.
use Rattle.std.proofs.Common.{◌∙◌}
use Rattle.std.specs.BTreeMap as tree
use Rattle.std.proofs.lemmas.Result.{IfOk-weaker}
use Rattle.std.proofs.lemmas.Iterator.Adapters.{YieldsList-from_vec, fact_from_collect}
use Rattle.ft_fields.specs.Places.{pos_cmp, pos_cmp_total}
use Rattle.ft_maps.specs.Seen.{get-seen}
use Rattle.ft_shelves.proofs.shelf.by_place.Goals as goal

pub returns : goal.returns
returns c =
    IfOk-weaker c.collect.result (tree.IsFromIterResult pos_cmp c.args.readings.items) _ (λ m made pos. get-seen pos_cmp_total m pos ∙ made.0 pos)
    (fact_from_collect (tree.IsFromIterResult pos_cmp) c.collect.result c.collect.ensures.ran (YieldsList-from_vec c.args.readings.items c.into_iter.ensures.rest (c.into_iter.ensures.len ∙ c.args.readings.ok.0)))
