-- Each event of the run gives its save.
use Rattle.std.proofs.Common.{Bor, List, sym, ap, ◌∙◌, rules}
use Rattle.std.proofs.lemmas.Iterator.{YieldsList-from_map, YieldsList-from_slice, items_from_collect}
use Rattle.std.proofs.lemmas.Iterator.Consumers.{YieldsList-at}
use Rattle.std.proofs.lemmas.Result.{IfOk-weaker}
use mathlib.Core.List.{map-map}
use Rattle.ft_fields.specs.declared.pos.Pos.{Pos}
use Rattle.ft_pairs.specs.declared.at.At.{At}
use Rattle.ft_pairs.specs.declared.at.Op.{Op}
use Rattle.ft_pairs.specs.declared.at.Op.TheVariants.{Save}
use Rattle.ft_store.specs.declared.stored.Stored.{Stored}
use Rattle.ft_shelves.specs.inner.Joining.{saves_of_run}
use Rattle.ft_shelves.proofs.joining.saves_of.Goals as goal

pub returns : goal.returns
returns c =
    let id = c.args.joining.now.id in
    let run : List (Bor (Pos × Stored)) = c.run-run.result.now in
    let save : Bor (Pos × Stored) → At × Op = λ e. (record { pos = e.now.0; trigger = id }, Save) in
    IfOk-weaker c.collect.result _ _ (λ saves made. made ∙ sym (map-map _ _ run) ∙ ap (saves_of_run id) c.run-run.ensures)
    (items_from_collect c.collect.result c.collect.ensures.ran
    (YieldsList-from_map _ save (YieldsList-at c.map.ensures.source (YieldsList-from_slice run c.iter.ensures.rest)) c.map.ensures.closure (λ x r q k. search rules)))
