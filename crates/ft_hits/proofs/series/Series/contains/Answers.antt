use Rattle.std.proofs.Common.{◌≡◌, sym, ap, ◌∙◌, arith}
use Rattle.std.specs.Prelude.{is_some}
use Rattle.std.specs.FinMap as map
use Rattle.std.specs.FinMap.{find}
use Rattle.ft_blocks.specs.Seen.{get-found}
use Rattle.ft_hits.specs.Spots.{spot_cmp, spot_cmp_total}
use Rattle.ft_hits.proofs.series.Series.contains.Goals as goal

pub returns : goal.returns
returns c =
    let here : c.is_some.result ≡ is_some (find spot_cmp c.args.spot c.self.inside.hits) = grind (arith, c.is_some.ensures, c.get.ensures) in
    here ∙ sym (ap is_some (get-found spot_cmp_total c.self.inside.hits c.args.spot)) ∙ ap (λ l. map.contains_key l c.args.spot) c.self.view_is
