use Rattle.std.proofs.Common.{◌≡◌, ℕ, ◌+◌, List, [], ◌∷◌, drop, get_or, sym, ap, ◌∙◌}
use Rattle.std.specs.Prelude.{ℤ}
use Rattle.std.specs.Option.{option_or}
use Rattle.std.specs.FinMap as map
use Rattle.std.specs.FinMap.{find}
use Rattle.ft_hits.specs.declared.spot.Spot.{Spot}
use Rattle.ft_hits.specs.Spots.{spot_cmp}
use Rattle.ft_hits.specs.Hits.{EntryHits}
use Rattle.ft_hits.proofs.Runs.{next_hit, none_left, all-left, none-left, skips, takes}
use Rattle.ft_hits.proofs.series.one_by_one.Goals as goal
use Rattle.ft_hits.proofs.series.one_by_one.Goals.{then-not-contains+in_ok-insert, else-not-contains}

pub loop-hit-init : goal.loop-hit-init
loop-hit-init c = all-left c.args.run.now c.new-series.result c.new-series.ensures

pub loop-hit-preserved : goal.loop-hit-preserved
loop-hit-preserved c q =
    let run : List (Spot × List ℤ) = c.args.run.now in
    let i : ℕ = c.loop-hit.hit-index in
    let hit : Spot × List ℤ = get_or run i (record { pos = record { stamp = 0; cpu = 0; line = 0 }; maker = 0 }, []) in
    let left : drop i run ≡ hit ∷ drop (i + 1) run = next_hit run i _ c.loop-hit-test.true in
    let before : option_or (map.get c.loop-hit.series q) (find spot_cmp q (hit ∷ drop (i + 1) run)) ≡ find spot_cmp q run =
    ap (λ es. option_or (map.get c.loop-hit.series q) (find spot_cmp q es)) (sym left) ∙ c.loop-hit.invariant q in
    elim c.if-not-contains.branch [
      | then-not-contains+in_ok-insert w ↦
          ap (λ (h : EntryHits). option_or (map.get h q) (find spot_cmp q (drop (i + 1) run))) (w.series-is ∙ w.in_ok-insert.ensures.ok)
          ∙ takes c.loop-hit.series hit (drop (i + 1) run) q (sym c.contains.ensures ∙ w.if-not-contains.true) ∙ before
      | else-not-contains w ↦
          ap (λ (h : EntryHits). option_or (map.get h q) (find spot_cmp q (drop (i + 1) run))) w.series-is
          ∙ skips c.loop-hit.series hit (drop (i + 1) run) q (sym c.contains.ensures ∙ w.if-not-contains.false) ∙ before
    ]

pub returns : goal.returns
returns c =
    let run : List (Spot × List ℤ) = c.args.run.now in
    let left : drop c.loop-hit.hit-index run ≡ [] = none_left run c.loop-hit.hit-index c.loop-hit-test.false in
    none-left run c.loop-hit.series (λ q. ap (λ es. option_or (map.get c.loop-hit.series q) (find spot_cmp q es)) (sym left) ∙ c.loop-hit.invariant q)
