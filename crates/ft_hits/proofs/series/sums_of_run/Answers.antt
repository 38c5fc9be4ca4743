use Rattle.std.proofs.Common.{◌≡◌, ℕ, ◌+◌, ◌%◌, ◌^◌, true, List, [], ◌∷◌, drop, get_or, sym, ap, ◌∙◌, arith, Some, None}
use Rattle.std.specs.Prelude.{ℤ, ◌&&◌}
use Rattle.ft_blocks.specs.Sorted.{Ascend}
use Rattle.std.proofs.lemmas.Int.{to_z-of_z}
use Rattle.ft_hits.specs.declared.spot.Spot.{Spot}
use Rattle.ft_hits.specs.Spots.{spot_cmp}
use Rattle.ft_hits.specs.Hits.{is_after, unsigned_at}
use Rattle.ft_hits.proofs.Runs.{rises, rises-ascend, sums_behind, sums-run, next_hit, none_left}
use Rattle.ft_hits.proofs.series.sums_of_run.Goals as goal

pub loop-hit-preserved : goal.loop-hit-preserved
loop-hit-preserved c =
    let run : List (Spot × List ℤ) = c.args.run.now in
    let i : ℕ = c.loop-hit.hit-index in
    let hit : Spot × List ℤ = get_or run i (record { pos = record { stamp = 0; cpu = 0; line = 0 }; maker = 0 }, []) in
    let left : drop i run ≡ hit ∷ drop (i + 1) run = next_hit run i _ c.loop-hit-test.true in
    let after : is_after c.loop-hit.before hit.0 ≡ true = sym c.is_after.ensures ∙ c.if-not-is_after.false in
    let e0 : c.added.result ≡ (get_or c.loop-hit.sums 0 0 + unsigned_at 0 hit.1) % 2 ^ 64 = grind (arith, to_z-of_z, c.added.ensures) in
    let e1 : c.added-in-loop-hit.result ≡ (get_or c.loop-hit.sums 1 0 + unsigned_at 1 hit.1) % 2 ^ 64 = grind (arith, to_z-of_z, c.added-in-loop-hit.ensures) in
    let e2 : c.added-in-loop-hit-2.result ≡ (get_or c.loop-hit.sums 2 0 + unsigned_at 2 hit.1) % 2 ^ 64 = grind (arith, to_z-of_z, c.added-in-loop-hit-2.ensures) in
    record {
      rise = ap (λ b. b && rises (Some hit.0) (drop (i + 1) run)) (sym after) ∙ ap (rises c.loop-hit.before) (sym left) ∙ c.loop-hit.invariant.rise;
      sums = (λ k. sums_behind (e0 k ∷ e1 k ∷ e2 k ∷ []) (drop (i + 1) run)) ∙ ap (sums_behind c.loop-hit.sums) (sym left) ∙ c.loop-hit.invariant.sums;
    }

pub returns-clause-rise : goal.returns-clause-rise
returns-clause-rise c =
    let left : drop c.loop-hit.hit-index c.args.run.now ≡ [] = none_left c.args.run.now c.loop-hit.hit-index c.loop-hit-test.false in
    rises-ascend None c.args.run.now (sym c.loop-hit.invariant.rise ∙ ap (rises c.loop-hit.before) left)

pub returns-clause-sums : goal.returns-clause-sums
returns-clause-sums c =
    let left : drop c.loop-hit.hit-index c.args.run.now ≡ [] = none_left c.args.run.now c.loop-hit.hit-index c.loop-hit-test.false in
    let up : Ascend spot_cmp c.args.run.now = rises-ascend None c.args.run.now (sym c.loop-hit.invariant.rise ∙ ap (rises c.loop-hit.before) left) in
    ap (sums_behind c.loop-hit.sums) (sym left) ∙ c.loop-hit.invariant.sums ∙ sums-run c.args.run.now up
