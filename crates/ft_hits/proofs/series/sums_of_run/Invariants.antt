-- What is left of the run rises from the last spot, and has the sums after those so far.
use Rattle.std.proofs.Common.{◌≡◌, [], ◌∷◌, drop, None}
use Rattle.ft_hits.proofs.Runs.{rises, sums_behind}
use Rattle.ft_hits.proofs.series.sums_of_run.Given as goal

abbrev pub invariant-loop-hit : goal.invariant-loop-hit
invariant-loop-hit l = record {
  rise : rises l.before (drop l.hit-index l.run) ≡ rises None l.run;
  sums : sums_behind l.sums (drop l.hit-index l.run) ≡ sums_behind (0 ∷ 0 ∷ 0 ∷ []) l.run;
}
