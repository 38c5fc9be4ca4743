-- The last read before the next one is the one that was looked up before it.
use Rattle.std.proofs.Common.{◌≡◌, ℕ, ◌+◌, ◌<◌, ◌≤◌, suc, List, length, get_or, sym, ap, subst, ◌∙◌, arith, None, Option}
use Rattle.std.specs.FinMap as map
use Rattle.std.proofs.lemmas.List.{get_or_default, length_push}
use Rattle.ft_pairs.specs.declared.at.At.{At}
use Rattle.ft_pairs.specs.Source.{Ops}
use Rattle.ft_pairs.specs.inner.Met.{FindFirst}
use Rattle.ft_pairs.specs.inner.Sides.{both, IsLast, IsLastOf}
use Rattle.ft_pairs.proofs.Beside as beside
use Rattle.ft_pairs.proofs.Beside.{last_next}
use Rattle.ft_pairs.proofs.Runs.{each_found, found_next, none_first}
use Rattle.ft_pairs.proofs.sequence.sources_in_turn.Goals as goal

pub loop-at-init : goal.loop-at-init
loop-at-init c =
    let reads : List At = c.args.reads.now in (
      ap length c.in_ok-found.ensures.items,
      λ own keys up. (
        subst (FindFirst (map.get (both c.args.saves.now own)) reads) (sym c.in_ok-found.ensures.items) (none_first (map.get (both c.args.saves.now own)) reads),
        λ d lt. subst (λ (l : List At). IsLastOf own (get_or l 0 d) None) keys (beside.none_first own up d (omega (arith, lt, ap length keys))),
      ),
    )

pub loop-at-preserved : goal.loop-at-preserved
loop-at-preserved c =
    let reads : List At = c.args.reads.now in
    let i : ℕ = c.loop-at.at-index in
    let none : At = record { pos = record { stamp = 0; cpu = 0; line = 0 }; trigger = 0 } in
    let read : At = get_or reads i none in
    let found : List (Option At) = c.loop-at.found.items in
    let len : length found ≡ i = c.loop-at.invariant.0 in
    let lt : i < length reads = c.loop-at-test.true in
    let more : length found < length reads = omega (arith, len, lt) in
    let pushed = c.in_ok-push.ensures.items in
    let next : i + 1 ≡ suc i = omega arith in (
      omega (arith, length_push found c.source_after.result, len, ap length pushed),
      λ own keys up.
          let ops : Ops = map.get (both c.args.saves.now own) in
          let before = c.loop-at.invariant.1 own keys up in (
            subst (FindFirst ops reads) (sym pushed)
                (found_next ops reads found read c.source_after.result more (get_or_default reads i none read lt ∙ ap (λ (k : ℕ). get_or reads k read) (sym len))
                (c.source_after.ensures own (before.1 none lt)) before.0),
            λ d lt2. subst (λ (k : ℕ). IsLast own (get_or reads k d) read) (sym next)
                (subst (λ (l : List At). IsLast own (get_or l (suc i) d) (get_or l i none)) keys (last_next own up i d none (omega (arith, lt2, ap length keys)))),
          ),
    )

pub returns : goal.returns
returns c own keys up =
    let reads : List At = c.args.reads.now in
    let found : List (Option At) = c.loop-at.found.items in
    let all : length reads ≤ length found = omega (arith, c.loop-at.invariant.0, c.loop-at-test.false) in
    each_found (map.get (both c.args.saves.now own)) reads found all (c.loop-at.invariant.1 own keys up).0
