-- Each turn goes from a mark to the one before it.
use Rattle.std.proofs.Common.{◌≡◌, ℕ, zero, suc, ◌+◌, ◌-◌, ◌<◌, List, [], ◌∷◌, length, sym, ap, ◌∙◌, arith, Some, None, Option}
use Rattle.std.specs.Prelude.{slice_get}
use Rattle.std.specs.Map.{keys_of}
use Rattle.std.proofs.lemmas.Option.{get_or_from_slice_get, none-some}
use Rattle.ft_hits.specs.declared.mark.Mark.{Mark}
use Rattle.ft_hits.specs.Marks.{mark_cmp, mark_cmp_total}
use Rattle.ft_table.specs.inner.Ascending.{Rises, IsRank}
use Rattle.ft_table.specs.inner.Ordered.{place_before}
use Rattle.ft_table.proofs.AtEdge.{rank_at}
use Rattle.ft_table.proofs.Orders.{rises_in}
use Rattle.ft_table.proofs.order.back.Goals as goal
use Rattle.ft_table.proofs.order.back.Goals.{in-Some, in-None}

step_back : (ks : List Mark) (t n : ℕ) (m : Mark) (earlier : Option Mark) → Rises mark_cmp ks → t < length ks → t ≡ n + 1 → Some m ≡ slice_get ks t → ((r : ℕ) → IsRank mark_cmp ks m r → earlier ≡ place_before ks r) → earlier ≡ slice_get ks n
step_back ks zero n m earlier rises lt on is found = absurd (omega (arith, on))
step_back ks (suc t) n m earlier rises lt on is found =
    let same : t ≡ n = omega (arith, on) in
    found (suc t) (rank_at ks m (suc t) rises lt (λ d. get_or_from_slice_get ks (suc t) m d (sym is))) ∙ ap (slice_get ks) same

some_at : (ks : List Mark) (t : ℕ) → t < length ks → None ≡ slice_get ks t → ⊥
some_at [] t lt is = omega (arith, lt)
some_at (k ∷ ks) zero lt is = none-some k is
some_at (k ∷ ks) (suc t) lt is = some_at ks t (omega (arith, lt)) is

pub loop-preserved : goal.loop-preserved
loop-preserved c i many within from =
    let ks : List Mark = keys_of c.args.marks.now in
    let before = c.loop.invariant i many within from in
    let turn = c.loop-test.true in
    let n : ℕ = i - (c.loop.counter + 1) in
    let on : i - c.loop.counter ≡ n + 1 = omega (arith, turn, many) in
    elim c.match-mark.branch [
      | in-Some w ↦ w.mark-is ∙ step_back ks (i - c.loop.counter) n w.in-Some.mark w.before-mark.result (rises_in mark_cmp_total c.args.marks.now c.requires.ascend) (omega (arith, within)) on (sym w.in-Some.is ∙ before) w.before-mark.ensures
      | in-None w ↦ absurd (some_at ks (i - c.loop.counter) (omega (arith, within)) (sym w.in-None.is ∙ before))
    ]
