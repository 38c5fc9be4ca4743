-- What is passed is struck, and the first other row is the first held one.
use Rattle.std.proofs.Common.{◌≡◌, ℕ, List, [], ◌∷◌, refl, sym, ap, ◌∙◌, cond, not, length, arith}
use Rattle.std.proofs.lemmas.Bool.{eq-eqb}
use Rattle.ft_lanes.specs.inner.Rows.{held_rows, struck_place}
use Rattle.ft_lanes.proofs.RowLines.{held-ne}
use Rattle.ft_lanes.proofs.rows.next_held.Goals as goal

pub returns-then-row : goal.returns-then-row
returns-then-row c =
    let row = c.in-Some.row.now in
    let behind = held_rows c.in-Some.behind.now in
    sym c.loop-row.invariant ∙ ap held_rows c.in-Some.ensures.cases.0 ∙ ap (λ b. cond b (row ∷ behind) behind) (held-ne row.1 c.if-row.true)

pub loop-row-smaller : goal.loop-row-smaller
loop-row-smaller c = omega (arith, c.in-Some.ensures.cases.1)

pub loop-row-preserved : goal.loop-row-preserved
loop-row-preserved c =
    let row = c.in-Some.row.now in
    let behind = held_rows c.in-Some.behind.now in
    sym (sym c.loop-row.invariant ∙ ap held_rows c.in-Some.ensures.cases.0 ∙ ap (λ b. cond b (row ∷ behind) behind) (ap not (eq-eqb row.1 struck_place c.if-row.false)))

none_left : (rows : List (ℕ × ℕ)) → length rows ≡ 0 → held_rows rows ≡ []
none_left [] e = refl
none_left (row ∷ rows) e = absurd (omega (arith, e))

pub returns : goal.returns
returns c =
    let none = none_left c.loop-row.rows.now c.in_default.ensures.cases in
    (sym c.loop-row.invariant ∙ none, none)
