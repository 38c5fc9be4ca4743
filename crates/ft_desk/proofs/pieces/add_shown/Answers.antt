use Rattle.std.proofs.Common.{◌≡◌, ◌≢◌, ℕ, ◌+◌, ◌≤◌, false, List, [], ◌∷◌, ◌++◌, All, Result, Ok, Err, OnOk, length, take, subst, sym, ap, ◌∙◌, ⊎_elim, arith, rules}
use Rattle.std.proofs.lemmas.Bool.{eqb-false}
use Rattle.std.proofs.lemmas.List.{take_more, take_all}
use Rattle.ft_script.specs.Script.{line_limit}
use Rattle.ft_desk.specs.declared.pieces.Taken.{Taken}
use Rattle.ft_desk.specs.declared.pieces.Taken.TheVariants as takes
use Rattle.ft_desk.specs.inner.Asking.{CutsAt, TakesBytes}
use Rattle.ft_desk.proofs.pieces.add_shown.Goals as goal

-- how many bytes are taken with a part
abbrev amount_with : Taken → ℕ → ℕ
amount_with takes.Part part = part
amount_with takes.Line part = part + 1
amount_with takes.End part = part

-- they are among those shown
amount_within : (took : Taken) (shown : List ℕ) (part amount : ℕ) → CutsAt took shown part → amount ≡ amount_with took part → amount ≤ length shown
amount_within takes.Part shown part amount end is = omega arith
amount_within takes.Line shown part amount end is = omega arith
amount_within takes.End shown part amount end is = absurd end

-- what was taken, as a whole
takes_bytes : (took : Taken) (before after shown : List ℕ) (part amount : ℕ)
    → shown ≢ [] → All (λ byte. byte ≢ 10) (take part shown) → CutsAt took shown part → amount ≡ amount_with took part
    → after ≡ take (line_limit + 1) (before ++ take part shown)
    → TakesBytes took (take amount shown) shown before after
takes_bytes takes.Part before after shown part amount some plain end is kept =
    rw is ((plain, kept), λ none. some (sym (take_all part shown (omega (arith, end))) ∙ none))
takes_bytes takes.Line before after shown part amount some plain end is kept =
    let line : take amount shown ≡ take part shown ++ 10 ∷ [] =
    ap (λ n. take n shown) is ∙ take_more shown part 0 end.0 ∙ ap (λ byte. take part shown ++ byte ∷ []) end.1 in
    (take part shown, line, (plain, kept))
takes_bytes takes.End before after shown part amount some plain end is kept = absurd end

pub returns-in-Line : goal.returns-in-Line
returns-in-Line c =
    let shown = c.args.shown.now in
    let took = c.cut-part.result.1 in
    let part = c.cut-part.result.0 in
    let amount : part + 1 ≡ amount_with took part = ap (λ t. amount_with t part) (sym c.in-Line.is) in (
      amount_within took shown part (part + 1) c.cut-part.ensures.end amount,
      takes_bytes took _ _ shown part (part + 1) (λ none. eqb-false _ 0 (sym c.is_empty.ensures ∙ c.if-is_empty.false) (ap length none)) c.cut-part.ensures.plain c.cut-part.ensures.end amount c.in_ok-add_part.ensures,
    )

pub returns-in-Part : goal.returns-in-Part
returns-in-Part c =
    let shown = c.args.shown.now in
    let took = c.cut-part.result.1 in
    let part = c.cut-part.result.0 in
    let amount : part ≡ amount_with took part = ⊎_elim (λ e. ap (λ t. amount_with t part) (sym e)) (λ e. ap (λ t. amount_with t part) (sym e)) c.in-Part.is in (
      amount_within took shown part part c.cut-part.ensures.end amount,
      takes_bytes took _ _ shown part part (λ none. eqb-false _ 0 (sym c.is_empty.ensures ∙ c.if-is_empty.false) (ap length none)) c.cut-part.ensures.plain c.cut-part.ensures.end amount c.in_ok-add_part.ensures,
    )
