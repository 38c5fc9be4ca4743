-- Laws of what lines of a script print.
use Rattle.std.proofs.Common.{◌≡◌, ℕ, ◌+◌, ◌<◌, List, [], ◌∷◌, ◌++◌, length, take, refl, sym, ap, ◌∙◌, ⊎_elim, append_assoc, append-nil, arith}
use Rattle.std.specs.Prelude.{◌||◌}
use Rattle.std.proofs.Math.Bool.{or_assoc, or-false}
use Rattle.std.proofs.lemmas.Bool.{cases_lt, lt-ltb}
use Rattle.std.proofs.lemmas.List.{take_all, length-take-le}
use Rattle.ft_answers.specs.Base.{Base}
use Rattle.ft_script.specs.Script.{line_limit, asked_by}
use Rattle.ft_script.specs.Script.Asked.{NoForm}
use Rattle.ft_desk.specs.Output.{Meaning, Outcome, output_from}

-- what first lines did, and then further ones
abbrev pub Joins : Outcome → Outcome → Outcome → Type 0
Joins all first rest = (all.text ≡ first.text ++ rest.text) × (all.base ≡ rest.base) × (all.refused ≡ (first.refused || rest.refused))

-- lines do what the first of them do, and then the rest
pub output_from-append : (means : Meaning) (base : Base) (xs ys : List (List ℕ))
    → Joins (output_from means base (xs ++ ys)) (output_from means base xs) (output_from means (output_from means base xs).base ys)
unfolding output_from
output_from-append means base [] ys = (refl, refl, refl)
output_from-append means base (line ∷ lines) ys =
    let first = means base (asked_by line) in
    let h = output_from-append means first.base lines ys in (
      ap (λ t. first.text ++ t) h.0 ∙ sym (append_assoc first.text _ _),
      h.1,
      ap (λ r. first.refused || r) h.2 ∙ sym (or_assoc first.refused _ _),
    )

-- lines and one more
pub output_from-push : (means : Meaning) (base : Base) (lines : List (List ℕ)) (line : List ℕ)
    → Joins (output_from means base (lines ++ line ∷ [])) (output_from means base lines) (means (output_from means base lines).base (asked_by line))
unfolding output_from
output_from-push means base lines line =
    let done = output_from means base lines in
    let next = means done.base (asked_by line) in
    let h = output_from-append means base lines (line ∷ []) in (
      h.0 ∙ ap (λ t. done.text ++ t) (append-nil next.text),
      h.1,
      h.2 ∙ ap (λ r. done.refused || r) (or-false next.refused),
    )

-- what a line prints stands after what the lines before it print
pub output_from-line : (means : Meaning) (base : Base) (lines : List (List ℕ)) (line : List ℕ) (more : List (List ℕ))
    → let done = output_from means base lines in
    let next = means done.base (asked_by line) in
    (output_from means base (lines ++ line ∷ more)).text ≡ done.text ++ (next.text ++ (output_from means next.base more).text)
unfolding output_from
output_from-line means base lines line more = (output_from-append means base lines (line ∷ more)).0

-- a line over the limit has no form
asked_by-long : (line : List ℕ) → line_limit < length line → asked_by line ≡ NoForm
unfolding asked_by
asked_by-long line more = rw (lt-ltb line_limit (length line) more) refl

-- the kept beginning of a line asks for what the line asks for
pub asked_by-kept : (line : List ℕ) → asked_by (take (line_limit + 1) line) ≡ asked_by line
asked_by-kept line =
    ⊎_elim
    (λ more.
    let kept = length-take-le (line_limit + 1) line (omega arith) in
    asked_by-long (take (line_limit + 1) line) (omega arith) ∙ sym (asked_by-long line (omega arith)))
    (λ all. ap asked_by (take_all (line_limit + 1) line all))
    (cases_lt (line_limit + 1) (length line))
