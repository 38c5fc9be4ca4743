-- A refused command's line without its line break.
use Rattle.std.proofs.Common.{◌≡◌, ℕ, ◌-◌, List, ◌++◌, length, take, refl, ap, ◌∙◌, arith, length-append}
use Rattle.std.specs.Prelude.{codes, decimal}
use Rattle.std.proofs.lemmas.List.{take_at}
use Rattle.ft_base.specs.Refused.{refused_number}
use Rattle.ft_base.specs.declared.refused.Refused.{Refused}
use Rattle.ft_script.specs.Refusals.{detail, refused_text}

front : (text end : List ℕ) → length end ≡ 1 → take (length (text ++ end) - 1) (text ++ end) ≡ text
front text end one =
    let all : length (text ++ end) - 1 ≡ length text = omega (arith, length-append text end, one) in
    ap (λ (n : ℕ). take n (text ++ end)) all ∙ take_at text end (length text) refl

-- the line of a refusal without its last byte
pub without_break : (why : Refused) (line : List ℕ) → line ≡ refused_text why → take (length line - 1) line ≡ codes "refused " ++ decimal (refused_number why) ++ detail why
unfolding refused_text
without_break why line is =
    ap (λ (text : List ℕ). take (length text - 1) text) is
    ∙ front (codes "refused " ++ decimal (refused_number why) ++ detail why) (codes "\n") refl
