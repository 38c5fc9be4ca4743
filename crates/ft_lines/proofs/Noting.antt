-- What lines report, line by line.
use Rattle.std.proofs.Common.{◌≡◌, ℕ, ◌+◌, List, [], ◌∷◌, ◌++◌, reverse, sym, ap, ◌∙◌, append_assoc, arith}
use Rattle.std.proofs.lemmas.List.{reverse-append}
use Rattle.ft_losses.specs.declared.losses.Losses.{Losses}
use Rattle.ft_text.specs.Lines.{lines_of}
use Rattle.ft_lines.specs.inner.Noted.{HasNoted, TakesLine}

-- one line more in front of those behind it is one line more behind those before it
to-front : (line : List ℕ) (before behind : List (List ℕ)) → reverse (line ∷ before) ++ behind ≡ reverse before ++ line ∷ behind
to-front line before behind = ap (λ (lines : List (List ℕ)). lines ++ behind) (reverse-append (line ∷ []) before) ∙ append_assoc (reverse before) (line ∷ []) behind

-- what one line more reports is kept
pub noted-more : (text rest line behind : List ℕ) (number : ℕ) (old new : Losses)
    → HasNoted text rest old number → lines_of rest ≡ line ∷ lines_of behind → TakesLine line number old new → HasNoted text behind new (number + 1)
noted-more text rest line behind number old new had cut takes =
    let more = takes had.notes had.keeps had.next in
    record {
      before = line ∷ had.before;
      cut = had.cut ∙ ap (λ (lines : List (List ℕ)). reverse had.before ++ lines) cut ∙ sym (to-front line had.before (lines_of behind));
      notes = more.0 ∷ had.notes;
      noted = (more.1, had.noted);
      keeps = more.2;
      next = ap (λ (n : ℕ). n + 1) had.next ∙ omega arith;
    }
