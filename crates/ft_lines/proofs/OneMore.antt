-- Lines of a text that is cut line by line.
use Rattle.std.proofs.Common.{◌≡◌, ℕ, List, [], ◌∷◌, ◌++◌, sym, ap, ◌∙◌, append-nil, append_assoc}
use Rattle.ft_event.specs.Line.{line_of}
use Rattle.ft_text.specs.Lines.{lines_of}
use Rattle.ft_lines.specs.Lines.{end_of, kind_of, lines_from, text_lines}
use Rattle.ft_lines.specs.declared.line.LineKind.{LineKind}
use Rattle.ft_lines.specs.declared.line.TextLine.{TextLine}

-- one line more was read
pub one-more : (text rest line behind : List ℕ) (size start end : ℕ) (kind : LineKind) (held new : List TextLine)
    → held ++ lines_from size start (lines_of rest) ≡ text_lines text → lines_of rest ≡ line ∷ lines_of behind
    → end ≡ end_of size start line → kind ≡ kind_of (line_of line) → new ≡ held ++ record { end = end; kind = kind } ∷ []
    → new ++ lines_from size end (lines_of behind) ≡ text_lines text
unfolding lines_from
one-more text rest line behind size start end kind held new so cut ends is more =
    rw (more, ends, is)
    (append_assoc held (record { end = end_of size start line; kind = kind_of (line_of line) } ∷ []) (lines_from size (end_of size start line) (lines_of behind))
    ∙ ap (λ lines. held ++ lines_from size start lines) (sym cut) ∙ so)

-- all lines were read
pub no-more : (text rest : List ℕ) (size start : ℕ) (held : List TextLine) → held ++ lines_from size start (lines_of rest) ≡ text_lines text → rest ≡ [] → held ≡ text_lines text
unfolding lines_from
no-more text rest size start held so end = sym (append-nil held) ∙ ap (λ left. held ++ lines_from size start (lines_of left)) (sym end) ∙ so
