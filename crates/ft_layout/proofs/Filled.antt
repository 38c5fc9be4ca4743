-- A text that is copied over zeros is padded.
use Rattle.std.proofs.Common.{◌≡◌, ℕ, List, ◌++◌, length, drop, replicate, ap, ◌∙◌}
use Rattle.std.proofs.lemmas.List.{drop-replicate}
use Rattle.ft_layout.specs.Names.{name_layout}

pub filled : (text now : List ℕ) → now ≡ text → record { bytes = now ++ drop (length text) (replicate 31 0); length = length text } ≡ name_layout text
filled text now same =
    ap (λ (bytes : List ℕ). record { bytes = bytes; length = length text })
    (ap (λ (front : List ℕ). front ++ drop (length text) (replicate 31 0)) same ∙ ap (λ (rest : List ℕ). text ++ rest) (drop-replicate (length text) 31 0))
