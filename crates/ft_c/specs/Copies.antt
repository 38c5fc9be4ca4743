-- Copies into a caller's room. All of it is our own choice.
use Rattle.std.specs.Prelude.{◌≡◌, ℕ, ◌-◌, min, List, length}
use Rattle.ft_layout.specs.Copied.{copied}

-- a part of all was copied from this place on, and this is how much that was
abbrev pub IsCopied : {X Y : Type 0} → (X → Y) → List X → ℕ → List Y → ℕ → List Y → Type 0
IsCopied shown all from before count after = (after ≡ copied shown from all before) × (count ≡ min (length before) (length all - from))

-- some words were copied from their first byte on, and this is how much that was
abbrev pub AreWordsCopied : List ℕ → ℕ → List ℕ → Type 0
AreWordsCopied before count after = (words : List ℕ) × IsCopied (λ byte. byte) words 0 before count after
