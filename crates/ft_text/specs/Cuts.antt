-- How cuts of a text are stated: what holds if one exists, or if none does, and where a run of bytes stops.
use Rattle.std.specs.Prelude.{◌≡◌, ◌⊎◌, ℕ, Bool, false, List, [], ◌∷◌}

-- P holds, and then A does; or P fails, and then B holds (our own choice: the first fault is the answer)
abbrev pub Where : Type 0 → Type 0 → Type 0 → Type 0
Where P A B = (P × A) ⊎ ((P → ⊥) × B)

-- a cut exists, and then A holds of it; or none does, and then B holds
abbrev pub WhereCut : {C : Type 0} → (C → Type 0) → (C → Type 0) → Type 0 → Type 0
WhereCut {C} IsCut A B = ((c : C) × IsCut c × A c) ⊎ (((c : C) → IsCut c → ⊥) × B)

-- a run of bytes that pass cannot go on into the text: it is empty, or its first byte fails
abbrev pub Stops : (ℕ → Bool) → List ℕ → Type 0
Stops passes [] = Unit {0}
Stops passes (byte ∷ text) = passes byte ≡ false
