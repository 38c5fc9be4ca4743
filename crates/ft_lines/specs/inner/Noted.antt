-- What is kept of the lines of a text so far.
use Rattle.std.specs.Prelude.{◌≡◌, ℕ, suc, List, ◌∷◌, ◌++◌, length, reverse}
use Rattle.ft_losses.specs.Notes.{Note, NoteIs, AreNotes}
use Rattle.ft_losses.specs.Telling.{Keeps}
use Rattle.ft_losses.specs.declared.losses.Losses.{Losses}
use Rattle.ft_text.specs.Lines.{lines_of}

-- what the lines before the rest of a text report is kept, newest first, and this is the number of the next line
pub record HasNoted (text rest : List ℕ) (losses : Losses) (number : ℕ) : Type 0 where
  pub before : List (List ℕ)
  pub cut : lines_of text ≡ reverse before ++ lines_of rest
  pub notes : List Note
  pub noted : AreNotes before notes
  pub keeps : Keeps losses notes
  pub next : number ≡ suc (length notes)

-- what this line reports is kept, after whatever lines
abbrev pub TakesLine : List ℕ → ℕ → Losses → Losses → Type 0
TakesLine line number old new = (notes : List Note) → Keeps old notes → number ≡ suc (length notes) → (note : Note) × NoteIs line note × Keeps new (note ∷ notes)
