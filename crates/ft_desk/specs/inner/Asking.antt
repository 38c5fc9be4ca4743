-- What a reader that is asked shows, and what is taken of that. All of it is our own choice.
use Rattle.std.specs.Prelude.{◌≡◌, ◌≢◌, ℕ, ◌<◌, ◌≤◌, List, [], ◌∷◌, ◌++◌, length, take, slice_index, Option, IfSome, Result, Ok, Err}
use Rattle.std.specs.Io.{StartsWith}
use Rattle.std.specs.Io.KnownBytes.{Keeps}
use Rattle.std.specs.declared.alloc.AllocError.{AllocError}
use Rattle.ft_desk.specs.declared.pieces.Taken.{Taken}
use Rattle.ft_desk.specs.declared.pieces.Taken.TheVariants as takes
use Rattle.ft_desk.specs.declared.pieces.Part.{Part}
use Rattle.ft_desk.specs.Steps.{AddsPart}

-- a line's end stands at this place, or the bytes end there
abbrev pub CutsAt : Taken → List ℕ → ℕ → Type 0
CutsAt takes.Part shown place = place ≡ length shown
CutsAt takes.Line shown place = (place < length shown) × (slice_index shown place ≡ 10)
CutsAt takes.End shown place = ⊥

-- what these first bytes of those shown are: a part of a line, or one and the line's end, and that part was added to the piece; or nothing was shown
abbrev pub TakesBytes : Taken → List ℕ → List ℕ → List ℕ → List ℕ → Type 0
TakesBytes takes.Part bytes shown before after = AddsPart before after bytes × (bytes ≢ [])
TakesBytes takes.Line bytes shown before after = (part : List ℕ) × (bytes ≡ part ++ 10 ∷ []) × AddsPart before after part
TakesBytes takes.End bytes shown before after = (shown ≡ []) × (after ≡ before)

-- what is taken of the bytes that are shown; or there was no memory for them
abbrev pub PartGives : Result Part AllocError → List ℕ → List ℕ → List ℕ → Type 0
PartGives (Ok part) shown before after = (part.amount ≤ length shown) × TakesBytes part.taken (take part.amount shown) shown before after
PartGives (Err error) shown before after = shown ≢ []

-- what a reader shows: a beginning of its bytes, and none only at their end; they are kept, and as many as are shown may be consumed
pub record Shows (left rest : Option (List ℕ)) (consumable : Option ℕ) (shown : List ℕ) : Type 0 where
  pub front : IfSome left (λ bytes. StartsWith bytes shown)
  pub end : IfSome left (λ bytes. length shown ≡ 0 → bytes ≡ [])
  pub kept : Keeps left rest
  pub within : IfSome left (λ _. IfSome consumable (λ n. length shown ≤ n))

-- what asking gives: what is taken of the bytes that the reader shows, or the reader failed
abbrev pub AskGives : {E : Type 0} → Result (Result Part AllocError) E → Option (List ℕ) → Option (List ℕ) → Option ℕ → List ℕ → List ℕ → Type 0
AskGives (Ok part) left rest consumable before after = (shown : List ℕ) × Shows left rest consumable shown × PartGives part shown before after
AskGives (Err error) left rest consumable before after = Keeps left rest
