-- Files that are read whole. All of it is our own choice.
use Rattle.std.specs.Prelude.{◌≡◌, ◌≤◌, ⊤, ℕ, List, length, Option, Some}
use Rattle.std.specs.Io.KnownBytes.{Consumes, IsAtEnd}

-- the most bytes of a trace file: 1 GiB, which is 1,024 bytes for each event that may be held
abbrev pub file_limit : ℕ
file_limit = 1073741824

-- all that the reader had, within the limit
abbrev pub ReadsWhole : Option (List ℕ) → Option (List ℕ) → List ℕ → Type 0
ReadsWhole reader rest bytes = Consumes reader rest bytes × IsAtEnd rest × (length bytes ≤ file_limit)

-- what is told of a path: the bytes of the file there, that none is there, or nothing
pub data FileAt : Type 0 where
  Bytes : List ℕ → FileAt
  Missing : FileAt
  Untold : FileAt

-- an open file's reader has the bytes that are told of its path, and no file is open that is told to be missing
abbrev pub TellsReader : FileAt → Option (List ℕ) → Type 0
TellsReader (Bytes bytes) reader = reader ≡ Some bytes
TellsReader Missing reader = ⊥
TellsReader Untold reader = ⊤

-- these are the bytes that are told of a path, if any are; nothing is read of one that is told to be missing
abbrev pub TellsBytes : FileAt → List ℕ → Type 0
TellsBytes (Bytes bytes) read = read ≡ bytes
TellsBytes Missing read = ⊥
TellsBytes Untold read = ⊤
