-- How the program ends, by what its arguments name and what is told of its files. All of it is our own choice.
use Rattle.std.specs.Prelude.{◌≡◌, ⊤, ℕ, List, [], ◌∷◌, ◌++◌, Option, Some, None, Result, Ok, Err}
use Rattle.std.specs.Option.{option_map_or}
use Rattle.ft_script.specs.Files.{FileAt, Bytes, Missing, Untold}
use Rattle.ft_script.specs.Words.{Named}
use Rattle.ft_desk.specs.declared.running.Status.{Status}
use Rattle.ft_desk.specs.declared.program.Fault.{Fault}
use Rattle.ft_desk.specs.declared.program.Fault.TheVariants.{Words, File, Memory, Read, Write}
use Rattle.ft_desk.specs.Output.{Meaning, output_by}
use Rattle.ft_desk.specs.Program.{TellsFiles, FailsFirst}
use Rattle.ft_desk.specs.Run.{status_of}

-- the status of a script that has these bytes, if they are told; a missing script has none
abbrev pub StatusTells : Meaning → FileAt → Status → Type 0
StatusTells means (Bytes script) status = status ≡ status_of (output_by means script).refused
StatusTells means Missing status = ⊥
StatusTells means Untold status = ⊤

-- a script's status, or a fault of a run
abbrev pub RunTells : Meaning → FileAt → Result Status Fault → Type 0
RunTells means script (Ok status) = StatusTells means script status
RunTells means script (Err Memory) = ⊤
RunTells means script (Err Read) = ⊤
RunTells means script (Err Write) = ⊤
RunTells means script (Err Words) = ⊥
RunTells means script (Err (File path)) = ⊥

-- what is told of a script: nothing of standard input
abbrev pub told_of_script : (List ℕ → FileAt) → Option (List ℕ) → FileAt
told_of_script told (Some path) = told path
told_of_script told None = Untold

-- the paths that the arguments name, in the order in which they are read: the script's is the last
abbrev pub paths_of : Named → List (List ℕ)
paths_of words = words.traces ++ option_map_or (λ path. path ∷ []) words.script []

-- the script that the arguments name is run with the files at the paths that they name
abbrev pub Runs : (List (List ℕ) → Meaning) → (List ℕ → FileAt) → Option Named → Result Status Fault → Type 0
Runs means told named result = (words : Named) × (files : List (List ℕ)) × (named ≡ Some words) × TellsFiles told words.traces files × RunTells (means files) (told_of_script told words.script) result

-- how the program ends: arguments that name nothing are refused, the first path that cannot be read is reported, and else the script is run
abbrev pub ProgramEnds : (List (List ℕ) → Meaning) → (List ℕ → FileAt) → Option Named → Result Status Fault → Type 0
ProgramEnds means told named (Err Memory) = ⊤
ProgramEnds means told named (Err Words) = named ≡ None
ProgramEnds means told named (Err (File path)) = (words : Named) × (named ≡ Some words) × FailsFirst told (paths_of words) path.now
ProgramEnds means told named (Err Read) = Runs means told named (Err Read)
ProgramEnds means told named (Err Write) = Runs means told named (Err Write)
ProgramEnds means told named (Ok status) = Runs means told named (Ok status)
