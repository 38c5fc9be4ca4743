-- The program's files, its exit status, and what it reports of faults. All of it is our own choice.
use Rattle.std.specs.Prelude.{◌≡◌, ⊤, ℕ, List, [], ◌∷◌, ◌++◌, Result, Ok, Err}
use Rattle.ft_desk.specs.declared.running.Status.{Status}
use Rattle.ft_desk.specs.declared.running.Status.TheVariants.{AllAccepted, SomeRefused}
use Rattle.std.specs.Borrow.{Bor}
use Rattle.ft_script.specs.Files.{FileAt, TellsBytes}
use Rattle.ft_script.specs.declared.files.FileFault.{FileFault}
use Rattle.ft_script.specs.declared.files.FileFault.TheVariants as of_file
use Rattle.ft_script.specs.declared.words.WordsFault.{WordsFault}
use Rattle.ft_script.specs.declared.words.WordsFault.TheVariants as of_words
use Rattle.ft_desk.specs.declared.running.RunFault.{RunFault}
use Rattle.ft_desk.specs.declared.running.RunFault.TheVariants as of_run
use Rattle.ft_desk.specs.declared.program.Fault.{Fault}
use Rattle.ft_desk.specs.declared.program.Fault.TheVariants as told

-- 0 if each command was accepted, 1 if some was refused, 2 after a fault
abbrev pub exit_status_of : {E : Type 0} → Result Status E → ℕ
exit_status_of (Ok AllAccepted) = 0
exit_status_of (Ok SomeRefused) = 1
exit_status_of (Err fault) = 2

-- what standard error reports of arguments that are refused
abbrev pub told_of_words : WordsFault → Fault
told_of_words of_words.Memory = told.Memory
told_of_words of_words.Refused = told.Words

-- what standard error reports of a run that ended before its script did
abbrev pub told_of_run : RunFault → Fault
told_of_run of_run.Memory = told.Memory
told_of_run of_run.Read = told.Read
told_of_run of_run.Write = told.Write

-- what standard error reports of a file that cannot be read
abbrev pub told_of_file : Bor (List ℕ) → FileFault → Fault
told_of_file path of_file.Memory = told.Memory
told_of_file path of_file.Unreadable = told.File path

-- these are the files at the paths in order, as far as they are told
abbrev pub TellsFiles : (List ℕ → FileAt) → List (List ℕ) → List (List ℕ) → Type 0
TellsFiles by_path [] [] = ⊤
TellsFiles by_path [] (file ∷ files) = ⊥
TellsFiles by_path (path ∷ paths) [] = ⊥
TellsFiles by_path (path ∷ paths) (file ∷ files) = TellsBytes (by_path path) file × TellsFiles by_path paths files

-- a path of these cannot be read, but all before it can
abbrev pub FailsFirst : (List ℕ → FileAt) → List (List ℕ) → List ℕ → Type 0
FailsFirst by_path paths path = (front : List (List ℕ)) × (back : List (List ℕ)) × (files : List (List ℕ)) × (paths ≡ front ++ path ∷ back) × TellsFiles by_path front files

-- the files at the paths in order, or the first that cannot be read
abbrev pub FilesGive : (List ℕ → FileAt) → List (List ℕ) → Result (List (List ℕ)) Fault → Type 0
FilesGive by_path paths (Ok files) = TellsFiles by_path paths files
FilesGive by_path paths (Err (told.File path)) = FailsFirst by_path paths path.now
FilesGive by_path paths (Err told.Memory) = ⊤
FilesGive by_path paths (Err told.Words) = ⊥
FilesGive by_path paths (Err told.Read) = ⊥
FilesGive by_path paths (Err told.Write) = ⊥
