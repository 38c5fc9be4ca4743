-- Files that are read in order, and how the program ends.
use Rattle.std.proofs.Common.{◌≡◌, ℕ, ◌+◌, ◌<◌, List, [], ◌∷◌, ◌++◌, Option, Some, Result, Ok, Err, refl, sym, ap, subst, ◌∙◌, append_assoc, map, take, drop, length, get_or, Bor}
use Rattle.std.proofs.lemmas.List.{take_more, take-append-drop, map-append}
use Rattle.std.specs.Option.{option_map_or}
use Rattle.std.specs.Result.{IsErr, IsErrAnd}
use Rattle.ft_script.specs.Files.{FileAt, TellsBytes}
use Rattle.ft_script.specs.declared.files.FileFault.{FileFault}
use Rattle.ft_script.specs.declared.files.FileFault.TheVariants as of_file
use Rattle.ft_script.specs.declared.words.WordsFault.{WordsFault}
use Rattle.ft_script.specs.declared.words.WordsFault.TheVariants as of_words
use Rattle.ft_script.specs.Words.{Named, WordsGive}
use Rattle.ft_desk.specs.declared.running.Status.{Status}
use Rattle.ft_desk.specs.declared.program.Fault.{Fault}
use Rattle.ft_desk.specs.declared.program.Fault.TheVariants.{Words, File, Memory, Read, Write}
use Rattle.ft_desk.specs.Program.{told_of_words, told_of_file}
use Rattle.ft_desk.specs.Program.{TellsFiles, FilesGive}
use Rattle.ft_desk.specs.Output.{Meaning}
use Rattle.ft_desk.specs.inner.Ends.{RunTells, told_of_script, ProgramEnds}

-- the texts of paths
abbrev pub texts_at : List (Bor (List ℕ)) → List (List ℕ)
texts_at paths = map (λ path. path.now) paths

-- the paths up to one, and that one
pub texts-more : (paths : List (Bor (List ℕ))) (i : ℕ) (d : Bor (List ℕ)) → i < length paths → texts_at (take (i + 1) paths) ≡ texts_at (take i paths) ++ (get_or paths i d).now ∷ []
texts-more paths i d within = ap texts_at (take_more paths i d within) ∙ map-append (λ path. path.now) (take i paths) (get_or paths i d ∷ [])

-- the paths around one
pub texts-around : (paths : List (Bor (List ℕ))) (i : ℕ) (d : Bor (List ℕ)) → i < length paths → texts_at paths ≡ texts_at (take i paths) ++ (get_or paths i d).now ∷ texts_at (drop (i + 1) paths)
texts-around paths i d within =
    let cut : texts_at paths ≡ texts_at (take (i + 1) paths) ++ texts_at (drop (i + 1) paths) =
    ap texts_at (sym (take-append-drop (i + 1) paths)) ∙ map-append (λ path. path.now) (take (i + 1) paths) (drop (i + 1) paths) in
    cut ∙ ap (λ front. front ++ texts_at (drop (i + 1) paths)) (texts-more paths i d within) ∙ append_assoc (texts_at (take i paths)) ((get_or paths i d).now ∷ []) (texts_at (drop (i + 1) paths))

module _ (told : List ℕ → FileAt) where
  -- one file more
  tells_one : (paths files : List (List ℕ)) (path file : List ℕ) → TellsFiles told paths files → TellsBytes (told path) file → TellsFiles told (paths ++ path ∷ []) (files ++ file ∷ [])
  tells_one [] [] path file so_far one = (one, tt)
  tells_one [] (other ∷ files) path file so_far one = absurd so_far
  tells_one (first ∷ paths) [] path file so_far one = absurd so_far
  tells_one (first ∷ paths) (other ∷ files) path file so_far one = (so_far.0, tells_one paths files path file so_far.1 one)

  -- the file at the next path
  pub tells_more : (paths : List (Bor (List ℕ))) (i : ℕ) (d : Bor (List ℕ)) (files : List (List ℕ)) (file : List ℕ) → i < length paths → TellsFiles told (texts_at (take i paths)) files
      → TellsBytes (told (get_or paths i d).now) file → TellsFiles told (texts_at (take (i + 1) paths)) (files ++ file ∷ [])
  tells_more paths i d files file within so_far one =
      subst (λ (texts : List (List ℕ)). TellsFiles told texts (files ++ file ∷ [])) (sym (texts-more paths i d within)) (tells_one (texts_at (take i paths)) files _ file so_far one)

  -- the next path fails
  pub fails_at : (paths : List (Bor (List ℕ))) (i : ℕ) (d : Bor (List ℕ)) (files : List (List ℕ)) (fault : FileFault) → i < length paths → TellsFiles told (texts_at (take i paths)) files
      → FilesGive told (texts_at paths) (Err (told_of_file (get_or paths i d) fault))
  fails_at paths i d files of_file.Memory within so_far = tt
  fails_at paths i d files of_file.Unreadable within so_far = (texts_at (take i paths), texts_at (drop (i + 1) paths), files, texts-around paths i d within, so_far)

module _ (means : List (List ℕ) → Meaning) (told : List ℕ → FileAt) where
  -- arguments that cannot be read end the program
  pub words_end : (named : Option Named) (fault : WordsFault) → WordsGive named (Err fault) → ProgramEnds means told named (Err (told_of_words fault))
  words_end named of_words.Memory gives = tt
  words_end named of_words.Refused gives = gives

  -- a trace that cannot be read ends the program
  pub traces_end : (words : Named) (fault : Fault) → FilesGive told words.traces (Err fault) → ProgramEnds means told (Some words) (Err fault)
  traces_end words Memory gives = tt
  traces_end words Words gives = absurd gives
  traces_end words Read gives = absurd gives
  traces_end words Write gives = absurd gives
  traces_end words (File path) fails =
      let later = option_map_or (λ (path : List ℕ). path ∷ []) words.script [] in
      (words, refl, (fails.0, fails.1 ++ later, fails.2, ap (λ all. all ++ later) fails.3 ∙ append_assoc fails.0 (path.now ∷ fails.1) later, fails.4))

  -- so does its fault if it is passed on
  pub fault_ends : (words : Named) (fault : Fault) (result : Result Status Fault) → IsErr result → IsErrAnd result (λ passed. passed ≡ fault) → FilesGive told words.traces (Err fault)
      → ProgramEnds means told (Some words) result
  fault_ends words fault (Ok status) err passed gives = absurd passed
  fault_ends words fault (Err other) err passed gives = subst (λ (one : Fault). ProgramEnds means told (Some words) (Err one)) (sym passed) (traces_end words fault gives)

  -- a script that cannot be opened ends the program
  pub script_ends : (words : Named) (path : Bor (List ℕ)) (files : List (List ℕ)) (fault : FileFault) → words.script ≡ Some path.now → TellsFiles told words.traces files
      → ProgramEnds means told (Some words) (Err (told_of_file path fault))
  script_ends words path files of_file.Memory script tells = tt
  script_ends words path files of_file.Unreadable script tells =
      (words, refl, (words.traces, [], files, ap (λ named. words.traces ++ option_map_or (λ (path : List ℕ). path ∷ []) named []) script, tells))

  -- the run of the script ends the program
  run_of : (words : Named) (files : List (List ℕ)) (result : Result Status Fault) → TellsFiles told words.traces files → RunTells (means files) (told_of_script told words.script) result
      → ProgramEnds means told (Some words) result
  run_of words files (Ok status) tells ran = (words, files, refl, tells, ran)
  run_of words files (Err Memory) tells ran = tt
  run_of words files (Err Read) tells ran = (words, files, refl, tells, ran)
  run_of words files (Err Write) tells ran = (words, files, refl, tells, ran)
  run_of words files (Err Words) tells ran = absurd ran
  run_of words files (Err (File path)) tells ran = absurd ran

  -- so does the run of a script that is told by what the arguments name
  pub run_ends : (words : Named) (script : Option (List ℕ)) (files : List (List ℕ)) (result : Result Status Fault) → words.script ≡ script → TellsFiles told words.traces files
      → RunTells (means files) (told_of_script told script) result → ProgramEnds means told (Some words) result
  run_ends words script files result named tells ran =
      run_of words files result tells (subst (λ (script : Option (List ℕ)). RunTells (means files) (told_of_script told script) result) (sym named) ran)
