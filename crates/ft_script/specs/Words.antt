-- What the program's arguments name. All of it is our own choice.
use Rattle.std.specs.Prelude.{◌≡◌, ⊤, ℕ, Bool, false, ◌&&◌, List, [], ◌∷◌, drop, map, Option, Some, None, Result, Ok, Err, option_map, is_some, slice_get, ◌==◌, if◌then◌else◌, codes}
use Rattle.std.specs.Str.{bytes_eq, chars}
use Rattle.ft_script.specs.declared.words.Words.{Words}
use Rattle.ft_script.specs.declared.words.WordsFault.{WordsFault}
use Rattle.ft_script.specs.declared.words.WordsFault.TheVariants.{Memory, Refused}

-- the script's path, none for standard input, and the traces' paths
pub record Named : Type 0 where
  pub script : Option (List ℕ)
  pub traces : List (List ℕ)

-- an argument that begins with `-` and has a further character
abbrev pub is_option : List ℕ → Bool
is_option [] = false
is_option (byte ∷ rest) = byte == 45 && is_some (slice_get (chars rest) 0)

-- the arguments without the first `--`, if there is one; before it, or if there is none, no argument may be an option
abbrev pub paths_in : List (List ℕ) → Option (List (List ℕ))
paths_in [] = Some []
paths_in (word ∷ words) =
    if bytes_eq word (codes "--") then Some words
    else (if is_option word then None else option_map (λ paths. word ∷ paths) (paths_in words))

-- the path of a script; `-` is standard input
abbrev pub script_at : List ℕ → Option (List ℕ)
script_at path = if bytes_eq path (codes "-") then None else Some path

-- the script, and then the traces; no path means standard input
abbrev pub script_and_traces : List (List ℕ) → Named
script_and_traces [] = record { script = None; traces = [] }
script_and_traces (script ∷ traces) = record { script = script_at script; traces = traces }

-- what the program's arguments name, the first of which is the program's own name; none if one is refused
abbrev pub named_by_words : List (List ℕ) → Option Named
named_by_words args = option_map script_and_traces (paths_in (drop 1 args))

-- what the arguments that were read name
abbrev pub named_of_words : Words → Named
named_of_words words = record { script = option_map (λ path. path.now) words.script; traces = map (λ path. path.now) words.traces.items }

-- the arguments are read as what they name, or refused if they name nothing; memory may run out
abbrev pub WordsGive : Option Named → Result Words WordsFault → Type 0
WordsGive named (Ok words) = named ≡ Some (named_of_words words)
WordsGive named (Err Refused) = named ≡ None
WordsGive named (Err Memory) = ⊤
