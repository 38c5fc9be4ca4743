-- What the parser of command lines makes of the program's arguments: a walk that holds the script, then traces.
use Rattle.std.proofs.Common.{◌≡◌, ◌∙◌, ap, refl, sym, ℕ, Bool, true, false, List, [], ◌∷◌, ◌++◌, Option, Some, None, option_map, codes, ap₂, append_assoc, subst, ◌⊎◌, inl, inr, Err}
use Rattle.std.specs.Prelude.{⊤, fold, drop, is_some, slice_get, option_and_then, unwrap_or}
use Rattle.std.specs.Str.{bytes_eq, chars}
use Rattle.std.proofs.lemmas.Bool.{true≢false, false≢true}
use Rattle.std.proofs.lemmas.Bool.Decides.{eqb_tells}
use Rattle.clap.specs.Lexer.{long_of, short_of, name_and_value}
use Rattle.clap.specs.Walk.{Held, Row, Rule, Text, Waiting, Walk, idle, positional, value, walked, arg_by_index, long_or_other, plain_word, subcommand_met, to_positional, finished, settled, reading_by, first_of, all_of, bundle_met, rows_of}
use Rattle.clap.specs.Words.{first_value, found_of, matched_of, raw_values}
use Rattle.clap.specs.declared.parser.matches.ArgMatches.{ArgMatches}
use Rattle.clap.specs.declared.parser.matches.Found.{Found}
use Rattle.clap.specs.declared.error.kind.ErrorKind.{ErrorKind}
use Rattle.clap.proofs.WalkLemmas.{first_value-rows, raw_values-rows}
use Rattle.clap.specs.Simple.{App, entered, Shape, built, new_app, new_rule, on_top, with_rule, matches_of}
use Rattle.clap.specs.Faults.{check_fault, entered_fault, settle_fault, fault_of, flag_word_fault, walk_fault, turn_fault, step_fault, flags_fault, defaults_fault}
use Rattle.clap.specs.Kinds.{Kinds, IsAmong, or_else}
use Rattle.clap.specs.declared.builder.action.ArgAction.TheVariants.{Set, Append}
use Rattle.clap.specs.declared.error.kind.ErrorKind.TheVariants.{UnknownArgument}
use Rattle.clap.specs.declared.parser.matches.ValueSource.TheVariants.{CommandLine}
use Rattle.ft_script.specs.declared.words.WordsFault.{WordsFault}
use Rattle.ft_script.specs.declared.words.WordsFault.TheVariants as faults_named
use Rattle.ft_script.specs.Words.{Named, WordsGive, is_option, script_and_traces, named_by_words, paths_in, script_at}
use Rattle.ft_script.specs.inner.Found.{found_by}

abbrev pub script_rule : Rule
script_rule = record (new_rule (codes "SCRIPT")) { action = Some Set }

abbrev pub trace_rule : Rule
trace_rule = record (new_rule (codes "TRACE")) { action = Some Append }

-- the program's command
abbrev pub app : App
app = with_rule (with_rule (on_top (λ s. record s { disable_help_flag = true }) (new_app (codes "histdesk"))) script_rule) trace_rule

abbrev top : Shape
top = (built app).top

-- how far a walk is: at no path yet, after the script, or at a trace with others before it
data Stage : Type 0 where
  Fresh : Stage
  Scripted : Text → Stage
  Traced : Text → List Text → Text → Stage

abbrev next : Stage → Text → Stage
next Fresh path = Scripted path
next (Scripted script) path = Traced script [] path
next (Traced script traces trace) path = Traced script (traces ++ trace ∷ []) path

abbrev row : Text → List Text → Row
row id paths = record { id = id; values = paths; count = None; source = Some CommandLine; reading = reading_by script_rule }

abbrev trace_rows : List Text → List Row
trace_rows [] = []
trace_rows (path ∷ paths) = row (codes "TRACE") (path ∷ paths) ∷ []

abbrev rows_at : Stage → List Row
rows_at Fresh = []
rows_at (Scripted script) = []
rows_at (Traced script traces trace) = row (codes "SCRIPT") (script ∷ []) ∷ trace_rows traces

abbrev pending_at : Stage → Option (Text × List Text)
pending_at Fresh = None
pending_at (Scripted script) = Some (codes "SCRIPT", script ∷ [])
pending_at (Traced script traces trace) = Some (codes "TRACE", trace ∷ [])

abbrev held_at : Stage → Held
held_at stage = record { rows = rows_at stage; pending = pending_at stage; skip = 0 }

abbrev waiting_at : Stage → Waiting
waiting_at (Traced script traces trace) = positional
waiting_at _ = idle

abbrev position_at : Stage → ℕ
position_at Fresh = 1
position_at _ = 2

abbrev walk_at : Bool → Stage → Walk
walk_at behind stage = record { held = held_at stage; waiting = waiting_at stage; position = position_at stage; is_trailing = behind; stopped = None }

-- a path goes to its positional
to_path : (behind : Bool) (stage : Stage) (path : Text)
    → to_positional top.rules (arg_by_index top.rules (position_at stage)) path (walk_at behind stage) (held_at stage) ≡ walk_at behind (next stage path)
to_path true Fresh path = refl
to_path false Fresh path = refl
to_path true (Scripted script) path = refl
to_path false (Scripted script) path = refl
to_path true (Traced script [] trace) path = refl
to_path false (Traced script [] trace) path = refl
to_path true (Traced script (x ∷ traces) trace) path = refl
to_path false (Traced script (x ∷ traces) trace) path = refl

path_fault : (stage : Stage) → step_fault top (position_at stage) (held_at stage) value ≡ []
path_fault Fresh = refl
path_fault (Scripted script) = refl
path_fault (Traced script [] trace) = refl
path_fault (Traced script (x ∷ traces) trace) = refl

no_command : (waiting : Waiting) (word : Text) → subcommand_met [] waiting word ≡ None
no_command idle word = refl
no_command positional word = refl
no_command (Rattle.clap.specs.Walk.option id) word = refl

plain_value : (stage : Stage) (word : Text) → plain_word top.rules (waiting_at stage) word (held_at stage) ≡ (held_at stage, value)
plain_value Fresh word = refl
plain_value (Scripted script) word = refl
plain_value (Traced script traces trace) word = refl

abbrev dashes : Text
dashes = 45 ∷ 45 ∷ []

-- an argument is no flag, a long flag, or a bundle of short ones
abbrev Forms : Text → Type 0
Forms word = ((long_of word ≡ None) × (short_of word ≡ None) × (is_option word ≡ false))
    ⊎ (((flag : Text × Option Text) × (long_of word ≡ Some flag) × (is_option word ≡ true))
    ⊎ ((b : ℕ) × (bs : Text) × (long_of word ≡ None) × (short_of word ≡ Some (b ∷ bs)) × (is_option word ≡ is_some (slice_get (chars (b ∷ bs)) 0))))

long_form : (rest : Text) → bytes_eq (45 ∷ 45 ∷ rest) dashes ≡ false → Forms (45 ∷ 45 ∷ rest)
unfolding chars
long_form [] other = absurd (true≢false other)
long_form (z ∷ zs) other = inr (inl (name_and_value (z ∷ zs), refl, refl))

dash_form : (rest : Text) → bytes_eq (45 ∷ rest) dashes ≡ false → Forms (45 ∷ rest)
unfolding chars
dash_form [] other = inl (refl, refl, refl)
dash_form (y ∷ ys) other = elim (eqb_tells y 45) [
  | inl same ↦ subst (λ (x : ℕ). bytes_eq (45 ∷ x ∷ ys) dashes ≡ false → Forms (45 ∷ x ∷ ys)) (sym same.1) (long_form ys) other
  | inr differs ↦ inr (inr (y, ys, rw differs.0 refl, rw differs.0 refl, refl))
]

form_of : (word : Text) → bytes_eq word dashes ≡ false → Forms word
form_of [] other = inl (refl, refl, refl)
form_of (x ∷ xs) other = elim (eqb_tells x 45) [
  | inl same ↦ subst (λ (y : ℕ). bytes_eq (y ∷ xs) dashes ≡ false → Forms (y ∷ xs)) (sym same.1) (dash_form xs) other
  | inr differs ↦ inl (rw differs.0 refl, rw differs.0 refl, rw differs.0 refl)
]

first_of_some : (xs : List ℕ) → is_some (slice_get xs 0) ≡ true → (x : ℕ) × (slice_get xs 0 ≡ Some x)
first_of_some [] some = absurd (false≢true some)
first_of_some (x ∷ xs) some = (x, refl)

none_of : (xs : List ℕ) → is_some (slice_get xs 0) ≡ false → slice_get xs 0 ≡ None
none_of [] none = refl
none_of (x ∷ xs) none = absurd (true≢false none)

-- an argument that is an option is refused: the command has none
refused : (stage : Stage) (word : Text) → bytes_eq word dashes ≡ false → is_option word ≡ true
    → flag_word_fault top.rules false (long_of word) word (held_at stage) ≡ UnknownArgument ∷ []
unfolding flags_fault
refused stage word other option = elim (form_of word other) [
  | inl plain ↦ absurd (false≢true (sym plain.2 ∙ option))
  | inr (inl long) ↦ rw long.1 refl
  | inr (inr short) ↦ let first = first_of_some _ (sym short.4 ∙ option) in rw (short.2, short.3, first.1) refl
]

-- an argument that is neither `--` nor an option passes
passes : (stage : Stage) (word : Text) → bytes_eq word dashes ≡ false → is_option word ≡ false
    → flag_word_fault top.rules false (long_of word) word (held_at stage) ≡ []
unfolding flags_fault
passes stage word other option = elim (form_of word other) [
  | inl plain ↦ rw (plain.0, plain.1) refl
  | inr (inl long) ↦ absurd (true≢false (sym long.2 ∙ option))
  | inr (inr short) ↦ rw (short.2, short.3, none_of _ (sym short.4 ∙ option)) refl
]

-- and goes to a positional
is_plain : (stage : Stage) (word : Text) → bytes_eq word dashes ≡ false → is_option word ≡ false
    → long_or_other top.rules (waiting_at stage) word (long_of word) (held_at stage) ≡ plain_word top.rules (waiting_at stage) word (held_at stage)
unfolding bundle_met
is_plain stage word other option = elim (form_of word other) [
  | inl plain ↦ rw (plain.0, plain.1) refl
  | inr (inl long) ↦ absurd (true≢false (sym long.2 ∙ option))
  | inr (inr short) ↦ rw (short.2, short.3, none_of _ (sym short.4 ∙ option)) refl
]

path_met : (stage : Stage) (word : Text) → bytes_eq word dashes ≡ false → is_option word ≡ false
    → (turn_fault top [] (walk_at false stage) word ≡ []) × (walked top.rules [] (walk_at false stage) word ≡ walk_at false (next stage word))
unfolding walked
path_met stage word other option = (
  rw (no_command (waiting_at stage) word, other, passes stage word other option, is_plain stage word other option, plain_value stage word) (path_fault stage),
  rw (no_command (waiting_at stage) word, other, is_plain stage word other option, plain_value stage word) (to_path false stage word),
)

option_met : (stage : Stage) (word : Text) → bytes_eq word dashes ≡ false → is_option word ≡ true
    → (rest : Kinds) → or_else (turn_fault top [] (walk_at false stage) word) rest ≡ UnknownArgument ∷ []
option_met stage word other option rest = rw (no_command (waiting_at stage) word, other, refused stage word other option) refl

dashes_met : (stage : Stage) (word : Text) → bytes_eq word dashes ≡ true
    → (turn_fault top [] (walk_at false stage) word ≡ []) × (walked top.rules [] (walk_at false stage) word ≡ walk_at true stage)
unfolding walked
dashes_met stage word is = (
  rw (no_command (waiting_at stage) word, is) refl,
  rw (no_command (waiting_at stage) word, is) refl,
)

behind_met : (stage : Stage) (word : Text)
    → (turn_fault top [] (walk_at true stage) word ≡ []) × (walked top.rules [] (walk_at true stage) word ≡ walk_at true (next stage word))
unfolding walked
behind_met stage word = (path_fault stage, to_path true stage word)

-- the stage after more paths
abbrev adds : Stage → List Text → Stage
adds stage paths = fold next stage paths

abbrev walk_of : Walk → List Text → Walk
walk_of from words = fold (walked top.rules []) from words

-- after `--` each argument is a path
behind_faults : (stage : Stage) (words : List Text) → walk_fault top [] (walk_at true stage) words ≡ []
unfolding walk_fault
behind_faults stage [] = refl
behind_faults stage (word ∷ words) =
    let met = behind_met stage word in
    ap (λ (fault : Kinds). or_else fault (walk_fault top [] (walked top.rules [] (walk_at true stage) word) words)) met.0
    ∙ ap (λ (w : Walk). walk_fault top [] w words) met.1 ∙ behind_faults (next stage word) words

behind_ends : (stage : Stage) (words : List Text) → walk_of (walk_at true stage) words ≡ walk_at true (adds stage words)
behind_ends stage [] = refl
behind_ends stage (word ∷ words) = ap (λ (w : Walk). walk_of w words) (behind_met stage word).1 ∙ behind_ends (next stage word) words

paths_behind : (word : Text) (words : List Text) → bytes_eq word dashes ≡ true → paths_in (word ∷ words) ≡ Some words
paths_behind word words is = rw is refl

paths_refused : (word : Text) (words : List Text) → bytes_eq word dashes ≡ false → is_option word ≡ true → paths_in (word ∷ words) ≡ None
paths_refused word words other option = rw (other, option) refl

paths_more : (word : Text) (words : List Text) → bytes_eq word dashes ≡ false → is_option word ≡ false
    → paths_in (word ∷ words) ≡ option_map (λ paths. word ∷ paths) (paths_in words)
paths_more word words other option = rw (other, option) refl

-- the walk fails if there are no paths
abbrev faults_of : Option (List Text) → Kinds
faults_of None = UnknownArgument ∷ []
faults_of (Some paths) = []

faults_of_more : (word : Text) (paths : Option (List Text)) → faults_of (option_map (λ more. word ∷ more) paths) ≡ faults_of paths
faults_of_more word None = refl
faults_of_more word (Some paths) = refl

-- one more argument in front of arguments whose fault is known
one_fault : (stage : Stage) (word : Text) (words : List Text) → walk_fault top [] (walk_at false (next stage word)) words ≡ faults_of (paths_in words)
    → (behind option : Bool) → bytes_eq word dashes ≡ behind → is_option word ≡ option
    → walk_fault top [] (walk_at false stage) (word ∷ words) ≡ faults_of (paths_in (word ∷ words))
unfolding walk_fault
one_fault stage word words rest true _ is _ =
    let met = dashes_met stage word is in
    ap (λ (fault : Kinds). or_else fault (walk_fault top [] (walked top.rules [] (walk_at false stage) word) words)) met.0
    ∙ ap (λ (w : Walk). walk_fault top [] w words) met.1 ∙ behind_faults stage words ∙ sym (ap faults_of (paths_behind word words is))
one_fault stage word words rest false true other option =
    option_met stage word other option (walk_fault top [] (walked top.rules [] (walk_at false stage) word) words)
    ∙ sym (ap faults_of (paths_refused word words other option))
one_fault stage word words rest false false other option =
    let met = path_met stage word other option in
    ap (λ (fault : Kinds). or_else fault (walk_fault top [] (walked top.rules [] (walk_at false stage) word) words)) met.0
    ∙ ap (λ (w : Walk). walk_fault top [] w words) met.1 ∙ rest
    ∙ sym (ap faults_of (paths_more word words other option) ∙ faults_of_more word (paths_in words))

faults : (stage : Stage) (words : List Text) → walk_fault top [] (walk_at false stage) words ≡ faults_of (paths_in words)
unfolding walk_fault
faults stage [] = refl
faults stage (word ∷ words) = one_fault stage word words (faults (next stage word) words) (bytes_eq word dashes) (is_option word) refl refl

-- and ends after the paths if there are some
abbrev EndsAt : Stage → List Text → Option (List Text) → Type 0
EndsAt stage words None = ⊤
EndsAt stage words (Some paths) = (behind : Bool) × (walk_of (walk_at false stage) words ≡ walk_at behind (adds stage paths))

ends_more : (stage : Stage) (word : Text) (words : List Text) → walked top.rules [] (walk_at false stage) word ≡ walk_at false (next stage word)
    → (paths : Option (List Text)) → EndsAt (next stage word) words paths → EndsAt stage (word ∷ words) (option_map (λ more. word ∷ more) paths)
ends_more stage word words met None end = tt
ends_more stage word words met (Some paths) end = (end.0, ap (λ (w : Walk). walk_of w words) met ∙ end.1)

one_end : (stage : Stage) (word : Text) (words : List Text) → EndsAt (next stage word) words (paths_in words)
    → (behind option : Bool) → bytes_eq word dashes ≡ behind → is_option word ≡ option → EndsAt stage (word ∷ words) (paths_in (word ∷ words))
one_end stage word words rest true _ is _ = subst (EndsAt stage (word ∷ words)) (sym (paths_behind word words is))
    (true, ap (λ (w : Walk). walk_of w words) (dashes_met stage word is).1 ∙ behind_ends stage words)
one_end stage word words rest false true other option = subst (EndsAt stage (word ∷ words)) (sym (paths_refused word words other option)) tt
one_end stage word words rest false false other option = subst (EndsAt stage (word ∷ words)) (sym (paths_more word words other option))
    (ends_more stage word words (path_met stage word other option).1 (paths_in words) rest)

ends : (stage : Stage) (words : List Text) → EndsAt stage words (paths_in words)
ends stage [] = (false, refl)
ends stage (word ∷ words) = one_end stage word words (ends (next stage word) words) (bytes_eq word dashes) (is_option word) refl refl

-- what is checked after the walk passes
abbrev checks : Walk → Kinds
checks end =
    or_else (entered_fault (built app) end.stopped)
    (or_else (settle_fault top.rules top.args_override_self end.held)
    (or_else (defaults_fault (settled top.rules end.held).rows top.rules)
    (check_fault top (finished top.rules end.held) (is_some (entered (built app) end.stopped)))))

checks_pass : (behind : Bool) (stage : Stage) → checks (walk_at behind stage) ≡ []
unfolding defaults_fault
checks_pass behind Fresh = refl
checks_pass behind (Scripted script) = refl
checks_pass behind (Traced script [] trace) = refl
checks_pass behind (Traced script (x ∷ traces) trace) = refl

-- the paths that a stage holds
abbrev script_of : Stage → Option Text
script_of Fresh = None
script_of (Scripted script) = Some script
script_of (Traced script traces trace) = Some script

abbrev traces_of : Stage → List Text
traces_of (Traced script traces trace) = traces ++ trace ∷ []
traces_of _ = []

script_found : (stage : Stage) → first_of (codes "SCRIPT") (finished top.rules (held_at stage)) ≡ script_of stage
script_found Fresh = refl
script_found (Scripted script) = refl
script_found (Traced script [] trace) = refl
script_found (Traced script (x ∷ traces) trace) = refl

traces_found : (stage : Stage) → unwrap_or (all_of (codes "TRACE") (finished top.rules (held_at stage))) [] ≡ traces_of stage
traces_found Fresh = refl
traces_found (Scripted script) = refl
traces_found (Traced script [] trace) = refl
traces_found (Traced script (x ∷ traces) trace) = refl

adds_traces : (script : Text) (traces : List Text) (trace : Text) (paths : List Text)
    → (script_of (adds (Traced script traces trace) paths) ≡ Some script) × (traces_of (adds (Traced script traces trace) paths) ≡ traces ++ trace ∷ paths)
adds_traces script traces trace [] = (refl, refl)
adds_traces script traces trace (path ∷ paths) =
    let more = adds_traces script (traces ++ trace ∷ []) path paths in
    (more.0, more.1 ∙ append_assoc traces (trace ∷ []) (path ∷ paths))

named_at : (paths : List Text) → script_and_traces paths ≡ record { script = option_and_then script_at (script_of (adds Fresh paths)); traces = traces_of (adds Fresh paths) }
named_at [] = refl
named_at (script ∷ []) = refl
named_at (script ∷ trace ∷ paths) = let more = adds_traces script [] trace paths in rw (more.0, more.1) refl

fault_is : (args : List Text) → fault_of app args ≡ or_else (walk_fault top [] (walk_at false Fresh) (drop 1 args)) (checks (walk_of (walk_at false Fresh) (drop 1 args)))
fault_is args = refl

rows_are : (args : List Text) → matches_of app args ≡ finished top.rules (walk_of (walk_at false Fresh) (drop 1 args)).held
rows_are args = refl

-- the parser finds what the arguments name
found_named : (args paths : List Text) (f : Found) (behind : Bool) → walk_of (walk_at false Fresh) (drop 1 args) ≡ walk_at behind (adds Fresh paths) → rows_of f ≡ matches_of app args
    → script_and_traces paths ≡ record { script = option_and_then script_at (first_value f (codes "SCRIPT")); traces = unwrap_or (option_map raw_values (matched_of f (codes "TRACE"))) [] }
found_named args paths f behind end rows =
    let stage = adds Fresh paths in
    let all : rows_of f ≡ finished top.rules (held_at stage) = rows ∙ ap (λ (w : Walk). finished top.rules w.held) end in
    let script = first_value-rows f (codes "SCRIPT") ∙ ap (first_of (codes "SCRIPT")) all ∙ script_found stage in
    let traces = ap (λ (ts : Option (List Text)). unwrap_or ts []) (raw_values-rows f (codes "TRACE") ∙ ap (all_of (codes "TRACE")) all) ∙ traces_found stage in
    rw (script, traces) (named_at paths)

-- arguments that are read name what the parser found
read_words_name : (args : List Text) (f : Found) (paths : Option (List Text)) → paths_in (drop 1 args) ≡ paths → EndsAt Fresh (drop 1 args) paths
    → fault_of app args ≡ [] → rows_of f ≡ matches_of app args
    → option_map script_and_traces paths ≡ Some (record { script = option_and_then script_at (first_value f (codes "SCRIPT")); traces = unwrap_or (option_map raw_values (matched_of f (codes "TRACE"))) [] })
read_words_name args f None is end fault rows =
    let refused : UnknownArgument ∷ [] ≡ [] = sym (ap (λ (kinds : Kinds). or_else kinds (checks (walk_of (walk_at false Fresh) (drop 1 args)))) (faults Fresh (drop 1 args) ∙ ap faults_of is)) ∙ fault in
    cc
read_words_name args f (Some paths) is end fault rows = ap Some (found_named args paths f end.0 end.1 rows)

-- arguments that the parser refuses name nothing
refused_words_name : (args : List Text) (kind : ErrorKind) (paths : Option (List Text)) → paths_in (drop 1 args) ≡ paths → EndsAt Fresh (drop 1 args) paths
    → IsAmong kind (fault_of app args) → option_map script_and_traces paths ≡ None
refused_words_name args kind None is end among = refl
refused_words_name args kind (Some paths) is end among =
    let none : fault_of app args ≡ [] =
    ap (λ (kinds : Kinds). or_else kinds (checks (walk_of (walk_at false Fresh) (drop 1 args)))) (faults Fresh (drop 1 args) ∙ ap faults_of is)
    ∙ ap checks end.1 ∙ checks_pass end.0 (adds Fresh paths) in
    absurd (subst (IsAmong kind) none among)

read_named : (args : List Text) (f : Found) → fault_of app args ≡ [] → rows_of f ≡ matches_of app args
    → named_by_words args ≡ Some (record { script = option_and_then script_at (first_value f (codes "SCRIPT")); traces = unwrap_or (option_map raw_values (matched_of f (codes "TRACE"))) [] })
read_named args f = read_words_name args f (paths_in (drop 1 args)) refl (ends Fresh (drop 1 args))

refused_named : (args : List Text) (kind : ErrorKind) → IsAmong kind (fault_of app args) → named_by_words args ≡ None
refused_named args kind = refused_words_name args kind (paths_in (drop 1 args)) refl (ends Fresh (drop 1 args))

-- the command as it is put together
pub app_from : (named plain with_script whole : App) (script trace : Rule) → whole ≡ with_rule with_script trace → with_script ≡ with_rule plain script
    → plain ≡ on_top (λ s. record s { disable_help_flag = true }) named → named ≡ new_app (codes "histdesk") → script ≡ script_rule → trace ≡ trace_rule → whole ≡ app
app_from named plain with_script whole script trace last first no_help name script_is trace_is =
    last ∙ ap₂ with_rule (first ∙ ap₂ with_rule (no_help ∙ ap (on_top (λ (s : Shape). record s { disable_help_flag = true })) name) script_is) trace_is

-- a command that is ours, with what its parse says
pub read_by : (whole : App) (args : List Text) (m : ArgMatches) → whole ≡ app → fault_of whole args ≡ [] → rows_of (found_of m) ≡ matches_of whole args
    → named_by_words args ≡ Some (found_by m)
read_by whole args m is fault rows = read_named args (found_of m) (ap (λ (a : App). fault_of a args) (sym is) ∙ fault) (rows ∙ ap (λ (a : App). matches_of a args) is)

pub refused_by : (whole : App) (args : List Text) (kind : ErrorKind) → whole ≡ app → IsAmong kind (fault_of whole args) → named_by_words args ≡ None
refused_by whole args kind is among = refused_named args kind (subst (IsAmong kind) (ap (λ (a : App). fault_of a args) is) among)

-- a fault that is `Refused` only if the arguments name nothing
pub err_gives : (named : Option Named) (fault : WordsFault) → (fault ≡ faults_named.Refused → named ≡ None) → WordsGive named (Err fault)
err_gives named faults_named.Memory none = tt
err_gives named faults_named.Refused none = none refl
