-- What has been read of a trigger's head, and what one more part or item adds to it (kernel: histogram.rst, hist triggers).
use Rattle.std.specs.Prelude.{filter, option_map, ℕ, ◌+◌, ◌^◌, Bool, true, false, not, ◌&&◌, ◌||◌, ◌==◌, nat_le, List, [], ◌∷◌, ◌++◌, length, drop, Option, Some, None, Result, Ok, Err, if◌then◌else◌, codes}
use Rattle.std.specs.List.{list_any, starts_with, find}
use Rattle.std.specs.Option.{option_map_or, option_or, is_some}
use Rattle.std.specs.Str.{bytes_eq}
use Rattle.std.specs.Str.Parse.{digits_value}
use Rattle.ft_fields.specs.declared.event.Name.{Name}
use Rattle.ft_fields.specs.declared.event.Name.TheVariants as names
use Rattle.ft_fields.specs.declared.field.Field.{Field}
use Rattle.ft_fields.specs.Fields.{is_field_named, all_fields, is_text, field_text}
use Rattle.ft_hist.specs.declared.fault.TriggerFault.{TriggerFault}
use Rattle.ft_hist.specs.declared.fault.TriggerFault.TheVariants.{Syntax, NoField, NotNumeric, TooMany, Duplicate, BadSize, BadSort, BadModifier, LeftOut}
use Rattle.ft_hist.specs.declared.item.KeyItem.{KeyItem}
use Rattle.ft_hist.specs.declared.modifier.Mode.{Mode}
use Rattle.ft_hist.specs.declared.modifier.Mode.TheVariants as modes
use Rattle.ft_head.specs.declared.draft.Kind.{Kind}
use Rattle.ft_head.specs.declared.draft.Kind.TheVariants.{Keys, Values, Sort, Size}
use Rattle.ft_hist.specs.declared.label.Var.{Var}
use Rattle.ft_hist.specs.declared.label.Var.TheVariants as vars
use Rattle.ft_hist.specs.Hit.{same_name}
use Rattle.ft_hist.specs.Modifiers.{named_modes, mode_is_called}
use Rattle.ft_hist.specs.Powers.{first_power}
use Rattle.ft_head.specs.Onmatch.{Action, Handed, handed_of}
use Rattle.ft_text.specs.Items.{Piece, pieces, Word, word_of, is_word, same_word, is_name, is_number, number_in}
use Rattle.ft_text.specs.Tokens.{name_at}

-- what has been read so far; a list that has not been read yet is none, and names are not yet resolved
pub record Draft : Type 0 where
  pub keys : Option (List KeyItem)
  pub values : Option (List Word)
  pub sort : Option (List Word)
  pub size : Option ℕ
  pub variable : Option Var
  pub onmatch : Option Action

-- nothing yet
abbrev pub empty_draft : Draft
empty_draft = record { keys = None; values = None; sort = None; size = None; variable = None; onmatch = None }

infixl 10 ◌>>=◌
-- what follows a step that has no fault
abbrev pub ◌>>=◌ : {A B : Type 0} → Result A TriggerFault → (A → Result B TriggerFault) → Result B TriggerFault
(Ok x) >>= f = f x
(Err fault) >>= f = Err fault

-- the first test that is met decides, or else what follows
abbrev pub unless : {A : Type 0} → List (Bool × TriggerFault) → Result A TriggerFault → Result A TriggerFault
unless [] next = next
unless (rule ∷ rules) next = if rule.0 then Err rule.1 else unless rules next

-- what follows if a thing is there, or else the fault
abbrev pub given_or : {A B : Type 0} → TriggerFault → Option A → (A → Result B TriggerFault) → Result B TriggerFault
given_or fault (Some found) next = next found
given_or fault None next = Err fault

-- the items of a list, from left to right: each is a word, and adds to those before it (kernel: histogram.rst, hist triggers)
abbrev pub items_from : {A : Type 0} → (List A → ℕ → Word → Result (List A) TriggerFault) → List A → List Piece → Result (List A) TriggerFault
items_from add list [] = Ok list
items_from add list (item ∷ items) = given_or (Syntax item.place) (word_of item.bytes) (add list item.place) >>= (λ more. items_from add more items)

-- the items of a list that begins at a place (kernel: histogram.rst, hist triggers)
abbrev pub items_of : {A : Type 0} → (List A → ℕ → Word → Result (List A) TriggerFault) → ℕ → List ℕ → Result (List A) TriggerFault
items_of add place text = items_from add [] (pieces 44 place text)

-- ---- words that are left out

-- a modifier that the kernel has and the desk has not (kernel: histogram.rst, modifiers)
abbrev pub is_left_out : Option (List ℕ) → Bool
is_left_out None = false
is_left_out (Some suffix) =
    list_any (bytes_eq suffix)
    (codes "execname" ∷ codes "sym" ∷ codes "sym-offset" ∷ codes "syscall" ∷ codes "percent" ∷ codes "graph" ∷ codes "stacktrace" ∷ [])

-- ---- keys

-- buckets of a size (kernel: histogram.rst, modifiers)
abbrev pub buckets_of : List ℕ → Option Mode
buckets_of suffix = if starts_with ◌==◌ suffix (codes "buckets=") then option_map modes.Buckets (number_in 1 4294967295 (drop 8 suffix)) else None

-- the modifier that stands after a `.`: a name and nothing else, or buckets of a size (kernel: histogram.rst, modifiers)
abbrev pub number_mode : List ℕ → Option Mode
number_mode suffix = option_or (find (mode_is_called suffix) named_modes) (buckets_of suffix)

-- what a modifier makes of a field: each modifier needs a field of numbers (kernel: histogram.rst, modifiers)
abbrev pub mode_of : Bool → Option (List ℕ) → Option Mode
mode_of text None = Some modes.Plain
mode_of text (Some suffix) = if text then None else number_mode suffix

-- the field is a key's
abbrev pub is_key : List KeyItem → Field → Bool
is_key keys field = list_any (λ key. bytes_eq (field_text key.field) (field_text field)) keys

-- a word that is no key, though the kernel has it: a variable, a stamp, a stack trace (kernel: histogram.rst, `keys`)
abbrev pub is_no_key : Word → Bool
is_no_key word = word.dollar || list_any (bytes_eq word.name) (codes "common_timestamp" ∷ codes "stacktrace" ∷ codes "common_stacktrace" ∷ [])

-- one more key item of a field, with what is after its `.` (kernel: histogram.rst, modifiers)
abbrev pub with_field : List KeyItem → ℕ → Field → Option (List ℕ) → Result (List KeyItem) TriggerFault
with_field keys place field suffix =
    unless ((is_left_out suffix, LeftOut place) ∷ [])
    (given_or BadModifier (mode_of (is_text field) suffix) (λ mode.
    unless ((is_key keys field, Duplicate) ∷ []) (Ok (keys ++ record { field = field; mode = mode } ∷ []))))

-- one more key item (kernel: histogram.rst, `keys`)
unfoldable pub with_key : Name → List KeyItem → ℕ → Word → Result (List KeyItem) TriggerFault
with_key event keys place word =
    unless (
    (nat_le 3 (length keys), TooMany)
    ∷ (is_no_key word, LeftOut place)
    ∷ []
    ) (given_or NoField (find (is_field_named event word.name) all_fields) (λ field. with_field keys place field word.suffix))

-- ---- values

-- the values besides `hitcount` (kernel: histogram.rst, `values`)
abbrev pub besides_hitcount : List Word → List Word
besides_hitcount words = filter (λ word. not (is_word word (codes "hitcount"))) words

-- what is wrong with a word as a value's field: it is no field of the event, or one that holds texts; `$name` and `hitcount` name no field (kernel: histogram.rst, `values`)
abbrev pub value_fault : Name → Word → Option TriggerFault
value_fault event word =
    if word.dollar || is_word word (codes "hitcount") then None
    else option_map_or (λ field. if is_text field then Some NotNumeric else None) (find (is_field_named event word.name) all_fields) (Some NoField)

-- one more value item (kernel: histogram.rst, `values`; three besides `hitcount` are our own choice)
unfoldable pub with_value : Name → List Word → ℕ → Word → Result (List Word) TriggerFault
with_value event words place word =
    unless (
    (not (is_word word (codes "hitcount")) && nat_le 3 (length (besides_hitcount words)), TooMany)
    ∷ (is_word word (codes "common_timestamp"), LeftOut place)
    ∷ (is_left_out word.suffix, LeftOut place)
    ∷ (is_some word.suffix, BadModifier)
    ∷ []
    ) (option_map_or Err (value_fault event word)
    (unless ((list_any (same_word word) words, Duplicate) ∷ []) (Ok (words ++ word ∷ []))))

-- ---- sort items

-- a suffix that says which way (kernel: histogram.rst, `sort`)
abbrev pub is_direction : Option (List ℕ) → Bool
is_direction None = true
is_direction (Some suffix) = bytes_eq suffix (codes "ascending") || bytes_eq suffix (codes "descending")

-- one more sort item (kernel: histogram.rst, `sort`)
unfoldable pub with_sort : List Word → ℕ → Word → Result (List Word) TriggerFault
with_sort words place word =
    unless (
    (nat_le 2 (length words), TooMany)
    ∷ (not (is_direction word.suffix), BadSort)
    ∷ (list_any (same_word word) words, Duplicate)
    ∷ []
    ) (Ok (words ++ word ∷ []))

-- ---- size

-- the least power of 2 that is not below a number (kernel: histogram.rst, `size`)
unfoldable pub rounded : ℕ → ℕ
rounded number = 2 ^ first_power number number 0

-- a table may have this size (kernel: histogram.rst, `size`; the range is our own choice)
abbrev pub is_size : ℕ → Bool
is_size size = nat_le 128 size && nat_le size 131072

-- the size that a text writes: its number, rounded up to a power of 2, if a table may have that (kernel: histogram.rst, `size`; that it is tested after rounding is our own choice)
abbrev pub size_of : List ℕ → Option ℕ
size_of text = if is_number text && is_size (rounded (digits_value 10 text)) then Some (rounded (digits_value 10 text)) else None

-- ---- variables

-- the value of a variable that saves, or the name of the variable that is read (kernel: histogram.rst, inter-event hist triggers)
pub data Stamp : Type 0 where
  Saved : Stamp
  Since : List ℕ → Stamp

-- the value of a variable's part (kernel: histogram.rst, inter-event hist triggers)
unfoldable pub variable_stamp : List ℕ → Option Stamp
variable_stamp value =
    if bytes_eq value (codes "common_timestamp.usecs") then Some Saved
    else (if starts_with ◌==◌ value (codes "common_timestamp.usecs-$") && is_name (drop 24 value) then Some (Since (drop 24 value)) else None)

-- the variable of a name and a value (kernel: histogram.rst, inter-event hist triggers)
abbrev pub var_of : List ℕ → Stamp → Var
var_of name Saved = vars.Saves name
var_of name (Since source) = vars.Reads name source

-- the name is the one that is read
abbrev pub reads_itself : List ℕ → Stamp → Bool
reads_itself name Saved = false
reads_itself name (Since source) = bytes_eq name source

-- a variable may not have this name: that of a field of the event, `hitcount`, or the name that it reads
abbrev pub is_taken : Name → List ℕ → Stamp → Bool
is_taken event name stamp = is_some (find (is_field_named event name) all_fields) || (bytes_eq name (codes "hitcount") || reads_itself name stamp)

-- ---- parts

-- how a part of a kind begins (kernel: histogram.rst, hist triggers)
abbrev pub labels : List (List ℕ × Kind)
labels =
    (codes "keys=", Keys) ∷ (codes "key=", Keys) ∷ (codes "values=", Values) ∷ (codes "vals=", Values) ∷ (codes "val=", Values) ∷ (codes "sort=", Sort) ∷ (codes "size=", Size) ∷ []

-- a part that the kernel has and the desk has not (kernel: histogram.rst, hist triggers)
abbrev pub is_part_left_out : List ℕ → Bool
is_part_left_out part =
    list_any (bytes_eq part) (codes "pause" ∷ codes "cont" ∷ codes "clear" ∷ codes "nohitcount" ∷ [])
    || list_any (starts_with ◌==◌ part) (codes "name=" ∷ codes "clock=" ∷ codes "onmax(" ∷ codes "onchange(" ∷ [])

-- a part of a kind, whose list or number begins at a place (kernel: histogram.rst, hist triggers)
unfoldable pub with_kind : Name → Draft → Kind → ℕ → List ℕ → Result Draft TriggerFault
with_kind event draft Keys place text =
    unless ((is_some draft.keys, Duplicate) ∷ []) (items_of (with_key event) place text >>= (λ keys. Ok (record draft { keys = Some keys })))
with_kind event draft Values place text =
    unless ((is_some draft.values, Duplicate) ∷ []) (items_of (with_value event) place text >>= (λ words. Ok (record draft { values = Some words })))
with_kind event draft Sort place text =
    unless ((is_some draft.sort, Duplicate) ∷ []) (items_of with_sort place text >>= (λ words. Ok (record draft { sort = Some words })))
with_kind event draft Size place text =
    unless ((is_some draft.size, Duplicate) ∷ []) (given_or BadSize (size_of text) (λ size. Ok (record draft { size = Some size })))

-- a variable's name and value, whose part begins at a place: at most one stands, and none on the event that triggers make (kernel: histogram.rst, inter-event hist triggers)
abbrev pub with_named : Name → Draft → ℕ → List ℕ → List ℕ → Result Draft TriggerFault
with_named event draft place name value =
    unless ((same_name event names.WakeupLatency, LeftOut place) ∷ (is_some draft.variable, LeftOut place) ∷ [])
    (given_or (LeftOut place) (variable_stamp value) (λ stamp.
    unless ((is_taken event name stamp, Duplicate) ∷ []) (Ok (record draft { variable = Some (var_of name stamp) }))))

-- a part that is a name, `=` and a value; any other is a syntax fault (kernel: histogram.rst, inter-event hist triggers)
unfoldable pub with_variable : Name → Draft → Piece → Result Draft TriggerFault
with_variable event draft part =
    given_or (Syntax part.place) (name_at part.bytes) (λ cut.
    unless ((not (starts_with ◌==◌ cut.1 (codes "=")), Syntax part.place) ∷ []) (with_named event draft part.place cut.0 (drop 1 cut.1)))

-- a field of numbers of the event (kernel: histogram.rst, the `onmatch` handler)
abbrev pub number_field : Name → List ℕ → Result Field TriggerFault
number_field event name = given_or NoField (find (is_field_named event name) all_fields) (λ field. unless ((is_text field, NotNumeric) ∷ []) (Ok field))

-- what events are made of, by the words of its part: both fields are the event's, and hold numbers (kernel: histogram.rst, the `onmatch` handler)
abbrev pub action_of : Name → Handed → Result Action TriggerFault
action_of event words =
    number_field event words.pid >>= (λ pid.
    number_field event words.prio >>= (λ prio.
    Ok (record { own = words.own; onmatch = record { event = words.event; pid = pid; prio = prio } })))

-- what events are made of: at most one stands (kernel: histogram.rst, the `onmatch` handler)
abbrev pub with_handed : Name → Draft → Handed → Result Draft TriggerFault
with_handed event draft words =
    unless ((is_some draft.onmatch, Duplicate) ∷ [])
    (action_of event words >>= (λ action. Ok (record draft { onmatch = Some action })))

-- a part that says what events are made of: none stands on the event that triggers make, and another form is left out (kernel: histogram.rst, the `onmatch` handler)
unfoldable pub with_onmatch : Name → Draft → Piece → Result Draft TriggerFault
with_onmatch event draft part =
    unless ((same_name event names.WakeupLatency, LeftOut part.place) ∷ [])
    (given_or (LeftOut part.place) (handed_of part.bytes) (with_handed event draft))

-- a part of no kind: one that says what events are made of, or a variable's (kernel: histogram.rst, hist triggers)
abbrev pub with_other : Name → Draft → Piece → Result Draft TriggerFault
with_other event draft part = if starts_with ◌==◌ part.bytes (codes "onmatch(") then with_onmatch event draft part else with_variable event draft part

-- one more part of a head (kernel: histogram.rst, hist triggers)
unfoldable pub with_part : Name → Draft → Piece → Result Draft TriggerFault
with_part event draft part =
    unless ((is_part_left_out part.bytes, LeftOut part.place) ∷ [])
    (option_map_or (λ label. with_kind event draft label.1 (part.place + length label.0) (drop (length label.0) part.bytes))
    (find (λ label. starts_with ◌==◌ part.bytes label.0) labels)
    (with_other event draft part))

-- the parts of a head, from left to right (kernel: histogram.rst, hist triggers)
unfoldable pub parts_from : Name → Draft → List Piece → Result Draft TriggerFault
parts_from event draft [] = Ok draft
parts_from event draft (part ∷ parts) = with_part event draft part >>= (λ more. parts_from event more parts)
