-- Triggers as texts, and the first fault (kernel: histogram.rst, hist triggers).
use Rattle.std.specs.Prelude.{◌≡◌, ℕ, ◌+◌, ◌-◌, Bool, false, not, ◌&&◌, ◌==◌, List, [], ◌∷◌, length, take, drop, reverse, slice_index, Option, Some, None, option_map, Result, Ok, Err, unwrap_or, if◌then◌else◌, codes}
use Rattle.std.specs.List.{prefix_len, starts_with}
use Rattle.std.specs.Option.{option_map_or}
use Rattle.std.specs.Str.{bytes_eq}
use Rattle.ft_fields.specs.declared.event.Name.{Name}
use Rattle.ft_fields.specs.Fields.{is_field_named, all_fields, field_text}
use Rattle.ft_filter.specs.declared.fault.FilterFault.{FilterFault}
use Rattle.ft_filter.specs.Tree.{Tree}
use Rattle.ft_filter.specs.Answers.{filter_of}
use Rattle.ft_text.specs.Tokens.{is_gap, skip}
use Rattle.ft_hist.specs.declared.fault.TriggerFault.{TriggerFault}
use Rattle.ft_hist.specs.declared.fault.TriggerFault.TheVariants.{Syntax, NoField, BadSort, BadFilter}
use Rattle.ft_hist.specs.declared.item.KeyItem.{KeyItem}
use Rattle.ft_hist.specs.declared.item.Item.{Item}
use Rattle.ft_hist.specs.declared.item.Item.TheVariants as items
use Rattle.ft_hist.specs.declared.item.SortBy.{SortBy}
use Rattle.ft_hist.specs.declared.item.SortBy.TheVariants as sorts
use Rattle.ft_hist.specs.declared.item.SortItem.{SortItem}
use Rattle.ft_hist.specs.declared.label.Var.{Var}
use Rattle.ft_hist.specs.declared.label.Var.TheVariants as vars
use Rattle.std.specs.List.{find}
use Rattle.ft_head.specs.Onmatch.{Action}
use Rattle.ft_text.specs.Items.{pieces, Word, is_word}
use Rattle.ft_head.specs.Draft.{Draft, empty_draft, ◌>>=◌, unless, given_or, besides_hitcount, parts_from}
use Rattle.ft_hist.specs.Hist.{Hist}

-- ---- head and tail

-- how many bytes the head has: up to the first space or tab
abbrev pub head_len : List ℕ → ℕ
head_len text = prefix_len (λ byte. not (is_gap byte)) text

-- what is after the head, without the spaces and tabs that it begins with
abbrev pub behind_head : List ℕ → List ℕ
behind_head text = skip (drop (head_len text) text)

-- the text without the spaces and tabs that it ends with
abbrev pub without_end : List ℕ → List ℕ
without_end text = reverse (skip (reverse text))

-- the tail: what is after the head, without spaces and tabs at both ends
abbrev pub trigger_tail : List ℕ → List ℕ
trigger_tail text = without_end (behind_head text)

-- what a tail has after `if` and one or more spaces or tabs, if it begins so (kernel: events.rst, `if` before a filter)
abbrev pub behind_if : List ℕ → Option (List ℕ)
behind_if tail = if starts_with ◌==◌ tail (codes "if") && is_gap (slice_index tail 2) then Some (skip (drop 2 tail)) else None

-- a filter that is read, or its fault as the trigger's (kernel: events.rst, event filtering)
abbrev pub filter_or_fault : Result Tree FilterFault → Result (Option Tree) TriggerFault
filter_or_fault (Ok tree) = Ok (Some tree)
filter_or_fault (Err fault) = Err (BadFilter fault)

-- the filter of a tail that begins at a place: none if the tail is empty (kernel: events.rst, `if` before a filter)
unfoldable pub tail_filter : Name → ℕ → List ℕ → Result (Option Tree) TriggerFault
tail_filter event place tail =
    if length tail == 0 then Ok None
    else given_or (Syntax place) (behind_if tail) (λ text. filter_or_fault (filter_of event text))

-- ---- what is tested after the parts

-- the trigger's own variable (kernel: histogram.rst, inter-event hist triggers)
abbrev pub own_name : Option Var → Option (List ℕ)
own_name None = None
own_name (Some (vars.Saves name)) = Some name
own_name (Some (vars.Reads own source)) = Some own

-- a value as the trigger sums it: its own variable, or a field (kernel: histogram.rst, `values`)
abbrev pub value_item : Name → Option (List ℕ) → Word → Option Item
value_item event own word =
    if word.dollar then option_map_or (λ name. if bytes_eq word.name name then Some items.Own else None) own None
    else option_map items.Num (find (is_field_named event word.name) all_fields)

-- values, from left to right; a `$name` that is not the trigger's own variable is a fault (kernel: histogram.rst, `values`)
abbrev pub value_items : Name → Option (List ℕ) → List Word → Result (List Item) TriggerFault
value_items event own [] = Ok []
value_items event own (word ∷ words) =
    given_or NoField (value_item event own word) (λ value. value_items event own words >>= (λ values. Ok (value ∷ values)))

-- the number of the first thing that passes, from 0
abbrev pub index_where : {A : Type 0} → (A → Bool) → ℕ → List A → Option ℕ
index_where test n [] = None
index_where test n (x ∷ xs) = if test x then Some n else index_where test (n + 1) xs

-- a value is what the word names: the own variable with its `$`, or a field
abbrev pub names_value : Option (List ℕ) → Word → Item → Bool
names_value own word (items.Num field) = not word.dollar && bytes_eq word.name (field_text field)
names_value own word items.Own = word.dollar && option_map_or (bytes_eq word.name) own false

-- what a sort item names: `hitcount`, a key's field, or a value; a key before a value (kernel: histogram.rst, `sort`)
unfoldable pub sort_by : List KeyItem → List Item → Option (List ℕ) → Word → Option SortBy
sort_by keys values own word =
    if is_word word (codes "hitcount") then Some sorts.Hits
    else option_map_or (λ n. Some (sorts.Key n)) (index_where (λ key. is_word word (field_text key.field)) 0 keys)
    (option_map sorts.Value (index_where (names_value own word) 0 values))

-- the sort item says that the greatest comes first (kernel: histogram.rst, `sort`)
abbrev pub is_descending : Word → Bool
is_descending word = option_map_or (bytes_eq (codes "descending")) word.suffix false

-- sort items, from left to right; one that names nothing is a fault (kernel: histogram.rst, `sort`)
abbrev pub sorts_of : List KeyItem → List Item → Option (List ℕ) → List Word → Result (List SortItem) TriggerFault
sorts_of keys values own [] = Ok []
sorts_of keys values own (word ∷ words) =
    given_or BadSort (sort_by keys values own word) (λ what.
    sorts_of keys values own words >>= (λ sorts. Ok (record { what = what; descending = is_descending word } ∷ sorts)))

-- the one sort item of a trigger that names none (kernel: histogram.rst, `sort`)
abbrev pub by_hits : List SortItem
by_hits = record { what = sorts.Hits; descending = false } ∷ []

-- the sort items of a draft (kernel: histogram.rst, `sort`)
abbrev pub sort_of : List KeyItem → List Item → Option (List ℕ) → Option (List Word) → Result (List SortItem) TriggerFault
sort_of keys values own None = Ok by_hits
sort_of keys values own (Some words) = sorts_of keys values own words

-- the variable reads a stamp, and has this name (kernel: histogram.rst, inter-event hist triggers)
abbrev pub reads_as : Option Var → List ℕ → Bool
reads_as (Some (vars.Reads own source)) name = bytes_eq name own
reads_as variable name = false

-- events are made of a name that isn't the trigger's own variable, or that variable reads no stamp (kernel: histogram.rst, the `onmatch` handler)
abbrev pub hands_other : Option Var → Option Action → Bool
hands_other variable None = false
hands_other variable (Some action) = not (reads_as variable action.own)

-- the sort items of a draft, after the variable that it hands on (kernel: histogram.rst, `sort`)
abbrev pub sort_in : Draft → List KeyItem → List Item → Result (List SortItem) TriggerFault
sort_in draft keys values =
    unless ((hands_other draft.variable draft.onmatch, NoField) ∷ []) (sort_of keys values (own_name draft.variable) draft.sort)

-- a draft and a tail as a trigger: keys must be there, then the values' variables, then the variable that is handed on, then the sort items, then the filter (kernel: histogram.rst, hist triggers)
unfoldable pub finished : Name → ℕ → ℕ → List ℕ → Draft → Result Hist TriggerFault
finished event head place tail draft =
    given_or (Syntax head) draft.keys (λ keys.
    value_items event (own_name draft.variable) (besides_hitcount (unwrap_or draft.values [])) >>= (λ values.
    sort_in draft keys values >>= (λ sort.
    tail_filter event place tail >>= (λ filter.
    Ok (record {
      event = event;
      keys = keys;
      values = values;
      sort = sort;
      variable = draft.variable;
      size = unwrap_or draft.size 2048;
      onmatch = option_map (λ action. action.onmatch) draft.onmatch;
      filter = filter;
    })))))

-- what a text on an event is: a trigger, or the first fault (kernel: histogram.rst, hist triggers)
unfoldable pub trigger_of : Name → List ℕ → Result Hist TriggerFault
trigger_of event text =
    unless ((not (starts_with ◌==◌ (take (head_len text) text) (codes "hist:")), Syntax 0) ∷ [])
    (parts_from event empty_draft (pieces 58 5 (drop 5 (take (head_len text) text)))
    >>= finished event (head_len text) (length text - length (behind_head text)) (trigger_tail text))

-- a text on an event is this trigger, or has this first fault (kernel: histogram.rst, hist triggers)
abbrev pub TriggerIs : Name → List ℕ → Result Hist TriggerFault → Type 0
TriggerIs event text answer = trigger_of event text ≡ answer
