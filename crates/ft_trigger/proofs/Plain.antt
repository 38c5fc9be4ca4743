-- The faults of a head are no filter's.
use Rattle.std.proofs.Common.{◌≡◌, ℕ, ◌+◌, length, drop, Bool, true, false, List, [], ◌∷◌, Option, Some, None, Result, Ok, Err, refl, sym, ap, ◌∙◌, subst, rules, ◌⊎◌, inl, inr, ◌≢◌, true≢false}
use Rattle.std.proofs.lemmas.Bool.{and_parts}
use Rattle.std.specs.Prelude.{if◌then◌else◌, codes, ◌==◌}
use Rattle.std.specs.List.{list_all, starts_with}
use Rattle.std.specs.Option.{option_map_or}
use Rattle.ft_fields.specs.declared.event.Name.{Name}
use Rattle.ft_fields.specs.declared.field.Field.{Field}
use Rattle.ft_fields.specs.Fields.{is_text}
use Rattle.ft_filter.specs.declared.fault.FilterFault.TheVariants as filters
use Rattle.ft_hist.specs.declared.fault.TriggerFault.{TriggerFault}
use Rattle.ft_hist.specs.declared.fault.TriggerFault.TheVariants.{Memory, Syntax, NoField, NotNumeric, BadFilter}
use Rattle.ft_head.specs.declared.draft.Kind.{Kind}
use Rattle.ft_head.specs.declared.draft.Kind.TheVariants.{Keys, Values, Sort, Size}
use Rattle.ft_hist.specs.declared.item.KeyItem.{KeyItem}
use Rattle.ft_hist.specs.declared.item.Item.{Item}
use Rattle.ft_head.specs.Onmatch.{Handed}
use Rattle.ft_text.specs.Items.{Piece, Word, word_of}
use Rattle.ft_head.specs.Draft.{Draft, unless, given_or, ◌>>=◌, items_from, with_field, with_key, with_value, with_sort, with_kind, with_named, with_variable, number_field, action_of, with_handed, with_onmatch, with_other, with_part, parts_from}
use Rattle.ft_trigger.specs.TriggerIs.{value_items, sorts_of, sort_of}

-- the fault is no filter's
abbrev pub is_plain : TriggerFault → Bool
is_plain (BadFilter fault) = false
is_plain fault = true

-- a step that has no fault, or one that is no filter's
abbrev pub Plain : {A : Type 0} → Result A TriggerFault → Type 0
Plain (Ok made) = Unit {0}
Plain (Err fault) = is_plain fault ≡ true

-- what follows a table of such faults
unless_plain : {A : Type 0} (rules : List (Bool × TriggerFault)) (next : Result A TriggerFault) → list_all (λ rule. is_plain rule.1) rules ≡ true → Plain next → Plain (unless rules next)
unless_plain [] next all plain = plain
unless_plain (rule ∷ rules) next all plain =
    let both = and_parts (is_plain rule.1) _ all in
    by rule.0 (unless rules next) both.0 (unless_plain rules next both.1 plain)
  where
    by : {A : Type 0} (b : Bool) (rest : Result A TriggerFault) → is_plain rule.1 ≡ true → Plain rest → Plain (if b then Err rule.1 else rest)
    by true rest fault plain = fault
    by false rest fault plain = plain

-- what follows a thing that must be there
given_plain : {A B : Type 0} (fault : TriggerFault) (found : Option A) (next : A → Result B TriggerFault) → is_plain fault ≡ true → ((x : A) → Plain (next x)) → Plain (given_or fault found next)
given_plain fault (Some x) next plain more = more x
given_plain fault None next plain more = plain

-- what follows a step
then_plain : {A B : Type 0} (step : Result A TriggerFault) (next : A → Result B TriggerFault) → Plain step → ((x : A) → Plain (next x)) → Plain (step >>= next)
then_plain (Ok x) next plain more = more x
then_plain (Err fault) next plain more = plain

-- items, if each is so
items_plain : {A : Type 0} (add : List A → ℕ → Word → Result (List A) TriggerFault) → ((list : List A) (place : ℕ) (word : Word) → Plain (add list place word)) → (list : List A) (items : List Piece) → Plain (items_from add list items)
items_plain add plain list [] = tt
items_plain add plain list (item ∷ items) =
    then_plain (given_or (Syntax item.place) (word_of item.bytes) (add list item.place)) (λ more. items_from add more items) (given_plain (Syntax item.place) (word_of item.bytes) (add list item.place) refl (plain list item.place)) (λ more. items_plain add plain more items)

-- key items
field_plain : (keys : List KeyItem) (place : ℕ) (field : Field) (suffix : Option (List ℕ)) → Plain (with_field keys place field suffix)
field_plain keys place field suffix = search (rules, unless_plain, given_plain)

key_plain : (event : Name) (keys : List KeyItem) (place : ℕ) (word : Word) → Plain (with_key event keys place word)
unfolding with_key
key_plain event keys place word = search (rules, unless_plain, given_plain, field_plain)

-- value items
or_plain : {A : Type 0} (fault : Option TriggerFault) (next : Result A TriggerFault) → option_map_or is_plain fault true ≡ true → Plain next → Plain (option_map_or Err fault next)
or_plain (Some fault) next plain more = plain
or_plain None next plain more = more

named_plain : (named : Bool) (field : Option Field) → option_map_or is_plain (if named then None else option_map_or (λ field. if is_text field then Some NotNumeric else None) field (Some NoField)) true ≡ true
named_plain true field = refl
named_plain false None = refl
named_plain false (Some field) = by (is_text field)
  where
    by : (b : Bool) → option_map_or is_plain (if b then Some NotNumeric else None) true ≡ true
    by true = refl
    by false = refl

value_plain : (event : Name) (words : List Word) (place : ℕ) (word : Word) → Plain (with_value event words place word)
unfolding with_value
value_plain event words place word = search (rules, unless_plain, or_plain, named_plain)

-- sort items
sort_plain : (words : List Word) (place : ℕ) (word : Word) → Plain (with_sort words place word)
unfolding with_sort
sort_plain words place word = search (rules, unless_plain)

-- parts of each kind
kind_plain : (event : Name) (draft : Draft) (kind : Kind) (place : ℕ) (text : List ℕ) → Plain (with_kind event draft kind place text)
unfolding with_kind
kind_plain event draft Keys place text = search (rules, unless_plain, then_plain, items_plain, key_plain)
kind_plain event draft Values place text = search (rules, unless_plain, then_plain, items_plain, value_plain)
kind_plain event draft Sort place text = search (rules, unless_plain, then_plain, items_plain, sort_plain)
kind_plain event draft Size place text = search (rules, unless_plain, given_plain)

-- variables
with_named_plain : (event : Name) (draft : Draft) (place : ℕ) (name value : List ℕ) → Plain (with_named event draft place name value)
with_named_plain event draft place name value = search (rules, unless_plain, given_plain)

variable_plain : (event : Name) (draft : Draft) (part : Piece) → Plain (with_variable event draft part)
unfolding with_variable
variable_plain event draft part = search (rules, unless_plain, given_plain, with_named_plain)

-- fields that are handed on
number_plain : (event : Name) (name : List ℕ) → Plain (number_field event name)
number_plain event name = search (rules, unless_plain, given_plain)

-- what events are made of
action_plain : (event : Name) (words : Handed) → Plain (action_of event words)
action_plain event words = search (rules, then_plain, number_plain)

handed_plain : (event : Name) (draft : Draft) (words : Handed) → Plain (with_handed event draft words)
handed_plain event draft words = search (rules, unless_plain, then_plain, action_plain)

onmatch_plain : (event : Name) (draft : Draft) (part : Piece) → Plain (with_onmatch event draft part)
unfolding with_onmatch
onmatch_plain event draft part = search (rules, unless_plain, given_plain, handed_plain)

-- a part of no kind
other_plain : (event : Name) (draft : Draft) (part : Piece) → Plain (with_other event draft part)
other_plain event draft part = from (starts_with ◌==◌ part.bytes (codes "onmatch("))
  where
    from : (b : Bool) → Plain (if b then with_onmatch event draft part else with_variable event draft part)
    from true = onmatch_plain event draft part
    from false = variable_plain event draft part

-- a part of a kind, or another
or_kind : (event : Name) (draft : Draft) (part : Piece) (label : Option (List ℕ × Kind)) → Plain (option_map_or (λ label. with_kind event draft label.1 (part.place + length label.0) (drop (length label.0) part.bytes)) label (with_other event draft part))
or_kind event draft part (Some label) = kind_plain event draft label.1 _ _
or_kind event draft part None = other_plain event draft part

-- a part of either sort
part_plain : (event : Name) (draft : Draft) (part : Piece) → Plain (with_part event draft part)
unfolding with_part
part_plain event draft part = search (rules, unless_plain, or_kind)

-- the parts of a head
parts_plain : (event : Name) (draft : Draft) (parts : List Piece) → Plain (parts_from event draft parts)
unfolding parts_from
parts_plain event draft [] = tt
parts_plain event draft (part ∷ parts) = then_plain (with_part event draft part) (λ more. parts_from event more parts) (part_plain event draft part) (λ more. parts_plain event more parts)

-- what values name
values_plain : (event : Name) (own : Option (List ℕ)) (words : List Word) → Plain (value_items event own words)
values_plain event own [] = tt
values_plain event own (word ∷ words) = let rest = values_plain event own words in search (rules, given_plain, then_plain)

-- what sort items name
sorts_plain : (keys : List KeyItem) (values : List Item) (own : Option (List ℕ)) (words : List Word) → Plain (sorts_of keys values own words)
sorts_plain keys values own [] = tt
sorts_plain keys values own (word ∷ words) = let rest = sorts_plain keys values own words in search (rules, given_plain, then_plain)

-- what sort items name, if there are some
sort_words_plain : (keys : List KeyItem) (values : List Item) (own : Option (List ℕ)) (words : Option (List Word)) → Plain (sort_of keys values own words)
sort_words_plain keys values own (Some words) = sorts_plain keys values own words
sort_words_plain keys values own None = tt

-- no such step has the fault that a filter ran out of memory
no_filter : {A : Type 0} (step : Result A TriggerFault) (fault : TriggerFault) → Plain step → (fault ≡ Memory) ⊎ (step ≡ Err fault) → fault ≢ BadFilter filters.Memory
no_filter step fault plain (inl memory) = λ filter. true≢false (ap is_plain (sym memory ∙ filter))
no_filter step fault plain (inr is) = λ filter. true≢false (sym (subst Plain is plain) ∙ ap is_plain filter)

-- the parts of a head
pub parts_no_filter : (event : Name) (draft : Draft) (parts : List Piece) (fault : TriggerFault) → (fault ≡ Memory) ⊎ (parts_from event draft parts ≡ Err fault) → fault ≢ BadFilter filters.Memory
parts_no_filter event draft parts fault gives = no_filter (parts_from event draft parts) fault (parts_plain event draft parts) gives

-- what values name
pub values_no_filter : (event : Name) (own : Option (List ℕ)) (words : List Word) (fault : TriggerFault) → (fault ≡ Memory) ⊎ (value_items event own words ≡ Err fault) → fault ≢ BadFilter filters.Memory
values_no_filter event own words fault gives = no_filter (value_items event own words) fault (values_plain event own words) gives

-- what sort items name
pub sort_no_filter : (keys : List KeyItem) (values : List Item) (own : Option (List ℕ)) (words : Option (List Word)) (fault : TriggerFault) → (fault ≡ Memory) ⊎ (sort_of keys values own words ≡ Err fault) → fault ≢ BadFilter filters.Memory
sort_no_filter keys values own words fault gives = no_filter (sort_of keys values own words) fault (sort_words_plain keys values own words) gives
