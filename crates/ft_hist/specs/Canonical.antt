-- The canonical text of a trigger, which is the one that is printed.
use Rattle.std.specs.Prelude.{ℕ, List, [], ◌∷◌, ◌++◌, slice_get, map, if◌then◌else◌, Option, Some, None, unwrap_or, codes, decimal}
use Rattle.std.specs.Option.{option_map_or}
use Rattle.ft_fields.specs.declared.event.Name.{Name}
use Rattle.ft_fields.specs.declared.field.Field.{Field}
use Rattle.ft_fields.specs.Fields.{field_text}
use Rattle.ft_fields.specs.Names.{name_text}
use Rattle.ft_filter.specs.Tree.{Tree}
use Rattle.ft_filter.specs.Canonical.{canonical as filter_text}
use Rattle.ft_hist.specs.declared.item.KeyItem.{KeyItem}
use Rattle.ft_hist.specs.declared.item.Item.{Item}
use Rattle.ft_hist.specs.declared.item.Item.TheVariants as items
use Rattle.ft_hist.specs.declared.item.SortBy.{SortBy}
use Rattle.ft_hist.specs.declared.item.SortBy.TheVariants as sorts
use Rattle.ft_hist.specs.declared.item.SortItem.{SortItem}
use Rattle.ft_hist.specs.declared.label.Var.{Var}
use Rattle.ft_hist.specs.declared.label.Var.TheVariants as vars
use Rattle.ft_hist.specs.declared.onmatch.Onmatch.{Onmatch}
use Rattle.ft_hist.specs.Hist.{Hist}
use Rattle.ft_hist.specs.Modifiers.{mode_text}

-- texts, each after a `,`
abbrev pub more_items : List (List ℕ) → List ℕ
more_items [] = []
more_items (text ∷ texts) = codes "," ++ text ++ more_items texts

-- texts with a `,` between each two
abbrev pub listed : List (List ℕ) → List ℕ
listed [] = []
listed (text ∷ texts) = text ++ more_items texts

-- a key item: a field and its modifier (kernel: histogram.rst, `keys`)
abbrev pub key_item_text : KeyItem → List ℕ
key_item_text key = field_text key.field ++ mode_text key.mode

-- the own name of a trigger's variable (kernel: histogram.rst, inter-event hist triggers)
abbrev pub variable_name : Option Var → List ℕ
variable_name None = []
variable_name (Some (vars.Saves name)) = name
variable_name (Some (vars.Reads own source)) = own

-- a value item: a field, or the own variable after a `$` (kernel: histogram.rst, `values`)
abbrev pub value_text : Option Var → Item → List ℕ
value_text variable (items.Num field) = field_text field
value_text variable items.Own = codes "$" ++ variable_name variable

-- what rows are sorted by: `hitcount`, a key's field, or a value (kernel: histogram.rst, `sort`)
abbrev pub by_text : Hist → SortBy → List ℕ
by_text hist sorts.Hits = codes "hitcount"
by_text hist (sorts.Key n) = option_map_or (λ key. field_text key.field) (slice_get hist.keys n) []
by_text hist (sorts.Value n) = option_map_or (value_text hist.variable) (slice_get hist.values n) []

-- a sort item, with the suffix `.descending` exactly if the greatest comes first (kernel: histogram.rst, `sort`)
abbrev pub sort_text : Hist → SortItem → List ℕ
sort_text hist item = by_text hist item.what ++ (if item.descending then codes ".descending" else [])

-- a variable's part, after a `:` (kernel: histogram.rst, inter-event hist triggers)
abbrev pub variable_text : Option Var → List ℕ
variable_text None = []
variable_text (Some (vars.Saves name)) = codes ":" ++ name ++ codes "=common_timestamp.usecs"
variable_text (Some (vars.Reads own source)) = codes ":" ++ own ++ codes "=common_timestamp.usecs-$" ++ source

-- the event at which the stamp is saved, after `onmatch` (kernel: histogram.rst, the `onmatch` handler)
abbrev pub matching_text : Name → List ℕ
matching_text event = codes "onmatch(sched." ++ unwrap_or (name_text event) []

-- a field that is handed on, after a `,` (kernel: histogram.rst, the `onmatch` handler)
abbrev pub param_text : Field → List ℕ
param_text field = codes "," ++ field_text field

-- the event that is made, with what is handed on: the own variable of this name, and two fields (kernel: histogram.rst, the `onmatch` handler)
abbrev pub making_text : List ℕ → Onmatch → List ℕ
making_text own onmatch = codes ").wakeup_latency($" ++ own ++ param_text onmatch.pid ++ param_text onmatch.prio ++ codes ")"

-- an onmatch part, of a trigger whose own variable has this name (kernel: histogram.rst, the `onmatch` handler)
abbrev pub onmatch_part : List ℕ → Onmatch → List ℕ
onmatch_part own onmatch = matching_text onmatch.event ++ making_text own onmatch

-- an onmatch part after a `:`, if there is one (kernel: histogram.rst, the `onmatch` handler)
abbrev pub onmatch_text : Option Var → Option Onmatch → List ℕ
onmatch_text variable None = []
onmatch_text variable (Some onmatch) = codes ":" ++ onmatch_part (variable_name variable) onmatch

-- a filter, after `if` (kernel: events.rst, `if` before a filter)
abbrev pub if_text : Option Tree → List ℕ
if_text None = []
if_text (Some tree) = codes " if " ++ filter_text tree

-- a trigger's canonical text: keys, values with `hitcount` in front, variable, sort items, size, onmatch part, filter
unfoldable pub canonical : Hist → List ℕ
canonical hist =
    codes "hist:keys=" ++ listed (map key_item_text hist.keys)
    ++ codes ":vals=hitcount" ++ more_items (map (value_text hist.variable) hist.values)
    ++ variable_text hist.variable
    ++ codes ":sort=" ++ listed (map (sort_text hist) hist.sort)
    ++ codes ":size=" ++ decimal hist.size
    ++ onmatch_text hist.variable hist.onmatch
    ++ if_text hist.filter
